use Rattle.std.proofs.Common.{◌≡◌, ◌∙◌, ap, sym, subst}
use Rattle.tests.specs.Files.File.{IsReadAs}
use Rattle.tests.specs.Elf.FileRead.{file_read}
use Rattle.tests.specs.Elf.Layout.{written, IsWritable}
use Rattle.test_gen.specs.Generated.{generated_file_of, generated}
use Rattle.test_gen.specs.Outputs.{IsWeavable}
use Rattle.test_gen.proofs.Within.{test_weavable}
use Rattle.test_gen.proofs.Admitted.{admitted}
use Rattle.test_gen.proofs.Ending.{test_ends}
use Rattle.test_gen.proofs.Writable.{writable}
use Rattle.test_gen.proofs.file.generate.Goals as goal

pub write_elf-requires : goal.write_elf-requires
write_elf-requires c = subst IsWritable (sym c.in_ok-file.ensures) (writable c.args.seed c.function_count.result c.function_count.ensures.bound)

pub returns : goal.returns
unfolding generated
returns c =
    let bytes = c.in_ok-bytes.bytes in
    let seed = c.args.seed in
    let size = c.args.size in
    let some = c.requires.some in
    let most = c.requires.most in
    let is : c.in_ok-file.file ≡ generated seed size = c.in_ok-file.ensures ∙ ap (generated_file_of seed) c.function_count.ensures.value in
    let same : bytes ≡ written (generated seed size) = c.in_ok-bytes.ensures.written ∙ ap written is in
    let read = subst (λ g. IsReadAs bytes (file_read g)) is c.in_ok-bytes.ensures.reads_back in
    record {
      file = same;
      readable = read;
      admitted = λ f r. admitted seed size bytes some most read f r;
      ends = λ f r regs start_regs. test_ends seed size bytes some most read f r regs start_regs;
      weavable = subst IsWeavable (sym same) (test_weavable seed size some most);
    }

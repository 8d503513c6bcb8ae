use Rattle.std.proofs.Common.{ℕ, List}
use Rattle.elf_types.specs.declared.file.ElfFile.{ElfFile}
use Rattle.tests.specs.declared.options.Options.{Options}
use Rattle.tests.specs.Files.File.{IsReadAs}
use Rattle.block_split.specs.declared.block.CodeBlock.{CodeBlock}
use Rattle.transform.specs.Unwritten.{IsUnwritten}
use Rattle.transform.specs.declared.error.TransformError.{TransformError}
use Rattle.transform.specs.declared.error.TransformError.TheVariants as error
use Rattle.transform.specs.declared.unwritten.Unwritten.{Unwritten}
use Rattle.transform.specs.Transform.{HasCause}
use Rattle.transform.proofs.Promises.{writes, done, exceeded, if_err}
use Rattle.transform.proofs.whole.finish.Goals as goal

abbrev Refused : Unwritten → TransformError → Type 0
Refused made e = (input : List ℕ) (f : ElfFile) (o : Options) (blocks : List CodeBlock) → IsReadAs input f → IsUnwritten f o blocks made.out made.plan → HasCause input o e

pub returns-in_err-check_limits-clause-refused : goal.returns-in_err-check_limits-clause-refused
returns-in_err-check_limits-clause-refused c =
    let made = c.args.made in
    let e = c.in_err-check_limits.field-0.0 in
    if_err c.from_residual.result e (Refused made) c.from_residual.ensures.1
    (λ input f o blocks read is. exceeded input f o blocks made.out made.plan read is e c.in_err-check_limits.ensures.exceeds)

pub write_elf-requires : goal.write_elf-requires
write_elf-requires c =
    let r = c.requires in
    writes r.0 r.1 r.2 r.3 c.args.made.out c.args.made.plan r.4 r.5 c.in_ok-check_limits.ensures.short

pub returns-in_err-file-clause-refused : goal.returns-in_err-file-clause-refused
returns-in_err-file-clause-refused c =
    if_err c.from_residual-in_err-file.result error.Memory (Refused c.args.made) c.from_residual-in_err-file.ensures.1 (λ input f o blocks read is. tt)

pub returns-clause-done : goal.returns-clause-done
returns-clause-done c = λ input f o blocks read is.
    done input f o blocks c.args.made.out c.args.made.plan read is c.in_ok-check_limits.ensures.short c.in_ok-file.file c.in_ok-file.ensures.written c.in_ok-file.ensures.reads_back

use Rattle.std.proofs.Common.{◌≡◌, List, ℕ, ◌∙◌, subst, sym}
use Rattle.tests.specs.Files.File.{IsReadAs}
use Rattle.tests.specs.Elf.FileRead.{file_read}
use Rattle.tests.specs.Elf.Layout.{written}
use Rattle.elf_write.proofs.Sizes.{ends_within}
use Rattle.elf_write.proofs.WholeRead.{reads_back}
use Rattle.elf_write.proofs.write.write_elf.Goals as goal

pub push_parts-requires-clause-size : goal.push_parts-requires-clause-size
push_parts-requires-clause-size c = ends_within _ c.args.file.now c.requires.size

pub returns : goal.returns
returns c =
    let f = c.args.file.now in
    let same : c.of.result ≡ written f = c.of.ensures ∙ (rw c.new-out.ensures.items at c.in_ok-push_parts.ensures.bytes) in
    let fits = c.in_ok-push_parts.ensures.fits in
    let back : IsReadAs (written f) (file_read f) = reads_back f c.requires fits.entry fits.flags fits.segments fits.sections fits.symbols in
    record { written = same; reads_back = subst (λ (bytes : List ℕ). IsReadAs bytes (file_read f)) (sym same) back }

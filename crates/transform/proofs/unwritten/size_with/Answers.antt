use Rattle.std.proofs.Common.{ap, ◌∙◌, length, map, arith}
use Rattle.tests.specs.Elf.Layout.{names_bytes}
use Rattle.transform.proofs.Sizes.{length_with}
use Rattle.transform.proofs.unwritten.size_with.Goals as goal

pub returns : goal.returns
returns c = λ symbols none room.
    let names = c.names_size.ensures.value ∙ ap (λ xs. length (names_bytes (map (λ x. x.name) xs))) c.as_slice.ensures in
    let all = length_with c.args.bare.now symbols c.names_size.result none names in
    omega (arith, all, room, c.file_size.ensures, c.in_ok-size.ensures, c.in_ok-size-2.ensures)

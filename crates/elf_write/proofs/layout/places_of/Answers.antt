use Rattle.std.proofs.Common.{refl, arith}
use Rattle.tests.specs.Elf.Layout.{own_place, symbols_place, strings_place, names_place, headers_place}
use Rattle.elf_write.proofs.Sizes.{length-section_names}
use Rattle.elf_write.proofs.layout.places_of.Goals as goal

pub returns-clause-places : goal.returns-clause-places
unfolding own_place symbols_place strings_place names_place headers_place
returns-clause-places c =
    let long = length-section_names c.args.file.now.sections in
    rw (c.aligned-headers.ensures.value, c.aligned-table.ensures.value, c.names_size.ensures.value, c.names_size-2.ensures.value, c.own_size.ensures.value, c.end_from-own.ensures.value, c.as_slice-segments.ensures, c.as_slice-sections.ensures, c.as_slice-symbols.ensures)
    (record { start = refl; own = refl; own_end = refl; symbols = refl; strings = refl; names = omega arith; names_end = omega (arith, long); headers = omega (arith, long) })

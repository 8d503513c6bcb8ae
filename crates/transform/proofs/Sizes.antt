-- The size of a file with symbols, from its size without.
use Rattle.std.proofs.Common.{◌≡◌, ℕ, ◌+◌, ◌*◌, ◌/◌, ◌%◌, List, [], length, map, ap, arith}
use Rattle.elf_types.specs.declared.file.Symbol.{Symbol}
use Rattle.elf_types.specs.declared.output.OutFile.{OutFile}
use Rattle.tests.specs.Elf.Layout.{names_bytes, symbol_names, own_place, symbols_place, strings_place, names_place, headers_place, written}
use Rattle.elf_write.proofs.Sizes.{length-section_names, length-written}
use Rattle.output_file.specs.Sizes.{symbols_room}

pub length_with :
    (f : OutFile) (symbols : List Symbol) (names : ℕ) → f.symbols ≡ [] → names ≡ length (names_bytes (map (λ x. x.name) f.sections))
    → length (written (record f { symbols = symbols })) ≡ (length (written f) + symbols_room symbols + (names + 3) % 8) / 8 * 8
unfolding own_place symbols_place strings_place names_place headers_place
length_with f symbols names none is =
    let g : OutFile = record f { symbols = symbols } in
    let bare = length-written f in
    let full = length-written g in
    let tables = length-section_names f.sections in
    let no_symbols = ap length none in
    let no_names = ap (λ s. length (names_bytes (symbol_names s))) none in
    omega (arith, bare, full, tables, no_symbols, no_names, is)

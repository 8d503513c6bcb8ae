use Rattle.std.proofs.Common.{◌≡◌, ◌+◌, ◌*◌, ◌-◌, length, map, arith, append_assoc}
use Rattle.std.proofs.lemmas.List.{append-nil}
use Rattle.tests.specs.Elf.Layout.{table_headers, string_table, symbol_names, section_names}
use Rattle.elf_write.proofs.Sizes.{laid_out, length-section_names}
use Rattle.elf_write.proofs.parts.push_table_headers.Goals as goal

pub overflow_sub-name-2 : goal.overflow_sub-name-2
overflow_sub-name-2 c = omega (arith, length-section_names c.args.file.now.sections)

pub returns : goal.returns
unfolding table_headers
returns c =
    let f = c.args.file.now in
    let p = c.args.places.now in
    let is = laid_out f in
    let name : p.names_end - p.names - 26 ≡ length (string_table (map (λ x. x.name) f.sections)) = omega (arith, length-section_names f.sections) in
    let symbols : p.strings - p.symbols ≡ 24 * (1 + length f.symbols) = omega (arith, is.strings) in
    let strings : p.names - p.strings ≡ length (string_table (symbol_names f.symbols)) = omega (arith, is.names) in
    let last : p.names_end - p.names ≡ length (string_table (section_names f.sections)) = omega arith in
    rw (c.in_ok-push_section_header-3.ensures, c.in_ok-push_section_header-2.ensures, c.in_ok-push_section_header.ensures, c.table_header-2.ensures, c.table_header.ensures, c.table_header-symtab.ensures, c.first_global.ensures.value, c.as_slice-2.ensures, c.as_slice.ensures, name, symbols, strings, last, c.requires.places.symbols, c.requires.places.strings, c.requires.places.names) (simp (append_assoc, append-nil))

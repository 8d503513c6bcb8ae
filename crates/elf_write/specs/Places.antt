-- The places of a file's parts, and what is asked of them where the file is written.
use Rattle.std.specs.Prelude.{◌≡◌, ℕ, ◌+◌, ◌≤◌, length, map}
use Rattle.elf_types.specs.declared.output.OutFile.{OutFile}
use Rattle.elf_write.specs.declared.layout.Places.{Places}
use Rattle.tests.specs.Elf.Written.{end_from}
use Rattle.tests.specs.Elf.Layout.{names_bytes, string_table, symbol_names, section_names, own_bytes, parts_start, own_place, symbols_place, strings_place}
use Rattle.tests.specs.Elf.Layout.{names_place, headers_place}

-- the places are those of the file
pub record ArePlaces (f : OutFile) (p : Places) : Type 0 where
  pub start : p.start ≡ parts_start f
  pub own : p.own ≡ own_place f
  pub own_end : p.own_end ≡ own_place f + length (own_bytes f.sections)
  pub symbols : p.symbols ≡ symbols_place f
  pub strings : p.strings ≡ strings_place f
  pub names : p.names ≡ names_place f
  pub names_end : p.names_end ≡ names_place f + length (string_table (section_names f.sections))
  pub headers : p.headers ≡ headers_place f

-- no part ends behind n bytes, and the parts come one behind the other
pub record PartsEndWithin (n : ℕ) (f : OutFile) : Type 0 where
  pub segments : end_from (parts_start f) f.segments ≤ n
  pub own : own_place f + length (own_bytes f.sections) ≤ symbols_place f
  pub symbols : symbols_place f ≤ n
  pub strings : strings_place f ≤ n
  pub strings_size : length (names_bytes (symbol_names f.symbols)) ≤ n
  pub names : names_place f ≤ n
  pub names_size : length (names_bytes (map (λ x. x.name) f.sections)) ≤ n
  pub names_end : names_place f + length (string_table (section_names f.sections)) ≤ headers_place f
  pub headers : headers_place f ≤ n

-- Files of such segments and sections can be written.
use Rattle.std.proofs.Common.{◌≡◌, ℕ, ◌+◌, ◌*◌, ◌^◌, ◌≤◌, true, List, length, refl, sym, ◌∙◌, arith}
use Rattle.std.specs.Prelude.{nat_le}
use Rattle.std.proofs.lemmas.Bool.{and_from, le-leb, false≢true}
use Rattle.elf_types.specs.declared.file.Segment.{Segment}
use Rattle.elf_types.specs.declared.output.OutFile.{OutFile}
use Rattle.elf_types.specs.Abi.{has_alloc}
use Rattle.tests.specs.Elf.Written.{offset_from}
use Rattle.tests.specs.Elf.Layout.{written, string_table, symbol_names, own_bytes, own_place, symbols_place, strings_place, names_place, headers_place, section_names, is_inside, IsLoadable, IsPlaced}
use Rattle.machine.proofs.Lemmas.{any_passing}
use Rattle.machine.specs.Members.{Among}
use Rattle.elf_write.proofs.Sizes.{length-written}
use Rattle.elf_write.specs.Plain.{segment, section}

-- ---- segments
pub loadable : (flags at : ℕ) (bytes : List ℕ) → at + length bytes ≤ 2 ^ 64 → IsLoadable (segment flags at bytes)
loadable flags at bytes h = record { kind = refl; memory = omega arith; fits = h }

pub offset_room : (at address : ℕ) → offset_from at address ≤ at + 4095
offset_room at address = omega arith

-- ---- sections
pub inside_itself : (name : List ℕ) (flags : ℕ) (f at : ℕ) (bytes : List ℕ) → is_inside (section name flags (segment f at bytes)) (segment f at bytes) ≡ true
inside_itself name flags f at bytes = and_from (nat_le at at) (nat_le (at + length bytes) (at + length bytes)) (le-leb at at (omega arith)) (le-leb (at + length bytes) (at + length bytes) (omega arith))

pub placed :
    (name : List ℕ) (flags : ℕ) (s : Segment) → has_alloc flags ≡ true → (segments : List Segment) → Among s segments → is_inside (section name flags s) s ≡ true
    → IsPlaced segments (section name flags s)
placed name flags s a segments m i = record { none = λ e. refl; inside = λ e. any_passing (is_inside (section name flags s)) s segments m i; own = λ e. absurd (false≢true (sym e ∙ a)) }

-- ---- files
-- a file ends not far behind its parts
pub upper :
    (f : OutFile) → length (written f) ≤ own_place f + length (own_bytes f.sections) + 24 * (1 + length f.symbols) + length (string_table (symbol_names f.symbols)) + length (string_table (section_names f.sections)) + 64 * (length f.sections + 4) + 14
unfolding symbols_place strings_place names_place headers_place
upper f = omega (arith, length-written f)

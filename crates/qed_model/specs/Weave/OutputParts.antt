-- The parts of the output: segments, sections and symbols, made of the input's. Names and numbers are the ELF gABI's.
use Rattle.std.specs.Prelude.{ℕ, ◌+◌, ◌*◌, ◌/◌, Bool, true, false, nat_lt, nat_le, ◌&&◌, not, if◌then◌else◌, Option, Some, None, List, [], ◌++◌, length, map}
use Rattle.std.specs.Prelude.{codes}
use Rattle.std.specs.List.{filter, flat_map}
use Rattle.elf_types.specs.declared.file.Segment.{Segment}
use Rattle.elf_types.specs.declared.file.Symbol.{Symbol}
use Rattle.elf_types.specs.declared.output.OutSection.{OutSection}
use Rattle.elf_types.specs.declared.abi.TheConstants.{PT_LOAD, PF_R, PF_X, SHF_ALLOC, SHF_EXECINSTR, STT_FUNC, SHN_ABS}
pub use Rattle.elf_types.specs.Symbol.{is_defined, may_name_code, is_local}
use Rattle.qed_model.specs.declared.plan.EntryRow.{EntryRow}
use Rattle.machine.specs.Numbers.{number_bytes}
use Rattle.qed_model.specs.Weave.Placed.{entry_at}

-- ---- segments
-- a segment at a distance from its place
abbrev pub shifted : ℕ → Segment → Segment
shifted distance s = record { kind = s.kind; flags = s.flags; address = s.address + distance; memory = s.memory; bytes = s.bytes }

-- without PF_X, whose value is 1
abbrev pub copied : ℕ → Segment → Segment
copied distance s = record (shifted distance s) { flags = s.flags / 2 * 2 }

abbrev pub copies : ℕ → List Segment → List Segment
copies distance segments = map (copied distance) segments

-- with PF_R and PF_X, and all its bytes in the file
abbrev pub code_segment : ℕ → List ℕ → Segment
code_segment at code = record { kind = PT_LOAD; flags = PF_R + PF_X; address = at; memory = length code; bytes = code }

-- ---- sections
-- over the new code, with SHF_ALLOC and SHF_EXECINSTR
abbrev pub text_section : ℕ → List ℕ → OutSection
text_section at code = record { name = codes ".qed.text"; flags = SHF_ALLOC + SHF_EXECINSTR; address = at; size = length code; bytes = [] }

-- the input address and the new address of an entry, 8 bytes each
unfoldable pub row_bytes : EntryRow → List ℕ
row_bytes row = number_bytes 8 row.input ++ number_bytes 8 row.output

abbrev pub map_bytes : List EntryRow → List ℕ
map_bytes rows = flat_map row_bytes rows

abbrev pub map_section : List EntryRow → OutSection
map_section rows = record { name = codes ".qed.map"; flags = 0; address = 0; size = 16 * length rows; bytes = map_bytes rows }

-- ---- symbols
-- named and defined, of type STT_NOTYPE, STT_OBJECT or STT_FUNC
abbrev pub is_kept : Symbol → Bool
is_kept s = nat_lt 0 (length s.name) && (is_defined s && nat_le s.kind STT_FUNC)

-- the symbol with a value and a size, and SHN_ABS as its section
abbrev pub valued : Symbol → ℕ → ℕ → Symbol
valued s value size = record { name = s.name; value = value; size = size; kind = s.kind; binding = s.binding; other = s.other; index = SHN_ABS }

-- the symbol at its new address, where it has one
abbrev pub at_entry : Symbol → Option ℕ → Symbol
at_entry s None = valued s s.value s.size
at_entry s (Some a) = valued s a 0

abbrev pub out_symbol : List EntryRow → Symbol → Symbol
out_symbol rows s = at_entry s (if may_name_code s then entry_at rows s.value else None)

-- the symbols that are STB_LOCAL, or those that are not, in their order
abbrev pub symbol_group : Bool → List EntryRow → List Symbol → List Symbol
symbol_group local rows symbols = map (out_symbol rows) (filter (λ s. is_kept s && (if local then is_local s else not (is_local s))) symbols)

-- the symbols of the output: those that are STB_LOCAL come first
abbrev pub out_symbols : List EntryRow → List Symbol → List Symbol
out_symbols rows symbols = symbol_group true rows symbols ++ symbol_group false rows symbols

-- The code of a file that was read: its addresses, the word at each, and the instruction of that word. Code ranges are
-- by their first address and the one behind their last.
use Rattle.std.specs.Prelude.{◌≡◌, ℕ, ◌<◌, Bool, Option, None, if◌then◌else◌, List, Contains, ◌↔◌, true, AllPairs}
pub use Rattle.elf_types.specs.declared.file.ElfFile.{ElfFile}
pub use Rattle.rv_isa.specs.declared.ins.Ins.{Ins}
use Rattle.machine.specs.Table.{decode_of}
use Rattle.machine.specs.Program.{LoadSegment}
use Rattle.machine.specs.Loading.{load_segments, code_ranges}
use Rattle.tests.specs.Admission.Terms.{is_code_address}
use Rattle.machine.specs.Cells.{number_among}

-- the segments of type PT_LOAD, as they are loaded
abbrev pub loads_of : ElfFile → List LoadSegment
loads_of f = load_segments f.segments

abbrev pub ranges_of : ElfFile → List (ℕ × ℕ)
ranges_of f = code_ranges (loads_of f) f.sections

-- a code address
abbrev pub is_code : ElfFile → ℕ → Bool
is_code f a = is_code_address (ranges_of f) a

-- the 32-bit word of the loaded image
abbrev pub word_at : ElfFile → ℕ → ℕ
word_at f a = number_among (loads_of f) a 4

-- the instruction at a code address, where its word has one
abbrev pub instruction_at : ElfFile → ℕ → Option Ins
instruction_at f a = if is_code f a then decode_of (word_at f a) else None

-- all code addresses, in ascending order
pub record AreCodeAddresses (f : ElfFile) (addresses : List ℕ) : Type 0 where
  pub ascend : AllPairs (λ a b. a < b) addresses
  pub all : (a : ℕ) → Contains addresses a ↔ (is_code f a ≡ true)

-- The file that a machine starts from, as its segments and sections describe it (ELF gABI, program loading).
use Rattle.std.specs.Prelude.{ℕ, ◌+◌, ◌&&◌, ◌||◌, Bool, false, cond, nat_lt, nat_le, List, [], ◌∷◌}
pub use Rattle.elf_types.specs.declared.file.Segment.{Segment}
use Rattle.elf_types.specs.declared.file.Section.{Section}
pub use Rattle.elf_types.specs.declared.file.ElfFile.{ElfFile}
use Rattle.elf_types.specs.Abi.{is_load}
pub use Rattle.elf_types.specs.Section.{is_code_section}
use Rattle.machine.specs.Program.{Program, LoadSegment}
use Rattle.machine.specs.Memory.{flags_of}

-- a segment as it is loaded
abbrev pub load_segment : Segment → LoadSegment
load_segment s = record { address = s.address; size = s.memory; flags = flags_of s.flags; bytes = s.bytes }

-- the segments of type PT_LOAD
abbrev pub load_segments : List Segment → List LoadSegment
load_segments [] = []
load_segments (s ∷ ss) = cond (is_load s.kind) (load_segment s ∷ load_segments ss) (load_segments ss)

-- ---- code ranges: each by its first address and the one behind its last
-- the section lies wholly inside the segment, which is executable
abbrev pub lies_in_code : Section → LoadSegment → Bool
lies_in_code s l = l.flags.execute && (nat_le l.address s.address && nat_le (s.address + s.size) (l.address + l.size))

abbrev pub lies_in_any : Section → List LoadSegment → Bool
lies_in_any s [] = false
lies_in_any s (l ∷ ls) = lies_in_code s l || lies_in_any s ls

-- the executable sections that lie wholly inside one executable segment
abbrev pub section_ranges : List LoadSegment → List Section → List (ℕ × ℕ)
section_ranges ls [] = []
section_ranges ls (s ∷ ss) = cond (is_code_section s && lies_in_any s ls) ((s.address, s.address + s.size) ∷ section_ranges ls ss) (section_ranges ls ss)

-- the executable segments that have bytes in memory
abbrev pub segment_ranges : List LoadSegment → List (ℕ × ℕ)
segment_ranges [] = []
segment_ranges (l ∷ ls) = cond (l.flags.execute && nat_lt 0 l.size) ((l.address, l.address + l.size) ∷ segment_ranges ls) (segment_ranges ls)

-- the first list where it has any, else the second
abbrev pub first_some : List (ℕ × ℕ) → List (ℕ × ℕ) → List (ℕ × ℕ)
first_some [] ys = ys
first_some (x ∷ xs) ys = x ∷ xs

-- the sections of code, or without any the segments of code
abbrev pub code_ranges : List LoadSegment → List Section → List (ℕ × ℕ)
code_ranges ls ss = first_some (section_ranges ls ss) (segment_ranges ls)

-- what the headers of a file describe
abbrev pub loaded_file : ElfFile → Program
loaded_file f = record { entry = f.entry; ranges = code_ranges (load_segments f.segments) f.sections; segments = load_segments f.segments }

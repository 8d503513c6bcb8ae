-- What a machine starts from, and the state in which it starts (ELF gABI, program loading).
use Rattle.std.specs.Prelude.{◌≡◌, ℕ, ◌-◌, ◌^◌, ◌<◌, List, [], ◌∷◌, ◌++◌, length, replicate, slice_set, slice_index}
use Rattle.std.specs.FinMap.{from_entries}
use Rattle.machine.specs.Step.{Going, State}
use Rattle.machine.specs.Memory.{Flags, Cell, Memory, cells_from}

-- a PT_LOAD segment: its address, size in memory, permissions, and bytes in the file (ELF gABI, program header)
pub record LoadSegment : Type 0 where
  pub address : ℕ
  pub size : ℕ
  pub flags : Flags
  pub bytes : List ℕ

-- what a machine starts from: entry point, code ranges by first address and the one behind the last, PT_LOAD segments
pub record Program : Type 0 where
  pub entry : ℕ
  pub ranges : List (ℕ × ℕ)
  pub segments : List LoadSegment

-- the bytes of each segment, then zeros up to its size in memory
abbrev pub cells_of : List LoadSegment → List (ℕ × Cell)
cells_of [] = []
cells_of (s ∷ ss) = cells_from s.address s.flags (s.bytes ++ replicate (s.size - length s.bytes) 0) ++ cells_of ss

-- the memory that the headers describe
unfoldable pub memory_of : List LoadSegment → Memory
memory_of ss = from_entries (cells_of ss)

-- the state in which a program starts with these registers, where x0 is 0
abbrev pub start : Program → List ℕ → State
start f regs = record { regs = slice_set regs 0 0; pc = f.entry; memory = memory_of f.segments; ranges = f.ranges; outcome = Going }

-- any 32 numbers of 64 bits
pub record AreStartRegs (regs : List ℕ) : Type 0 where
  pub count : length regs ≡ 32
  pub fit : (r : ℕ) → slice_index regs r < 2 ^ 64

-- all registers 0
abbrev pub zeros : List ℕ
zeros = replicate 32 0

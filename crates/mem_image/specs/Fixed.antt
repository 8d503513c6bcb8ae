-- Segments that stand in a memory, where no store changes them.
use Rattle.std.specs.Prelude.{◌≡◌, ℕ, ◌+◌, ◌≤◌, ◌^◌, ◌&&◌, Bool, true, false, not, Some}
use Rattle.machine.specs.Memory.{Flags, Memory, allows, get}
use Rattle.machine.specs.Program.{LoadSegment}
use Rattle.machine.specs.Cells.{has, cell_at}

-- a byte that may be executed and not written, and an address of one
abbrev pub is_code_flags : Flags → Bool
is_code_flags f = f.execute && not f.write

abbrev pub has_code : Memory → ℕ → Bool
has_code m q = allows is_code_flags (get m q)

-- the memory has the cells of the segment, which ends at 2^64 or before
pub record HasCells (m : Memory) (s : LoadSegment) : Type 0 where
  pub cells : (q : ℕ) → has s q ≡ true → get m q ≡ Some (cell_at s q)
  pub ends : s.address + s.size ≤ 2 ^ 64

-- the memory has the segment, whose bytes may be executed, but not written
pub record IsFixedCode (m : Memory) (s : LoadSegment) : Type 0 where
  pub stands : HasCells m s
  pub executed : s.flags.execute ≡ true
  pub unwritten : s.flags.write ≡ false

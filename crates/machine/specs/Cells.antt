-- What segments have at each address (ELF gABI, program loading).
use Rattle.std.specs.Prelude.{ℕ, zero, suc, ◌+◌, ◌-◌, ◌*◌, Bool, cond, nat_le, nat_lt, ◌&&◌, List, [], ◌∷◌, Option, Some, None, slice_index}
use Rattle.machine.specs.Memory.{Cell, byte_in}
use Rattle.machine.specs.Program.{LoadSegment}

-- the segment has the address
abbrev pub has : LoadSegment → ℕ → Bool
has s q = nat_le s.address q && nat_lt q (s.address + s.size)

-- what it has there: a byte of the file, or 0 behind them
abbrev pub cell_at : LoadSegment → ℕ → Cell
cell_at s q = record { byte = slice_index s.bytes (q - s.address); flags = s.flags }

-- the cell of an address, in the first segment that has it; a file that was read has no two that share one
abbrev pub cell_among : List LoadSegment → ℕ → Option Cell
cell_among [] q = None
cell_among (s ∷ ss) q = cond (has s q) (Some (cell_at s q)) (cell_among ss q)

-- the byte of an address, 0 where there is none
abbrev pub byte_among : List LoadSegment → ℕ → ℕ
byte_among ss q = byte_in (cell_among ss q)

-- the little-endian number of n bytes from an address on
unfoldable pub number_among : List LoadSegment → ℕ → ℕ → ℕ
number_among ss a zero = 0
number_among ss a (suc n) = byte_among ss a + 256 * number_among ss (a + 1) n

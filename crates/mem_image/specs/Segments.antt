-- Segments in memory: which is the first that has an address, and those with other bytes.
use Rattle.std.specs.Prelude.{◌≡◌, ℕ, zero, suc, ◌+◌, ◌-◌, ◌*◌, ◌<◌, ◌&&◌, Bool, true, false, nat_le, List, length, slice_index, slice_get, slice_set, Some}
use Rattle.machine.specs.Memory.{Memory, byte_of, get}
use Rattle.machine.specs.Program.{LoadSegment}
use Rattle.machine.specs.Cells.{has, cell_at}

-- the segment at place k is the first that has the address
pub record IsFirst (ss : List LoadSegment) (q k : ℕ) : Type 0 where
  pub found : (s : LoadSegment) × ((slice_get ss k ≡ Some s) × (has s q ≡ true))
  pub before : (j : ℕ) (s : LoadSegment) → j < k → slice_get ss j ≡ Some s → has s q ≡ false

-- the memory has at the address what the segment has there
pub record HoldsSegment (m : Memory) (s : LoadSegment) (q : ℕ) : Type 0 where
  pub cell : get m q ≡ Some (cell_at s q)
  pub inside : has s q ≡ true

-- the segment with another byte at an address
abbrev pub with_byte_at : LoadSegment → ℕ → ℕ → LoadSegment
with_byte_at s a v = record { address = s.address; size = s.size; flags = s.flags; bytes = slice_set s.bytes (a - s.address) v }

-- the segment has each of the n addresses from a on
abbrev pub has_all : LoadSegment → ℕ → ℕ → Bool
has_all s a n = has s a && nat_le n (s.size - (a - s.address))

-- the segment at place k has each of the n addresses from a on
pub record IsWholeAt (ss : List LoadSegment) (a n k : ℕ) : Type 0 where
  pub segment : LoadSegment
  pub stands : slice_get ss k ≡ Some segment
  pub has : has_all segment a n ≡ true

-- the little-endian number of n bytes from place i on
unfoldable pub number_in : List ℕ → ℕ → ℕ → ℕ
number_in bs i zero = 0
number_in bs i (suc n) = slice_index bs i + 256 * number_in bs (i + 1) n

-- the segment with the low n bytes of v from a on
unfoldable pub with_bytes_at : LoadSegment → ℕ → ℕ → ℕ → LoadSegment
with_bytes_at s a zero v = s
with_bytes_at s a (suc n) v = with_byte_at (with_bytes_at s a n v) (a + n) (byte_of v n)

-- the bytes with the low n bytes of v from place i on
unfoldable pub bytes_put : List ℕ → ℕ → ℕ → ℕ → List ℕ
bytes_put bs i zero v = bs
bytes_put bs i (suc n) v = slice_set (bytes_put bs i n v) (i + n) (byte_of v n)

-- a segment at the same addresses
pub record IsLike (s t : LoadSegment) : Type 0 where
  pub address : t.address ≡ s.address
  pub size : t.size ≡ s.size
  pub bytes : length t.bytes ≡ length s.bytes

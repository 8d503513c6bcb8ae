-- Pages that are made from segments.
use Rattle.std.specs.Prelude.{◌≡◌, ℕ, ◌+◌, ◌-◌, ◌^◌, ◌<◌, ◌≤◌, nat_eq, Bool, true, cond, List, length, Some, All, Contains, slice_get, slice_index, min}
use Rattle.std.specs.List.{IsDistinct}
use Rattle.rv_isa.specs.declared.profile.TheConstants.{PAGE}
use Rattle.machine.specs.Memory.{Cell}
use Rattle.machine.specs.Program.{LoadSegment}
use Rattle.mem_image.specs.Overlap.{Ascends}
use Rattle.machine.specs.Apart.{AllFitMemory}
use Rattle.machine.specs.Cells.{has, cell_at, cell_among}

-- a page that holds the bytes from number d on, and zeros behind them
pub record HoldsFrom (bs : List ℕ) (d : ℕ) (page : List ℕ) : Type 0 where
  pub count : length page ≡ PAGE
  pub bytes : (i : ℕ) → i < PAGE → slice_index page i ≡ slice_index bs (d + i)

-- from each of the first `room` addresses of a page on it has eight bytes; if there are any, they have the permission
pub record HasRoom (allowed : Bool) (size room : ℕ) : Type 0 where
  pub granted : 0 < room → allowed ≡ true
  pub within : 0 < room → room + 7 ≤ size

-- a page of at most 4,096 bytes, which ends at 2^64 or before, with room for reads and for writes
pub record IsRoomy (start size : ℕ) (readable : Bool) (reads : ℕ) (writable : Bool) (writes : ℕ) : Type 0 where
  pub most : size ≤ PAGE
  pub ends : start + size ≤ 2 ^ 64
  pub read : HasRoom readable size reads
  pub write : HasRoom writable size writes

-- the segment h holds the bytes of the segment s from number d on, up to its own end or that of s
pub record IsPageOf (s : LoadSegment) (d : ℕ) (h : LoadSegment) : Type 0 where
  pub address : h.address ≡ s.address + d
  pub size : h.size ≡ min (s.size - d) PAGE
  pub flags : h.flags ≡ s.flags
  pub whole : length h.bytes ≡ h.size
  pub bytes : (i : ℕ) → i < h.size → slice_index h.bytes i ≡ slice_index s.bytes (d + i)

-- pages by their addresses, none of them over the bound
pub record Below (pages : List LoadSegment) (bound : ℕ) : Type 0 where
  pub fit : AllFitMemory pages
  pub ascends : Ascends 0 pages
  pub ends : (k : ℕ) (s : LoadSegment) → slice_get pages k ≡ Some s → s.address + s.size ≤ bound

-- the first d addresses of a segment
abbrev pub first_part : LoadSegment → ℕ → LoadSegment
first_part s d = record { address = s.address; size = d; flags = s.flags; bytes = s.bytes }

-- the pages are the old ones with those of the first d bytes of the segment behind them
pub record IsPaged (old : List LoadSegment) (s : LoadSegment) (pages : List LoadSegment) (d : ℕ) : Type 0 where
  pub below : Below pages (s.address + d)
  pub cells : (q : ℕ) → cell_among pages q ≡ cond (has (first_part s d) q) (Some (cell_at s q)) (cell_among old q)

-- the address and the number, below n, of a segment that has bytes in memory
pub record IsPlace (ss : List LoadSegment) (n : ℕ) (p : ℕ × ℕ) : Type 0 where
  pub segment : LoadSegment
  pub below : p.1 < n
  pub stands : slice_get ss p.1 ≡ Some segment
  pub address : p.0 ≡ segment.address
  pub some : 0 < segment.size

-- the order has the places of those of the first n segments that have bytes in memory, each once
pub record Orders (ss : List LoadSegment) (order : List (ℕ × ℕ)) (n : ℕ) : Type 0 where
  pub places : All (IsPlace ss n) order
  pub named : (k : ℕ) (s : LoadSegment) → k < n → slice_get ss k ≡ Some s → 0 < s.size → Contains order (s.address, k)
  pub once : IsDistinct (λ x y. nat_eq x.1 y.1) order

-- place j of the order is that of the segment, which has bytes
pub record Names (ss : List LoadSegment) (order : List (ℕ × ℕ)) (j : ℕ) (s : LoadSegment) : Type 0 where
  pub number : ℕ
  pub stands : slice_get order j ≡ Some (s.address, number)
  pub segment : slice_get ss number ≡ Some s
  pub some : 0 < s.size

-- one of the first n segments of the order has the address
pub record HasOne (ss : List LoadSegment) (order : List (ℕ × ℕ)) (n q : ℕ) : Type 0 where
  pub place : ℕ
  pub segment : LoadSegment
  pub below : place < n
  pub names : Names ss order place segment
  pub inside : has segment q ≡ true

-- the pages hold what the first n segments of the order hold, which lie one behind the other and end at the bound
pub record CoversSegments (ss : List LoadSegment) (order : List (ℕ × ℕ)) (pages : List LoadSegment) (bound n : ℕ) : Type 0 where
  pub below : Below pages bound
  pub ends : (j : ℕ) (s : LoadSegment) → j < n → Names ss order j s → s.address + s.size ≤ bound
  pub apart : (i j : ℕ) (s t : LoadSegment) → i < j → j < n → Names ss order i s → Names ss order j t → s.address + s.size ≤ t.address
  pub cells : (j : ℕ) (s : LoadSegment) (q : ℕ) → j < n → Names ss order j s → has s q ≡ true → cell_among pages q ≡ Some (cell_at s q)
  pub only : (q : ℕ) (c : Cell) → cell_among pages q ≡ Some c → HasOne ss order n q
  pub last : (q : ℕ) → q + 1 ≡ bound → HasOne ss order n q

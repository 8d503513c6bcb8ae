-- Segments that can be loaded together: each fits into memory, and no two share a byte (ELF gABI, program loading).
use Rattle.std.specs.Prelude.{◌≡◌, ℕ, ◌+◌, ◌^◌, ◌<◌, ◌≤◌, Bool, true, List, [], ◌∷◌, length, slice_get, Some}
use Rattle.elf_types.specs.Overlap.{share_byte}
use Rattle.machine.specs.Program.{LoadSegment}

-- the segment has no more bytes in the file than in memory, and ends at 2^64 or before
abbrev pub FitsMemory : LoadSegment → Type 0
FitsMemory s = (length s.bytes ≤ s.size) × (s.address + s.size ≤ 2 ^ 64)

abbrev pub AllFitMemory : List LoadSegment → Type 0
AllFitMemory [] = Unit {0}
AllFitMemory (s ∷ ss) = FitsMemory s × AllFitMemory ss

-- two segments share a byte
abbrev pub share : LoadSegment → LoadSegment → Bool
share s t = share_byte s.address s.size t.address t.size

-- numbers i and j of the list, i before j, share a byte
pub record Overlaps (ss : List LoadSegment) (i j : ℕ) : Type 0 where
  pub order : i < j
  pub first : LoadSegment
  pub second : LoadSegment
  pub first_at : slice_get ss i ≡ Some first
  pub second_at : slice_get ss j ≡ Some second
  pub share : share first second ≡ true

-- no two share a byte
abbrev pub AreApart : List LoadSegment → Type 0
AreApart ss = (i j : ℕ) → Overlaps ss i j → ⊥

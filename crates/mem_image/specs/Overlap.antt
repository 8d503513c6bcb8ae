-- Segments and files of a list that share a byte.
use Rattle.std.specs.Prelude.{◌≡◌, ℕ, ◌+◌, ◌<◌, ◌≤◌, ◌⊎◌, Bool, true, Some, List, [], ◌∷◌, map, slice_get}
use Rattle.std.specs.List.{list_any}
use Rattle.machine.specs.Program.{Program, LoadSegment}
use Rattle.machine.specs.Memory.{flags_of}
use Rattle.mem_image.specs.declared.spec.SegmentSpec.{SegmentSpec}
use Rattle.mem_image.specs.declared.spec.ImageError.{ImageError}
use Rattle.mem_image.specs.declared.spec.ImageError.TheVariants.{Overlap, Memory}
use Rattle.machine.specs.Apart.{share, AllFitMemory, Overlaps, AreApart}

-- a segment as plain data
abbrev pub plain_segment : SegmentSpec → LoadSegment
plain_segment s = record { address = s.address; size = s.memory; flags = flags_of s.flags; bytes = s.bytes }

abbrev pub segments_of : List SegmentSpec → List LoadSegment
segments_of specs = map plain_segment specs

-- ---- pairs
-- a segment of the one list shares a byte with one of the other
abbrev pub any_share : List LoadSegment → List LoadSegment → Bool
any_share ss ts = list_any (λ s. list_any (share s) ts) ss

-- a segment of the one file shares a byte with one of the other
abbrev pub files_share : Program → Program → Bool
files_share f g = any_share f.segments g.segments

-- numbers i and j of the list, i before j, share a byte
pub record IsPair {A : Type 0} (shares : A → A → Bool) (xs : List A) (i j : ℕ) : Type 0 where
  pub order : i < j
  pub first : A
  pub second : A
  pub first_at : slice_get xs i ≡ Some first
  pub second_at : slice_get xs j ≡ Some second
  pub share : shares first second ≡ true

-- i and j are the least pair, by i and then j
pub record IsLeastPair (R : ℕ → ℕ → Type 0) (i j : ℕ) : Type 0 where
  pub is : R i j
  pub least : (h k : ℕ) → R h k → (i < h) ⊎ ((i ≡ h) × (j ≤ k))

-- ---- segments of an image
-- each segment begins behind the one before it, the first at the bound or behind it
abbrev pub Ascends : ℕ → List LoadSegment → Type 0
Ascends lo [] = Unit {0}
Ascends lo (s ∷ ss) = (lo ≤ s.address) × Ascends (s.address + s.size) ss

-- segments that an image keeps, by their addresses
pub record AreImage (ss : List LoadSegment) : Type 0 where
  pub fit : AllFitMemory ss
  pub ascends : Ascends 0 ss

-- the reason against an image: the least pair that shares a byte, or else a lack of memory
abbrev pub ExplainsImage : List LoadSegment → ImageError → Type 0
ExplainsImage ss (Overlap i j) = IsLeastPair (Overlaps ss) i j
ExplainsImage ss Memory = AreApart ss

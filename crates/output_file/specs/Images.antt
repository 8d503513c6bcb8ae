-- What holds of the image of a test.
use Rattle.std.specs.Prelude.{◌≡◌, ℕ, ◌+◌, ◌^◌, ◌<◌, ◌≤◌, false, All, List, map, slice_get}
use Rattle.tests.specs.declared.range.Range.{Range}
use Rattle.machine.specs.Apart.{AllFitMemory, AreApart}
use Rattle.machine.specs.Loading.{load_segments, Segment}
use Rattle.tests.specs.Admission.DataRanges.{range_of, data_ranges}
use Rattle.tests.specs.Admission.Rules.{passes_at, is_mixed}
use Rattle.tests.specs.Admission.Terms.{image_segments}

-- the image of a file whose segments fit into memory and share no byte, and are not data in part; and its data ranges
pub record IsImage (image : List Segment) (ranges : List Range) : Type 0 where
  pub segments : List Segment
  pub image_is : image ≡ image_segments segments
  pub fit : AllFitMemory (load_segments segments)
  pub apart : AreApart (load_segments segments)
  pub unmixed : (i : ℕ) → passes_at (is_mixed image) (slice_get segments i) ≡ false
  pub spans : map range_of ranges ≡ data_ranges image

-- no segment, moved by this distance, begins past 2^64
abbrev pub HasRoom : ℕ → List Segment → Type 0
HasRoom d ss = All (λ s. s.address + d < 2 ^ 64) ss

-- no segment, moved by this distance, ends past 2^63
abbrev pub EndLow : ℕ → List Segment → Type 0
EndLow d ss = All (λ s. s.address + s.memory + d ≤ 2 ^ 63) ss

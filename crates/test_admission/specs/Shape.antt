-- Code of the right shape: whole words at multiples of 4, no section cut by a segment.
use Rattle.std.specs.Prelude.{◌≡◌, ℕ, Bool, ◌&&◌, true, false, slice_get}
use Rattle.tests.specs.Admission.Terms.{is_in_image, is_ragged, Segment, ElfFile}
use Rattle.tests.specs.Admission.DataRanges.{is_executed}
use Rattle.tests.specs.Admission.CodeWords.{loads_of, is_code}
use Rattle.tests.specs.Admission.Rules.{passes_at, is_misshapen_section, is_misshapen_segment, segment_range}

-- the entry is code, and neither a section nor a segment is misshapen
pub record IsShaped (f : ElfFile) : Type 0 where
  pub entry : is_code f f.entry ≡ true
  pub sections : (i : ℕ) → passes_at (is_misshapen_section (loads_of f)) (slice_get f.sections i) ≡ false
  pub segments : (i : ℕ) → passes_at (is_misshapen_segment f) (slice_get f.segments i) ≡ false

-- an executable segment with bytes in memory, whose start or size is not a multiple of 4
abbrev pub is_ragged_code : Segment → Bool
is_ragged_code s = is_in_image s && (is_executed s && is_ragged (segment_range s))

use Rattle.std.proofs.Common.{◌≡◌, drop}
use Rattle.tests.specs.Admission.Terms.{image_segments}
use Rattle.tests.specs.Admission.Places.{low_of}
use Rattle.test_admission.specs.Places.{least}
use Rattle.test_admission.proofs.places.low.Given as goal

-- the least so far and the rest give the least of all
abbrev pub invariant-loop-segment : goal.invariant-loop-segment
invariant-loop-segment l = least l.low (image_segments (drop l.segment-index l.segments)) ≡ low_of (image_segments l.segments)

use Rattle.std.proofs.Common.{◌≡◌, ◌<◌, ◌^◌, max, drop}
use Rattle.tests.specs.Admission.Terms.{image_segments}
use Rattle.tests.specs.Admission.Places.{high_of}
use Rattle.test_admission.proofs.places.high.Given as goal

-- the greatest so far and the rest give the greatest of all
abbrev pub invariant-loop-segment : goal.invariant-loop-segment
invariant-loop-segment l = record {
  most : max l.high (high_of (image_segments (drop l.segment-index l.segments))) ≡ high_of (image_segments l.segments);
  small : l.high < 2 ^ 65;
}

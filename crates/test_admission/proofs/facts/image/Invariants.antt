use Rattle.std.proofs.Common.{◌≡◌, ◌++◌, drop}
use Rattle.tests.specs.Admission.Terms.{image_segments}
use Rattle.test_admission.proofs.facts.image.Given as goal

-- the segments so far and those of the rest are all
abbrev pub invariant-loop-segment : goal.invariant-loop-segment
invariant-loop-segment l = l.image.items ++ image_segments (drop l.segment-index l.segments) ≡ image_segments l.segments

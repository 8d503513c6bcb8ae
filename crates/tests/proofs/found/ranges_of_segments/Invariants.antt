use Rattle.std.proofs.Common.{◌≡◌, ◌++◌, drop}
use Rattle.machine.specs.Loading.{load_segments, segment_ranges}
use Rattle.tests.specs.Ranges.{spans}
use Rattle.tests.proofs.found.ranges_of_segments.Given as goal

-- the ranges so far and those of the rest are those of all
abbrev pub invariant-loop-segment : goal.invariant-loop-segment
invariant-loop-segment l = spans l.ranges.items ++ segment_ranges (load_segments (drop l.segment-index l.segments)) ≡ segment_ranges (load_segments l.segments)

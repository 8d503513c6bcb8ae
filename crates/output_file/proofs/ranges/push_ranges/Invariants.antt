use Rattle.std.proofs.Common.{◌≡◌, ◌++◌, drop, map}
use Rattle.tests.specs.Admission.DataRanges.{range_of}
use Rattle.output_file.specs.Runs.{run_segment}
use Rattle.output_file.proofs.ranges.push_ranges.Given as goal

-- the segments so far and those of the rest are those of all
abbrev pub invariant-loop-range : goal.invariant-loop-range
invariant-loop-range l = l.out.items ++ map (run_segment (map (λ s. s.now) l.sorted)) (map range_of (drop l.range-index l.ranges)) ≡ l.initial.out.items ++ map (run_segment (map (λ s. s.now) l.sorted)) (map range_of l.ranges)

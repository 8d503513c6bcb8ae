use Rattle.std.proofs.Common.{◌≡◌, ◌++◌, not, drop, map}
use Rattle.std.specs.Prelude.{filter}
use Rattle.tests.specs.Admission.DataRanges.{range_of, is_in_any}
use Rattle.qed_model.specs.Weave.OutputParts.{copies}
use Rattle.tests.specs.Ranges.{AreSpaced}
use Rattle.output_file.proofs.halves.others.Given as goal

-- the copies so far and those of the rest are those of all
abbrev pub invariant-loop-segment : goal.invariant-loop-segment
invariant-loop-segment l = AreSpaced range_of l.ranges → l.out.items ++ copies 0 (filter (λ s. not (is_in_any (map range_of l.ranges) s.address)) (drop l.segment-index l.segments)) ≡ copies 0 (filter (λ s. not (is_in_any (map range_of l.ranges) s.address)) l.segments)

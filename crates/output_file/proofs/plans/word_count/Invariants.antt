use Rattle.tests.specs.Admission.DataRanges.{range_of}
use Rattle.tests.specs.Ranges.{AreSpaced}
use Rattle.output_file.proofs.Counting.{Counted}
use Rattle.output_file.proofs.plans.word_count.Given as goal

-- the words of the ranges so far were counted
abbrev pub invariant-loop-range : goal.invariant-loop-range
invariant-loop-range l = AreSpaced range_of l.ranges → Counted l.ranges l.range-index l.count

use Rattle.std.proofs.Common.{length, map}
use Rattle.tests.specs.Admission.DataRanges.{range_of}
use Rattle.flow_recovery.specs.Sets.{GainsBut}
use Rattle.machine.specs.Numbers.{words_of}
use Rattle.tests.specs.Admission.Reached.{is_in_table}
use Rattle.flow_recovery.proofs.stored.add_distances.Given as goal

-- what the distances left lead to is to come
abbrev pub invariant-loop-left : goal.invariant-loop-left
invariant-loop-left l =
    GainsBut l.initial.set l.set
    (λ a. is_in_table (map range_of l.ranges) l.base a (words_of l.bytes))
    (λ a. is_in_table (map range_of l.ranges) l.base a (words_of l.left))

abbrev pub decreases-loop-left : goal.decreases-loop-left
decreases-loop-left l = length l.left

use Rattle.std.proofs.Common.{length}
use Rattle.std.specs.List.{list_any}
use Rattle.flow_recovery.specs.Sets.{AddsBut}
use Rattle.machine.specs.Numbers.{words_of}
use Rattle.tests.specs.Admission.Reached.{is_low_half}
use Rattle.flow_recovery.proofs.stored.add_low_halves.Given as goal

-- the addresses in the words left are to come
abbrev pub invariant-loop-left : goal.invariant-loop-left
invariant-loop-left l =
    AddsBut l.initial.list.items l.list.items
    (λ a. list_any (is_low_half l.base a) (words_of l.bytes))
    (λ a. list_any (is_low_half l.base a) (words_of l.left))

abbrev pub decreases-loop-left : goal.decreases-loop-left
decreases-loop-left l = length l.left

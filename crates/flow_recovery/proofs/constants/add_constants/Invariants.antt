use Rattle.std.proofs.Common.{length}
use Rattle.flow_recovery.specs.Found.{CoversBut}
use Rattle.tests.specs.Admission.Reached.{is_made}
use Rattle.flow_recovery.proofs.constants.add_constants.Given as goal

-- the constants of the words left are to come
abbrev pub invariant-loop-left : goal.invariant-loop-left
invariant-loop-left l =
    CoversBut l.code l.initial.found l.found
    (λ a. is_made l.code.test.now a l.code.test.now.code)
    (λ a. is_made l.code.test.now a l.left)

abbrev pub decreases-loop-left : goal.decreases-loop-left
decreases-loop-left l = length l.left

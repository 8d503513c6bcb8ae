use Rattle.std.proofs.Common.{◌≡◌, length}
use Rattle.flow_recovery.specs.Sets.{not_below}
use Rattle.flow_recovery.proofs.recovery.from_on.Given as goal

-- the rest decides
abbrev pub invariant-loop-left : goal.invariant-loop-left
invariant-loop-left l = not_below l.address l.left ≡ not_below l.address l.addresses

abbrev pub decreases-loop-left : goal.decreases-loop-left
decreases-loop-left l = length l.left

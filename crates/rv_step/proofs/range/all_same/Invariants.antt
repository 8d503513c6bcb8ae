use Rattle.std.proofs.Common.{◌≡◌, take}
use Rattle.rv_step.proofs.range.all_same.Given as goal

-- those so far are the same
abbrev pub invariant-loop-i : goal.invariant-loop-i
invariant-loop-i l = take l.i l.ranges ≡ take l.i l.others

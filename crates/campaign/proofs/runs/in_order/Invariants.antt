use Rattle.std.proofs.Common.{◌≡◌, length}
use Rattle.campaign.proofs.runs.in_order.Given as goal

-- a number for each strike so far
abbrev pub invariant-loop-i : goal.invariant-loop-i
invariant-loop-i l = length l.order.items ≡ l.i

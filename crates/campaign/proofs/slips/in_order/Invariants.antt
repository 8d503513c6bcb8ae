use Rattle.std.proofs.Common.{◌≡◌, length}
use Rattle.campaign.proofs.slips.in_order.Given as goal

-- a number for each slip so far
abbrev pub invariant-loop-i : goal.invariant-loop-i
invariant-loop-i l = length l.order.items ≡ l.i

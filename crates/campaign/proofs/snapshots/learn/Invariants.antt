use Rattle.std.proofs.Common.{◌≡◌}
use Rattle.campaign.proofs.snapshots.learn.Given as goal

-- the copies are what they were
abbrev pub invariant-loop-i : goal.invariant-loop-i
invariant-loop-i l = l.copies.items ≡ l.initial.copies.items

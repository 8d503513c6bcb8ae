use Rattle.campaign.proofs.Making.{AreSoFar}
use Rattle.campaign.proofs.runs.Runs.strike_all.Given as goal

-- all are struck once the rest is struck behind those so far
abbrev pub invariant-loop-i : goal.invariant-loop-i
invariant-loop-i g l = AreSoFar l.self l.strikes l.i l.struck.items

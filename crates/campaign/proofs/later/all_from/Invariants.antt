use Rattle.std.proofs.Common.{◌≡◌, ◌++◌, map, drop}
use Rattle.campaign.specs.Later.{counted_from}
use Rattle.campaign.proofs.later.all_from.Given as goal

-- the changes so far, and those of the rest, are all
abbrev pub invariant-loop-change : goal.invariant-loop-change
invariant-loop-change l = l.later.items ++ map (counted_from l.start) (drop l.change-index l.changes) ≡ map (counted_from l.start) l.changes

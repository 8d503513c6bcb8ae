use Rattle.std.proofs.Common.{◌≡◌, ◌++◌, map, drop}
use Rattle.tests.specs.Admission.DataRanges.{range_of}
use Rattle.campaign.specs.Right.{is_right}
use Rattle.campaign.proofs.runs.Runs.rights.Given as goal

-- the answers so far and those of the rest are all
abbrev pub invariant-loop-strike : goal.invariant-loop-strike
invariant-loop-strike l =
    l.found.items ++ map (is_right l.self (map range_of l.spans)) (drop l.strike-index l.struck) ≡ map (is_right l.self (map range_of l.spans)) l.struck

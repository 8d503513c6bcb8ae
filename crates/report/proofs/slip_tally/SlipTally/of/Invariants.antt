use Rattle.std.proofs.Common.{◌≡◌, take}
use Rattle.report.specs.SlipTally.{slip_tally_of}
use Rattle.report.proofs.slip_tally.SlipTally.of.Given as goal

-- the tally so far
abbrev pub invariant-loop-slip : goal.invariant-loop-slip
invariant-loop-slip l = l.tally ≡ slip_tally_of (take l.slip-index l.found) l.fn.right

use Rattle.std.proofs.Common.{◌≡◌, take}
use Rattle.report.specs.Tally.{tally_of}
use Rattle.report.proofs.tally.Tally.of.Given as goal

-- the tally so far
abbrev pub invariant-loop-strike : goal.invariant-loop-strike
invariant-loop-strike l = l.tally ≡ tally_of (take l.strike-index l.strikes) l.fn.right

use Rattle.std.proofs.Common.{◌≡◌, ◌+◌, ◌≤◌, drop}
use Rattle.qed_words.specs.Text.Slips.{right_slips}
use Rattle.report.proofs.slip_tally.right_slips.Given as goal

-- the right ends so far and those of the rest are all
abbrev pub invariant-loop-slip : goal.invariant-loop-slip
invariant-loop-slip l = record {
  counted : l.count + right_slips (drop l.slip-index l.found) ≡ right_slips l.found;
  few : l.count ≤ l.slip-index;
}

use Rattle.std.proofs.Common.{◌≡◌, ◌++◌, drop}
use Rattle.qed_words.specs.Text.Slips.{slip_lines}
use Rattle.report.proofs.slips.slip_lines.Given as goal

-- the lines so far and those of the rest are all
abbrev pub invariant-loop-number : goal.invariant-loop-number
invariant-loop-number l = l.text.items ++ slip_lines l.number (drop l.number l.found) ≡ slip_lines 0 l.found

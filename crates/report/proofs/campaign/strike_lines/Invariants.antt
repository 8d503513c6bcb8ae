use Rattle.std.proofs.Common.{◌≡◌, ◌++◌, drop}
use Rattle.std.specs.Option.{option_copied}
use Rattle.qed_words.specs.Text.Campaign.{strike_lines}
use Rattle.report.proofs.campaign.strike_lines.Given as goal

-- the lines so far and those of the rest are all
abbrev pub invariant-loop-number : goal.invariant-loop-number
invariant-loop-number l = l.text.items ++ strike_lines (option_copied l.rights) l.number (drop l.number l.strikes) ≡ strike_lines (option_copied l.rights) 0 l.strikes

use Rattle.std.proofs.Common.{◌≡◌, ◌++◌, drop}
use Rattle.qed_words.specs.Text.Campaign.{changes_text}
use Rattle.report.proofs.campaign.changes_text.Given as goal

-- the text so far and that of the rest are all
abbrev pub invariant-loop-change : goal.invariant-loop-change
invariant-loop-change l = l.text.items ++ changes_text (drop l.change-index l.changes) ≡ changes_text l.changes

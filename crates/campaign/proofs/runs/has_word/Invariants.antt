use Rattle.std.proofs.Common.{◌≡◌, drop}
use Rattle.qed_model.specs.Promise.Changed.{has_word}
use Rattle.campaign.proofs.runs.has_word.Given as goal

-- no place so far is a word
abbrev pub invariant-loop-change : goal.invariant-loop-change
invariant-loop-change l = has_word (drop l.change-index l.changes) ≡ has_word l.changes

use Rattle.std.proofs.Common.{◌≡◌, drop}
use Rattle.qed_model.specs.Promise.Changed.{last_step}
use Rattle.campaign.proofs.Looking.{last_or}
use Rattle.campaign.proofs.verdict.last_step.Given as goal

-- the last step of those so far, or of the rest, is the last of all
abbrev pub invariant-loop-change : goal.invariant-loop-change
invariant-loop-change l = last_or l.last (drop l.change-index l.changes) ≡ last_step l.changes

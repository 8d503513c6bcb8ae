use Rattle.std.proofs.Common.{drop}
use Rattle.qed_model.specs.Promise.Changed.{Ordered}
use Rattle.campaign.proofs.Looking.{OrderedFrom}
use Rattle.campaign.proofs.runs.is_ordered.Given as goal

-- all changes are in order if the rest is, from the last step on
abbrev pub invariant-loop-change : goal.invariant-loop-change
invariant-loop-change l = record {
  enough : OrderedFrom l.last (drop l.change-index l.changes) → Ordered l.changes;
  needed : Ordered l.changes → OrderedFrom l.last (drop l.change-index l.changes);
}

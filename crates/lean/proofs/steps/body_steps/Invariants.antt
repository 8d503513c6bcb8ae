use Rattle.std.proofs.Common.{◌≡◌, ◌+◌, ◌^◌, ◌<◌, drop}
use Rattle.qed_model.specs.Weave.Costs.{cost_each}
use Rattle.relinker.specs.Counted.{capped}
use Rattle.qed_model.specs.Weave.LeanCode.{both_steps}
use Rattle.lean.proofs.steps.body_steps.Given as goal

-- the steps so far and those of the rest are those of all
abbrev pub invariant-loop-ins : goal.invariant-loop-ins
invariant-loop-ins l = record {
  sum : capped (l.total + cost_each (both_steps l.diverse) (drop l.ins-index l.body)) ≡ capped (cost_each (both_steps l.diverse) l.body);
  small : l.total < 2 ^ 64;
}

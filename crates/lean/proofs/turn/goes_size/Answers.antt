use Rattle.std.proofs.Common.{◌∷◌, [], false, arith}
use Rattle.qed_model.specs.declared.item.Item.TheVariants.{Go}
use Rattle.qed_model.specs.Weave.Lean.{turn}
use Rattle.qed_model.proofs.Lemmas.{size-append}
use Rattle.lean.proofs.turn.goes_size.Goals as goal

pub returns-clause-value : goal.returns-clause-value
returns-clause-value c = omega (arith, c.turn_steps.ensures.size, size-append false (turn c.args.from c.args.to) (Go c.args.to ∷ []))

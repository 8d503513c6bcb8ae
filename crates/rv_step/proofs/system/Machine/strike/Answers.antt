use Rattle.std.proofs.Common.{sym, ap, ◌∙◌}
use Rattle.machine.specs.declared.place.Place.TheVariants.{Reg}
use Rattle.rv_step.specs.Known.{struck_progress}
use Rattle.rv_step.proofs.system.Machine.strike.Goals as goal

pub returns-in-Reg-clause-struck : goal.returns-in-Reg-clause-struck
returns-in-Reg-clause-struck c = c.set.ensures c.self.inside.image ∙ ap (struck_progress (Reg c.in-Reg.r) c.args.value) c.self.view_is ∙ ap (λ p. struck_progress p c.args.value c.args.self.now) (sym c.in-Reg.is)

use Rattle.std.proofs.Common.{◌∙◌, sym}
use Rattle.rv_step.specs.Harts.{with_memory}
use Rattle.rv_step.proofs.Slipping.{known_grain, slips_counted, steps_without}
use Rattle.rv_step.proofs.hart.Hart.slip.Goals as goal

pub returns-in_default-clause-slipped : goal.returns-in_default-clause-slipped
returns-in_default-clause-slipped c = c.in_ok-step.ensures.step ∙ steps_without c.args.slip.now (with_memory c.args.self.now c.args.image.now) (sym c.in_default.ensures.can)

pub slip_as-requires : goal.slip_as-requires
slip_as-requires c = known_grain (with_memory c.args.self.now c.args.image.now).state _ c.in-Some.ins c.in-Some.ensures.known

pub returns-clause-slipped : goal.returns-clause-slipped
returns-clause-slipped c = slips_counted c.args.slip.now c.in-Some.ins (with_memory c.args.self.now c.args.image.now) _ _ _ c.slip_as.new.image c.in-Some.ensures.goes c.in-Some.ensures.known c.in-Some.ensures.has c.in_ok-slip_as.ensures.done c.self.view_is c.saturating_add-self-inside.ensures

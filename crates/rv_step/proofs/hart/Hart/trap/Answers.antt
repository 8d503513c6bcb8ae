use Rattle.std.proofs.Common.{ap, ◌∙◌}
use Rattle.machine.specs.Step.{stopped}
use Rattle.machine.specs.declared.outcome.Outcome.TheVariants.{Trapped}
use Rattle.rv_step.specs.Known.{at_state}
use Rattle.rv_step.specs.Harts.{HartState, with_memory}
use Rattle.rv_step.proofs.hart.Hart.trap.Goals as goal

pub returns : goal.returns
returns c = λ m. c.stop-2.ensures m ∙ ap (λ (h : HartState). at_state (stopped (Trapped c.args.cause h.pc) (with_memory c.args.self.now m).state) (with_memory c.args.self.now m)) c.stop.view_is

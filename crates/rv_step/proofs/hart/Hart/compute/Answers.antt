use Rattle.std.proofs.Common.{ap, ◌∙◌}
use Rattle.rv_step.specs.Known.{at_state}
use Rattle.rv_step.specs.Harts.{with_memory}
use Rattle.rv_step.proofs.Accesses.{computes}
use Rattle.rv_step.proofs.hart.Hart.compute.Goals as goal

pub returns-clause-step : goal.returns-clause-step
returns-clause-step c = λ m. c.write_back.ensures.step m ∙ ap (λ s. at_state s (with_memory c.args.self.now m)) (computes c.args.ins.now c.args.kind (with_memory c.args.self.now m).state c.computed-value.result c.requires.kind c.requires.class c.computed-value.ensures)

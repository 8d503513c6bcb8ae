use Rattle.std.proofs.Common.{sym, ◌∙◌, arith}
use Rattle.rv_step.specs.Harts.{with_memory}
use Rattle.rv_step.proofs.Running.{step_left}
use Rattle.rv_step.proofs.hart.Hart.run_by.Goals as goal

pub loop-left-preserved-then-on : goal.loop-left-preserved-then-on
loop-left-preserved-then-on g c = record {
  goes = c.in-Ok.ensures.on c.if-on.true;
  steps = step_left (with_memory c.args.self.now c.args.image.now) (with_memory c.loop-left.self c.loop-left.image) (with_memory c.take_step.new.hart c.take_step.new.image) c.args.n c.loop-left.left _ c.loop-left.invariant.steps c.loop-left.invariant.goes c.in-Ok.ensures.step (omega arith) (omega arith);
  stands = c.in-Ok.ensures.stands;
}

pub loop-left-preserved : goal.loop-left-preserved
loop-left-preserved g c = record {
  goes = sym c.goes_on-in-loop-left.ensures ∙ c.if-not-goes_on-2.false;
  steps = step_left (with_memory c.args.self.now c.args.image.now) (with_memory c.loop-left.self c.loop-left.image) (with_memory c.take_step.new.hart c.take_step.new.image) c.args.n c.loop-left.left _ c.loop-left.invariant.steps c.loop-left.invariant.goes c.in-Ok.ensures.step (omega arith) (omega arith);
  stands = c.in-Ok.ensures.stands;
}

pub returns-then-not-goes_on-2-clause-made : goal.returns-then-not-goes_on-2-clause-made
returns-then-not-goes_on-2-clause-made g c = step_left (with_memory c.args.self.now c.args.image.now) (with_memory c.loop-left.self c.loop-left.image) (with_memory c.take_step.new.hart c.take_step.new.image) c.args.n c.loop-left.left _ c.loop-left.invariant.steps c.loop-left.invariant.goes c.in-Ok.ensures.step (omega arith) (omega arith)

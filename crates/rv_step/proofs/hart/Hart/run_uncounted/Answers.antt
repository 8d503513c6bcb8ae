use Rattle.std.proofs.Common.{arith}
use Rattle.rv_step.specs.Harts.{with_memory}
use Rattle.rv_step.proofs.Running.{join_left}
use Rattle.rv_step.proofs.hart.Hart.run_uncounted.Goals as goal

pub returns-clause-made : goal.returns-clause-made
returns-clause-made c = join_left (with_memory c.args.self.now c.args.image.now) (with_memory c.run_few-left.new.self c.run_few-left.new.image) (with_memory c.run_long-rest.new.self c.run_long-rest.new.image) c.args.n 16384 _ _ c.run_few-left.ensures.made c.run_long-rest.ensures.made (omega arith) (omega arith) c.run_long-rest.ensures.within

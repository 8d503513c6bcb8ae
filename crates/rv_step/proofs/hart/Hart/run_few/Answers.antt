use Rattle.rv_step.specs.Harts.{with_memory}
use Rattle.rv_step.proofs.hart.Hart.run_few.Goals as goal

pub run_by-requires : goal.run_by-requires
run_by-requires c = c.none-window.ensures (with_memory c.args.self.now c.args.image.now).state

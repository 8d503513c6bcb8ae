use Rattle.std.proofs.Common.{sym, ap, ◌∙◌}
use Rattle.rv_step.specs.Slipped.{slipped_as}
use Rattle.rv_step.specs.Known.{at_state}
use Rattle.rv_step.specs.Harts.{with_memory}
use Rattle.rv_step.proofs.hart.Hart.slip_as.Goals as goal

pub returns-in-Skip-clause-done : goal.returns-in-Skip-clause-done
unfolding slipped_as
returns-in-Skip-clause-done c =
    let p = with_memory c.args.self.now c.args.image.now in
    c.go_on.ensures.step c.args.image.now ∙ ap (λ slip. at_state (slipped_as slip c.args.ins.now p.state) p) (sym c.in-Skip.is)

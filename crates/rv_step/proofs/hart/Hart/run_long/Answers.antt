use Rattle.std.proofs.Common.{◌%◌, sym, ap, ◌∙◌}
use Rattle.rv_step.specs.Harts.{with_memory}
use Rattle.rv_step.proofs.hart.Hart.run_long.Goals as goal

pub run_by-requires : goal.run_by-requires
run_by-requires c =
    let p = with_memory c.args.self.now c.args.image.now in
    record { window = c.none-window.ensures p.state; table = c.in-Ok.ensures p.state; grain = sym (ap (λ h. h.pc % 4) c.self.view_is) ∙ c.if-self-ne0.false }

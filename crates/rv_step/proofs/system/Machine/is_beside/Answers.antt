use Rattle.std.proofs.Common.{sym, ap, ◌∙◌}
use Rattle.rv_step.specs.Harts.{with_memory}
use Rattle.rv_step.proofs.system.Machine.is_beside.Goals as goal

pub returns-then-is_beside : goal.returns-then-is_beside
returns-then-is_beside c = λ same.
    sym (ap (λ p. p.state) c.self.view_is) ∙ c.is_beside.ensures c.if-is_beside.true c.self.inside.image ∙ ap (λ m. (with_memory c.other.inside.hart m).state) (c.is_same.ensures same) ∙ ap (λ p. p.state) c.other.view_is

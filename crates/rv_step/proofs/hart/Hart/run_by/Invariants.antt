use Rattle.std.proofs.Common.{◌≡◌, ◌-◌, true}
use Rattle.rv_step.specs.Harts.{with_memory}
use Rattle.rv_step.specs.Known.{does_step, IsRunMade}
use Rattle.rv_step.proofs.hart.Hart.run_by.Given as goal

-- the hart goes on, the steps so far were made, and what is kept of the code stands in the memory
abbrev pub invariant-loop-left : goal.invariant-loop-left
invariant-loop-left g l = record {
  goes : does_step l.self.outcome ≡ true;
  steps : IsRunMade (with_memory l.initial.self l.initial.image) (l.n - l.left) (with_memory l.self l.image);
  stands : g.S.Source.stands (with_memory l.self l.image).state l.source;
}

use Rattle.rv_step.specs.Harts.{with_memory}
use Rattle.rv_step.proofs.hart.Hart.look.Goals as goal

pub returns-in_default-clause-window : goal.returns-in_default-clause-window
returns-in_default-clause-window c = c.none.ensures (with_memory c.next_word.new.self c.next_word.new.image).state

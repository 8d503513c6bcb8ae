use Rattle.std.proofs.Common.{sym, subst}
use Rattle.rv_step.specs.Harts.{HartState}
use Rattle.rv_step.specs.Windows.{IsHeld}
use Rattle.rv_step.proofs.hart.Hart.learn_next.Goals as goal

pub returns-clause-table : goal.returns-clause-table
returns-clause-table c = λ s table window. c.put.ensures s table (subst (λ (h : HartState). IsHeld s h.pc c.in-Some.ins) (sym c.self.view_is) (c.in-Some.ensures s window))

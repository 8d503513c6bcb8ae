use Rattle.std.proofs.Common.{sym, ap, ◌∙◌}
use Rattle.machine.specs.Progress.{Progress}
use Rattle.rv_step.specs.Known.{at_state}
use Rattle.rv_step.specs.Harts.{HartState, with_memory}
use Rattle.rv_step.proofs.Jumps.{jumped_on, jumped_off}
use Rattle.rv_step.proofs.hart.Hart.land.Goals as goal

pub returns-then-target-eq0-clause-step : goal.returns-then-target-eq0-clause-step
returns-then-target-eq0-clause-step c = λ m.
    let p : Progress = with_memory c.args.self.now m in
    ap (λ (h : HartState). with_memory (record { regs = h.regs; pc = c.args.target; ranges = h.ranges; outcome = h.outcome; steps = h.steps }) m) c.self.view_is
    ∙ ap (λ s. at_state s p) (sym (jumped_on p.state.regs c.args.target p.state c.if-target-eq0.true))

pub returns-clause-step : goal.returns-clause-step
returns-clause-step c = λ m.
    let p : Progress = with_memory c.args.self.now m in
    c.trap.ensures m ∙ ap (λ s. at_state s p) (sym (jumped_off p.state.regs c.args.target p.state c.if-target-eq0.false))

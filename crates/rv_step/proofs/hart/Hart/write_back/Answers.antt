use Rattle.std.proofs.Common.{ap, ◌∙◌}
use Rattle.rv_isa.specs.Regs.{set_reg}
use Rattle.machine.specs.Progress.{Progress}
use Rattle.rv_step.specs.Harts.{HartState, with_memory}
use Rattle.rv_step.proofs.hart.Hart.write_back.Goals as goal

pub returns-clause-step : goal.returns-clause-step
returns-clause-step c = λ m.
    let x = c.self.inside in
    let put : HartState → HartState = λ h. record { regs = set_reg c.args.rd c.args.value h.regs; pc = h.pc; ranges = h.ranges; outcome = h.outcome; steps = h.steps } in
    let set : Progress → Progress = λ p. record { state = record { regs = set_reg c.args.rd c.args.value p.state.regs; pc = p.state.pc; memory = p.state.memory; ranges = p.state.ranges; outcome = p.state.outcome }; steps = p.steps } in
    ap (λ regs. with_memory (record { regs = regs; pc = x.pc; ranges = x.ranges; outcome = x.outcome; steps = x.steps }) m) c.set.ensures
    ∙ ap (λ (h : HartState). with_memory (put h) m) c.self.view_is
    ∙ ap set (c.go_on.ensures.step m)

pub returns-clause-on : goal.returns-clause-on
returns-clause-on c = ap (λ (h : HartState). h.outcome) c.self.view_is ∙ c.go_on.ensures.on

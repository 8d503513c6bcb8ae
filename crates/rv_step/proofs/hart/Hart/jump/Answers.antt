use Rattle.std.proofs.Common.{◌≡◌, ◌+◌, ◌%◌, ◌^◌, refl, sym, ap, ◌∙◌}
use Rattle.std.specs.Prelude.{slice_index}
use Rattle.rv_isa.specs.Kind.{class_of}
use Rattle.rv_isa.specs.Regs.{set_reg}
use Rattle.machine.specs.Progress.{Progress}
use Rattle.rv_step.specs.Harts.{HartState, with_memory}
use Rattle.rv_step.proofs.Jumps.{lands, traps, set_back}
use Rattle.rv_step.proofs.hart.Hart.jump.Goals as goal

pub returns-clause-step : goal.returns-clause-step
returns-clause-step c = λ m.
    let x = c.self.inside in
    let v : Progress = record { state = record { regs = x.regs; pc = x.pc; memory = m; ranges = x.ranges; outcome = x.outcome }; steps = x.steps } in
    lands (with_memory c.args.self.now m) v (class_of c.args.ins.now.kind) c.args.ins.now c.act-target.new.regs c.act-target.result (ap (λ (h : HartState). with_memory h m) c.self.view_is) (c.act-target.ensures.step v.state refl refl) c.if-target-ne0.false

pub returns-then-target-ne0-clause-step : goal.returns-then-target-ne0-clause-step
returns-then-target-ne0-clause-step c = λ m.
    let x = c.self.inside in
    let rd = c.args.ins.now.rd in
    let v : Progress = record { state = record { regs = x.regs; pc = x.pc; memory = m; ranges = x.ranges; outcome = x.outcome }; steps = x.steps } in
    let before : c.reg-before.result ≡ slice_index x.regs rd = c.reg-before.ensures ∙ ap (λ (h : HartState). slice_index h.regs rd) (sym c.self.view_is) in
    let back : c.set.new.self ≡ x.regs = c.set.ensures ∙ ap (λ n. set_reg rd n c.act-target.new.regs) before ∙ ap (λ rs. set_reg rd (slice_index x.regs rd) rs) c.act-target.ensures.registers ∙ set_back rd ((x.pc + 4) % 2 ^ 64) x.regs in
    c.trap.ensures m ∙ traps (with_memory c.args.self.now m) v (class_of c.args.ins.now.kind) c.args.ins.now c.act-target.new.regs c.set.new.self c.act-target.result (ap (λ (h : HartState). with_memory h m) c.self.view_is) (c.act-target.ensures.step v.state refl refl) c.if-target-ne0.true back

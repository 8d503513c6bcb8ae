use Rattle.std.proofs.Common.{◌≡◌, true, sym, ap, ◌∙◌}
use Rattle.machine.specs.Progress.{Progress}
use Rattle.machine.specs.Values.{holds}
use Rattle.machine.specs.Step.{reg, moved, next_pc, jumped, target}
use Rattle.rv_step.specs.Slipped.{slipped_as}
use Rattle.rv_step.specs.Known.{at_state}
use Rattle.rv_step.specs.Harts.{with_memory}
use Rattle.rv_step.proofs.Accesses.{taken}
use Rattle.rv_step.proofs.hart.Hart.turn.Goals as goal

pub returns-then-taken : goal.returns-then-taken
unfolding slipped_as
returns-then-taken c = λ m.
    let i = c.args.ins.now in
    let p : Progress = with_memory c.args.self.now m in
    let s = p.state in
    let held : holds i.kind (reg s i.rs1) (reg s i.rs2) ≡ true = ap (holds i.kind (reg s i.rs1)) (sym c.reg-2.ensures) ∙ ap (λ a. holds i.kind a c.reg-2.result) (sym c.reg.ensures) ∙ sym c.taken.ensures ∙ c.if-taken.true in
    c.go_on.ensures.step m ∙ ap (λ t. at_state t p) (taken (holds i.kind (reg s i.rs1) (reg s i.rs2)) (moved s.regs (next_pc s) s) (jumped s.regs (target i s.pc) s) held)

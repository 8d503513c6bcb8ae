use Rattle.std.proofs.Common.{◌≡◌, refl, sym, ap, ◌∙◌}
use Rattle.rv_isa.specs.declared.class.Class.TheVariants as class
use Rattle.rv_isa.specs.Kind.{class_of}
use Rattle.rv_alu.proofs.Executed.{branching_step}
use Rattle.machine.specs.Progress.{Progress}
use Rattle.rv_step.specs.Known.{at_state}
use Rattle.rv_step.specs.Harts.{HartState, with_memory}
use Rattle.rv_step.proofs.hart.Hart.branch.Goals as goal

pub returns-clause-step : goal.returns-clause-step
returns-clause-step c = λ m.
    let h : HartState = c.args.self.now in
    let i = c.args.ins.now in
    let p : Progress = with_memory h m in
    let class : class_of i.kind ≡ class.Branch = ap class_of c.requires.kind ∙ c.requires.class in
    c.land.ensures.step m ∙ ap (λ s. at_state s p) (sym (branching_step i h.regs h.pc c.arrival-target.result class c.arrival-target.ensures p.state refl refl c.requires.grain))

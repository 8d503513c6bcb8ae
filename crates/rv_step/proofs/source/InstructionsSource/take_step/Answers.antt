use Rattle.std.proofs.Common.{◌≡◌, sym, ap, ◌∙◌, subst}
use Rattle.machine.specs.Progress.{Progress}
use Rattle.machine.specs.Step.{Known, next}
use Rattle.rv_step.specs.Harts.{with_memory}
use Rattle.rv_step.specs.Known.{at_state}
use Rattle.rv_step.specs.Windows.{IsKnown}
use Rattle.rv_step.proofs.WindowLaws.{step_executes, known_stepped}
use Rattle.rv_step.proofs.source.InstructionsSource.take_step.Goals as goal

pub returns-clause-step : goal.returns-clause-step
returns-clause-step c =
    let p = with_memory c.args.hart.now c.args.image.now in
    let i = c.in-Some.ins.now in
    let here : next p.state ≡ Known i = c.in-Some.ensures p.state c.requires.stands.table c.pc.ensures in
    c.in_ok-on-2.ensures.done ∙ ap (λ s. at_state s p) (sym (step_executes p.state i c.requires.goes here))

pub returns-clause-stands : goal.returns-clause-stands
returns-clause-stands c =
    let p = with_memory c.args.hart.now c.args.image.now in
    subst (λ (q : Progress). IsKnown q.state c.args.self.now.window c.args.self.now.table) (sym (returns-clause-step c)) (known_stepped p.state c.args.self.now.window c.args.self.now.table c.requires.goes c.requires.stands)

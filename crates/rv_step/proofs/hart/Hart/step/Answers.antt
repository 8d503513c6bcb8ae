use Rattle.std.proofs.Common.{◌≡◌, true, sym, ap, ◌∙◌, subst, arith}
use Rattle.machine.specs.Memory.{Memory}
use Rattle.machine.specs.Progress.{Progress}
use Rattle.machine.specs.Step.{step}
use Rattle.rv_step.specs.Harts.{HartState, with_memory}
use Rattle.rv_step.specs.Known.{at_state, does_step, IsRunMade}
use Rattle.rv_step.proofs.Running.{made_none, step_made, made_counted, one_run}
use Rattle.rv_step.proofs.WindowLaws.{step_acts}
use Rattle.rv_step.proofs.hart.Hart.step.Goals as goal

pub returns-clause-step : goal.returns-clause-step
returns-clause-step c =
    let p : Progress = with_memory c.args.self.now c.args.image.now in
    let here : Progress = with_memory c.next_word-word.new.self c.next_word-word.new.image in
    let next : Progress = with_memory c.advance.new.self c.advance.new.image in
    let same : here ≡ p = ap (λ (h : HartState). with_memory h c.next_word-word.new.image) c.next_word-word.ensures.same ∙ ap (λ (m : Memory). with_memory c.args.self.now m) c.next_word-word.ensures.memory in
    let goes : does_step here.state.outcome ≡ true = ap (λ (q : Progress). does_step q.state.outcome) same ∙ sym c.goes_on.ensures ∙ c.if-not-goes_on.false in
    let stepped : next ≡ at_state (step here.state) here = c.in_ok-advance.ensures.advanced ∙ sym (ap (λ s. at_state s here) (step_acts here.state goes)) in
    let made : IsRunMade p 1 next = step_made p here next 0 (subst (λ (q : Progress). IsRunMade p 0 q) (sym same) (made_none p)) goes stepped in
    made_counted p 1 _ _ _ c.advance.new.image made c.self-2.view_is (omega arith) c.saturating_add-self-inside.ensures
    ∙ one_run p

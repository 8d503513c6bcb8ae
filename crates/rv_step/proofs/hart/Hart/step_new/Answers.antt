use Rattle.std.proofs.Common.{◌≡◌, refl, sym, ap, ◌∙◌, subst}
use Rattle.machine.specs.Progress.{Progress}
use Rattle.machine.specs.Step.{Known, next}
use Rattle.rv_step.specs.Harts.{HartState, with_memory}
use Rattle.rv_step.specs.Known.{at_state}
use Rattle.rv_step.specs.Windows.{IsHeld, IsKnown, IsTable}
use Rattle.rv_step.proofs.WindowLaws.{held_next, known_acted, known_new, known_stepped, step_executes}
use Rattle.rv_step.proofs.hart.Hart.step_new.Goals as goal

pub returns-in-Some-clause-step : goal.returns-in-Some-clause-step
returns-in-Some-clause-step c =
    let p = with_memory c.args.self.now c.args.image.now in
    let i = c.in-Some.ins in
    let here : next p.state ≡ Known i = held_next p.state p.state.pc i (c.in-Some.ensures p.state c.requires.known.window) refl c.requires.known.grain in
    c.in_ok-on.ensures.done ∙ ap (λ s. at_state s p) (sym (step_executes p.state i c.requires.goes here))

pub returns-in-Some-clause-known : goal.returns-in-Some-clause-known
returns-in-Some-clause-known c =
    let p = with_memory c.args.self.now c.args.image.now in
    let held : IsHeld p.state c.self.inside.pc c.in-Some.ins = subst (λ (h : HartState). IsHeld p.state h.pc c.in-Some.ins) (sym c.self.view_is) (c.in-Some.ensures p.state c.requires.known.window) in
    let table : IsTable p.state c.put.new.self = c.put.ensures p.state c.requires.known.table held in
    subst (λ (q : Progress). IsKnown q.state c.args.window.now c.put.new.self) (sym (returns-in-Some-clause-step c))
    (known_stepped p.state c.args.window.now c.put.new.self c.requires.goes (record { window = c.requires.known.window; table = table; grain = c.requires.known.grain }))

pub returns-clause-known : goal.returns-clause-known
returns-clause-known c =
    let here = with_memory c.learn_next.new.self c.word_in-word.new.image in
    subst (λ (p : Progress). IsKnown p.state c.word_in-word.new.window c.learn_next.new.table) (sym c.in_ok-on-2.ensures.advanced)
    (known_acted here.state c.word_in-word.new.window c.learn_next.new.table
    (known_new c.args.self.now c.word_in-word.new.self c.learn_next.new.self c.args.image.now c.word_in-word.new.image _ _ _ _ c.requires.known c.word_in-word.ensures.same c.word_in-word.ensures.memory c.learn_next.ensures.same c.word_in-word.ensures.window c.learn_next.ensures.table))

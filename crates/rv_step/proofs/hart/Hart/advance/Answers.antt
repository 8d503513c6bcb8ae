use Rattle.std.proofs.Common.{◌≡◌, Some, None, sym, ap, ◌∙◌}
use Rattle.machine.specs.Step.{act, known_or}
use Rattle.machine.specs.Progress.{Progress}
use Rattle.rv_step.specs.Known.{state_word, at_state}
use Rattle.rv_step.specs.Harts.{with_memory}
use Rattle.rv_step.proofs.Fetching.{fetched_none, fetched_some}
use Rattle.rv_step.proofs.hart.Hart.advance.Goals as goal

pub returns-in_default-clause-advanced : goal.returns-in_default-clause-advanced
returns-in_default-clause-advanced g c =
    let n = c.args.image.now in
    let m : Progress = with_memory c.args.self.now n in
    let none : state_word m.state m.state.pc ≡ None = sym c.requires ∙ c.in_default.is in
    c.trap.ensures n ∙ sym (ap (λ f. at_state (act f m.state) m) (fetched_none m.state m.state.pc none))

pub returns-clause-advanced : goal.returns-clause-advanced
returns-clause-advanced g c =
    let n = c.args.image.now in
    let m : Progress = with_memory c.args.self.now n in
    let w = c.in-Some.word in
    let i = c.in-Some-known.ins in
    let some : state_word m.state m.state.pc ≡ Some w = sym c.requires ∙ c.in-Some.is in
    c.in_ok-on-2.ensures.done ∙ sym (ap (λ f. at_state (act f m.state) m) (fetched_some m.state m.state.pc w some ∙ ap (known_or w) c.in-Some-known.ensures))

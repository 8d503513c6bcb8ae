use Rattle.std.proofs.Common.{◌≡◌, Some, None, sym, ap, ◌∙◌}
use Rattle.machine.specs.Table.{decode_of}
use Rattle.machine.specs.Step.{act, known_or, trapped, execute, class_of}
use Rattle.machine.specs.declared.outcome.Cause.TheVariants.{Word}
use Rattle.machine.specs.Progress.{Progress}
use Rattle.rv_step.specs.Known.{at_state}
use Rattle.rv_step.specs.Harts.{HartState, with_memory}
use Rattle.rv_step.proofs.Fetching.{fetched_some}
use Rattle.rv_step.proofs.hart.Hart.advance_new.Goals as goal

pub returns-in_default-clause-advanced : goal.returns-in_default-clause-advanced
returns-in_default-clause-advanced c =
    let n = c.args.image.now in
    let m : Progress = with_memory c.args.self.now n in
    let w = c.args.word in
    let none : decode_of w ≡ None = sym c.decode.ensures ∙ c.in_default.is in
    c.trap.ensures n ∙ ap (λ (h : HartState). at_state (trapped (Word w) (with_memory h n).state) (with_memory h n)) c.self.view_is ∙ sym (ap (λ f. at_state (act f m.state) m) (fetched_some m.state m.state.pc w c.requires ∙ ap (known_or w) none))

pub returns-clause-advanced : goal.returns-clause-advanced
returns-clause-advanced c =
    let n = c.args.image.now in
    let m : Progress = with_memory c.args.self.now n in
    let w = c.args.word in
    let i = c.in-Some.ins in
    let known : decode_of w ≡ Some i = sym c.decode.ensures ∙ c.in-Some.is in
    c.in_ok-on.ensures.done ∙ ap (λ (h : HartState). at_state (execute (class_of i.kind) i (with_memory h n).state) (with_memory h n)) c.self.view_is ∙ sym (ap (λ f. at_state (act f m.state) m) (fetched_some m.state m.state.pc w c.requires ∙ ap (known_or w) known))

use Rattle.std.proofs.Common.{◌≡◌, ◌+◌, ap, ◌∙◌, sym, subst, arith}
use Rattle.std.specs.Prelude.{Some, Ok}
use Rattle.fault_inject.specs.Touched.{IsTrace}
use Rattle.campaign.specs.Found.{input_shows, trap_pc_of, IsSilentAt, State, run}
use Rattle.campaign.specs.Later.{all_from}
use Rattle.campaign.specs.Verdict.{IsVerdict, Shows, Ordered, last_step, bound_of}
use Rattle.campaign.proofs.Shifting.{not_before_all, ordered_later, strike_shows, trap_later}
use Rattle.campaign.proofs.Showing.{shows_input, where_none}
use Rattle.campaign.proofs.runs.Runs.strike_at.Goals as goal

pub all_from-requires : goal.all_from-requires
all_from-requires c =
    let first = c.first_step-start.ensures in
    not_before_all c.args.changes.now c.first_step-start.result c.requires.strike.ordered (omega (arith, first))

pub verdict-requires-clause-trace : goal.verdict-requires-clause-trace
verdict-requires-clause-trace c = subst (λ p. IsTrace p.output c.args.trace.now) (sym c.self.view_is) c.requires.trace

pub verdict-requires-clause-there : goal.verdict-requires-clause-there
verdict-requires-clause-there c =
    c.requires.there ∙ ap (run c.args.self.now.output) (sym c.first_step-start.ensures) ∙ ap (λ p. run p.output c.first_step-start.result) (sym c.self.view_is)

pub verdict-requires-clause-ordered : goal.verdict-requires-clause-ordered
verdict-requires-clause-ordered c =
    let later : c.deref.result.now ≡ all_from c.first_step-start.result c.args.changes.now = c.deref.ensures.value ∙ c.in_ok-later.ensures in
    subst Ordered (sym later) (ordered_later c.args.changes.now c.first_step-start.result c.requires.strike.ordered)

pub returns-in-Some : goal.returns-in-Some
returns-in-Some c =
    let first = c.first_step-start.ensures in
    let m = c.first_step-start.result in
    let later : c.deref.result.now ≡ all_from m c.args.changes.now = c.deref.ensures.value ∙ c.in_ok-later.ensures in
    let output : c.args.output.state ≡ run c.args.self.now.output m = c.requires.there ∙ ap (run c.args.self.now.output) (sym first) in
    let bound : bound_of c.args.self.now.bounds c.args.changes.now ≡ Some c.unwrap-bound.result =
    sym (ap (λ p. bound_of p.bounds c.args.changes.now) c.self.view_is) ∙ sym c.bound_of.ensures ∙ c.unwrap-bound.ensures in
    let shown : (s : State) → Shows s c.args.output.state c.unwrap-bound.result c.deref.result.now (Ok c.in-Some.verdict) = rw c.in-Some.is at c.in_ok-verdict.ensures in
    strike_shows c.args.self.now.input c.args.self.now.output c.args.output.state c.args.self.now.bounds c.args.changes.now c.deref.result.now m c.unwrap-bound.result (Ok c.in-Some.verdict)
    bound c.requires.strike.ordered (omega (arith, first)) output later (shown (run c.args.self.now.input m))

pub returns : goal.returns
returns c =
    let first = c.first_step-start.ensures in
    let m = c.first_step-start.result in
    let later : c.deref.result.now ≡ all_from m c.args.changes.now = c.deref.ensures.value ∙ c.in_ok-later.ensures in
    let output : c.args.output.state ≡ run c.args.self.now.output m = c.requires.there ∙ ap (run c.args.self.now.output) (sym first) in
    let bound : bound_of c.args.self.now.bounds c.args.changes.now ≡ Some c.unwrap-bound.result =
    sym (ap (λ p. bound_of p.bounds c.args.changes.now) c.self.view_is) ∙ sym c.bound_of.ensures ∙ c.unwrap-bound.ensures in
    let silent : IsSilentAt c.args.output.state c.unwrap-bound.result c.deref.result.now =
    where_none c.in_ok-verdict.field-0 (IsSilentAt c.args.output.state c.unwrap-bound.result c.deref.result.now) (λ v. (s : State) → Shows s c.args.output.state c.unwrap-bound.result c.deref.result.now (Ok v)) c.in_default.not-Some c.in_ok-verdict.ensures in
    let pc : c.in_ok-trap.trap ≡ trap_pc_of (run c.args.self.now.input (last_step c.args.changes.now + c.unwrap-bound.result)).outcome =
    c.in_ok-trap.ensures ∙ ap (λ p. trap_pc_of (run p.input (c.last_step-last.result + c.unwrap-bound.result)).outcome) c.self.view_is
    ∙ ap (λ n. trap_pc_of (run c.args.self.now.input (n + c.unwrap-bound.result)).outcome) c.last_step-last.ensures in
    subst (IsVerdict c.args.self.now.input c.args.self.now.output c.args.self.now.bounds c.args.changes.now) (sym c.input_verdict.ensures)
    (strike_shows c.args.self.now.input c.args.self.now.output c.args.output.state c.args.self.now.bounds c.args.changes.now c.deref.result.now m c.unwrap-bound.result (input_shows c.in_ok-trap.trap)
    bound c.requires.strike.ordered (omega (arith, first)) output later
    (shows_input (run c.args.self.now.input m) c.args.output.state c.unwrap-bound.result c.deref.result.now c.in_ok-trap.trap (subst Ordered (sym later) (ordered_later c.args.changes.now m c.requires.strike.ordered)) silent
    (trap_later c.args.self.now.input c.args.changes.now c.deref.result.now m c.unwrap-bound.result c.in_ok-trap.trap c.requires.strike.ordered (omega (arith, first)) later pc)))

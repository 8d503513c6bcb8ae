use Rattle.std.proofs.Common.{rules, ◌≡◌, ap, ◌∙◌, sym, subst}
use Rattle.machine.specs.declared.outcome.Outcome.TheVariants.{Going}
use Rattle.rv_step.specs.Slipped.{slipped_step}
use Rattle.campaign.specs.Found.{StopsWithin, TellsStop, run}
use Rattle.campaign.specs.Slips.{ShowsSlip, StandsEnded, stop_verdict}
use Rattle.campaign.proofs.Slipping.{none_goes, slipped_state, stop_shown, stop_stands}
use Rattle.campaign.proofs.slips.Slipping.shown.Goals as goal

pub returns-in_default-clause-shows : goal.returns-in_default-clause-shows
returns-in_default-clause-shows c =
    let s = c.args.output.now.state in
    let t = slipped_step c.args.at.now.slip s in
    let there = slipped_state c.args.at.now.slip c.in_ok-machine.machine c.slip.new.self c.in_ok-slip.ensures.slipped ∙ ap (λ p. slipped_step c.args.at.now.slip p.state) c.in_ok-machine.ensures in
    let going : s.outcome ≡ Going = search rules in
    let tells : TellsStop t c.args.bound c.steps_behind.new.machine.state c.in_ok-steps.field-0 =
    subst (λ u. TellsStop u c.args.bound c.steps_behind.new.machine.state c.in_ok-steps.field-0) there c.in_ok-steps.ensures in
    (going, none_goes t c.steps_behind.new.machine.state c.args.bound c.in_ok-steps.field-0 c.in_default.not-Some tells)

pub returns-clause-shows : goal.returns-clause-shows
returns-clause-shows c =
    let s = c.args.output.now.state in
    let t = slipped_step c.args.at.now.slip s in
    let there = slipped_state c.args.at.now.slip c.in_ok-machine.machine c.slip.new.self c.in_ok-slip.ensures.slipped ∙ ap (λ p. slipped_step c.args.at.now.slip p.state) c.in_ok-machine.ensures in
    let going : s.outcome ≡ Going = search rules in
    let stops : StopsWithin c.slip.new.self.state c.args.bound c.steps_behind.new.machine.state c.in-Some.steps = rw c.in-Some.is at c.in_ok-steps.ensures in
    subst (ShowsSlip s c.args.at.now.slip c.args.bound) (ap (λ o. stop_verdict o c.in-Some.steps) (sym c.outcome-2.ensures) ∙ sym c.stop_verdict-verdict.ensures)
    (stop_shown s c.steps_behind.new.machine.state c.args.at.now.slip c.args.bound c.in-Some.steps going
    (subst (λ u. StopsWithin u c.args.bound c.steps_behind.new.machine.state c.in-Some.steps) there stops))

pub returns-clause-ended : goal.returns-clause-ended
returns-clause-ended c =
    let t = slipped_step c.args.at.now.slip c.args.output.now.state in
    let there = slipped_state c.args.at.now.slip c.in_ok-machine.machine c.slip.new.self c.in_ok-slip.ensures.slipped ∙ ap (λ p. slipped_step c.args.at.now.slip p.state) c.in_ok-machine.ensures in
    let stops : StopsWithin c.slip.new.self.state c.args.bound c.steps_behind.new.machine.state c.in-Some.steps = rw c.in-Some.is at c.in_ok-steps.ensures in
    subst (StandsEnded (run t) c.steps_behind.new.machine.state) (sym c.stop_verdict-verdict.ensures)
    (stop_stands t c.steps_behind.new.machine.state c.outcome-2.result c.args.bound c.in-Some.steps
    (subst (λ u. StopsWithin u c.args.bound c.steps_behind.new.machine.state c.in-Some.steps) there stops))

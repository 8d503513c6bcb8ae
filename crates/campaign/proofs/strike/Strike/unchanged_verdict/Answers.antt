use Rattle.std.proofs.Common.{◌≡◌, ap, ◌∙◌, sym}
use Rattle.machine.specs.Step.{run}
use Rattle.qed_model.specs.Promise.Changed.{last_step}
use Rattle.machine.proofs.Lemmas.{run-none}
use Rattle.campaign.proofs.strike.Strike.unchanged_verdict.Goals as goal

pub returns-then-last_step-eq0-clause-same : goal.returns-then-last_step-eq0-clause-same
returns-then-last_step-eq0-clause-same c =
    let none : last_step c.args.self.now.changes.now ≡ 0 = sym c.last_step.ensures ∙ c.if-last_step-eq0.true in
    c.in_ok-verdict.ensures.there ∙ ap (run c.args.output.now.state) none ∙ run-none c.args.output.now.state

use Rattle.std.proofs.Common.{ap, ◌∙◌}
use Rattle.machine.specs.Step.{run}
use Rattle.campaign.proofs.runs.Runs.strike.Goals as goal

pub strike_at-requires-clause-there : goal.strike_at-requires-clause-there
strike_at-requires-clause-there c = c.in_ok-output.ensures ∙ ap (λ p. run p.output c.first_step.result) c.self.view_is ∙ ap (run c.args.self.now.output) c.first_step.ensures

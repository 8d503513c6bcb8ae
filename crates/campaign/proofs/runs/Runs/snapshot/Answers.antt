use Rattle.std.proofs.Common.{◌≡◌, ◌*◌, subst}
use Rattle.std.specs.Prelude.{IfSome}
use Rattle.machine.specs.Step.{run}
use Rattle.campaign.proofs.runs.Runs.snapshot.Goals as goal

pub returns-clause-there : goal.returns-clause-there
returns-clause-there c = subst (λ p. IfSome c.at.result (λ m. m.now.state ≡ run p.output (4096 * c.args.number))) c.self.view_is c.at.ensures.there

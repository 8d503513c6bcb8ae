use Rattle.std.proofs.Common.{◌≡◌, ◌-◌, ◌*◌, ◌/◌, ap, ◌∙◌, arith}
use Rattle.machine.specs.Step.{run}
use Rattle.campaign.proofs.Stopping.{ran_on}
use Rattle.campaign.proofs.snapshots.Snapshots.machine_at.Goals as goal

pub returns : goal.returns
returns c =
    let before = c.min-number.ensures in
    let copied = 4096 * (c.min-number.result / 4096) in
    let there : c.unwrap.result.now.state ≡ run c.args.self.now.start copied = rw c.unwrap.ensures at c.at.ensures.there in
    ran_on c.args.self.now.start c.in_ok-machine.machine c.run.new.self copied (c.args.steps - copied) c.args.steps (ap (λ p. p.state) c.in_ok-machine.ensures ∙ there) c.in_ok-run.ensures.run (omega (arith, before))

use Rattle.std.proofs.Common.{◌-◌, arith}
use Rattle.campaign.proofs.Stopping.{ran_on}
use Rattle.campaign.proofs.snapshots.Snapshots.go_to.Goals as goal

pub returns-then-steps-made : goal.returns-then-steps-made
returns-then-steps-made c =
    let order = c.if-made-steps.true in
    ran_on c.args.self.now.start c.args.machine.now c.run.new.self c.args.made (c.args.steps - c.args.made) c.args.steps c.requires c.in_ok-run.ensures.run (omega (arith, order))

use Rattle.campaign.proofs.Looking.{last_or_zero}
use Rattle.campaign.proofs.verdict.last_step.Goals as goal

pub loop-change-init : goal.loop-change-init
loop-change-init c = last_or_zero c.args.changes.now

use Rattle.campaign.proofs.Looking.{ordered_to, ordered_from_zero}
use Rattle.campaign.proofs.runs.is_ordered.Goals as goal

pub loop-change-init : goal.loop-change-init
loop-change-init c = record { enough = ordered_to 0 c.args.changes.now; needed = ordered_from_zero c.args.changes.now }

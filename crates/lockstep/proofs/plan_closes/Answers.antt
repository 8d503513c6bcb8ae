use Rattle.lockstep.proofs.Closing as closing
use Rattle.lockstep.proofs.plan_closes.Goals as goal

pub returns : goal.returns
returns c = closing.plan_closes

use Rattle.campaign.proofs.Leaping.{on_none}
use Rattle.campaign.proofs.strike.Strike.steps_behind.Goals as goal

pub returns-in-None : goal.returns-in-None
returns-in-None c = c.steps_beside.ensures c.args.machine.now.state (on_none c.args.machine.now.state)

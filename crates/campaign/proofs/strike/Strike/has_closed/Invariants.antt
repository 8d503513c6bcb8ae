use Rattle.campaign.proofs.Looking.{Looked}
use Rattle.campaign.proofs.strike.Strike.has_closed.Given as goal

abbrev pub invariant-loop-change : goal.invariant-loop-change
invariant-loop-change l = Looked l.initial.machine.state l.self.changes.now l.change-index l.steps l.is_closed l.machine.state

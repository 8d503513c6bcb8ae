use Rattle.lockstep.proofs.Rounds as rounds
use Rattle.lockstep.proofs.visits_reach_all.Goals as goal

pub returns : goal.returns
returns c = rounds.visits_reach_all

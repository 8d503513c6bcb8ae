use Rattle.lockstep.proofs.WrongTurns as turns
use Rattle.lockstep.proofs.tests_turned.Goals as goal

pub returns : goal.returns
returns c = turns.tests_turned

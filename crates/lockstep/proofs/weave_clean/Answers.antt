use Rattle.lockstep.proofs.Weaves as weaves
use Rattle.lockstep.proofs.weave_clean.Goals as goal

pub returns : goal.returns
returns c = weaves.weave_clean

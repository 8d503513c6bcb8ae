use Rattle.lean.proofs.Weave.Landed as landed
use Rattle.lean.proofs.promises.lean_landed.Goals as goal

pub returns : goal.returns
returns c = landed.lean_landed

use Rattle.lean.proofs.Weave.Strays as strays
use Rattle.lean.proofs.promises.lean_strayed.Goals as goal

pub returns : goal.returns
returns c = strays.lean_strayed

use Rattle.lean.proofs.Weave.Off as off
use Rattle.lean.proofs.promises.lean_adrift.Goals as goal

pub returns : goal.returns
returns c = off.lean_adrift

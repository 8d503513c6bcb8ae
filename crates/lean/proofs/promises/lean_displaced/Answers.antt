use Rattle.lean.proofs.Weave.Off as off
use Rattle.lean.proofs.promises.lean_displaced.Goals as goal

pub returns : goal.returns
returns c = off.lean_displaced

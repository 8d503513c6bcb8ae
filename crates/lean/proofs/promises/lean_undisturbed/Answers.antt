use Rattle.lean.proofs.Weave.Undisturbed as undisturbed
use Rattle.lean.proofs.promises.lean_undisturbed.Goals as goal

pub returns : goal.returns
returns c = undisturbed.lean_undisturbed

use Rattle.lean.proofs.Weave.Promise as promise
use Rattle.lean.proofs.promises.lean_kept_in_step.Goals as goal

pub returns : goal.returns
returns c = promise.lean_in_step

use Rattle.lean.proofs.Weave.Promise as promise
use Rattle.lean.proofs.promises.lean_caught_early.Goals as goal

pub returns : goal.returns
returns c = promise.lean_caught_early

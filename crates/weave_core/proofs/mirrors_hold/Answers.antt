use Rattle.weave_core.proofs.FormMirrors as law
use Rattle.weave_core.proofs.mirrors_hold.Goals as goal

pub returns : goal.returns
returns c = law.mirrors_hold

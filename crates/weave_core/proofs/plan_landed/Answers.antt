use Rattle.weave_core.proofs.FormRows as law
use Rattle.weave_core.proofs.plan_landed.Goals as goal

pub returns : goal.returns
returns c = law.plan_landed

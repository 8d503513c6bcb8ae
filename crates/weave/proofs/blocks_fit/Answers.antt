use Rattle.weave.proofs.AdmittedFit as fit
use Rattle.weave.proofs.blocks_fit.Goals as goal

pub returns : goal.returns
returns c = fit.blocks_fit

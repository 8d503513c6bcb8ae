use Rattle.weave.proofs.WholeCode as whole
use Rattle.weave.proofs.items_are_whole.Goals as goal

pub returns : goal.returns
returns c = whole.items_are_whole

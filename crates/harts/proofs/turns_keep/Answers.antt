use Rattle.harts.proofs.Keeping as laws
use Rattle.harts.proofs.turns_keep.Goals as goal

pub returns : goal.returns
returns c = laws.turns_keep

use Rattle.qed_model.proofs.Parts as parts
use Rattle.qed_model.proofs.laws.roles_cover.Goals as goal

pub returns : goal.returns
returns c = parts.roles_cover

use Rattle.qed_model.proofs.OneOutput.{one_output}
use Rattle.qed_model.proofs.laws.input_has_one_output.Goals as goal

pub returns : goal.returns
returns c = one_output

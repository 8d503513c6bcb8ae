use Rattle.qed_top.specs.Refused.{read_on}
use Rattle.qed_top.proofs.list.answer_list.Goals as goal

pub returns-in_ok-answer_file-in-Ok : goal.returns-in_ok-answer_file-in-Ok
returns-in_ok-answer_file-in-Ok c = read_on c.in-Ok.file c.in-Ok.ensures.read c.in_ok-answer_file-in-Ok.ensures

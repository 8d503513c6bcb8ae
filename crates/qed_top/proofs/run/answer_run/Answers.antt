use Rattle.qed_top.specs.Refused.{read_on}
use Rattle.qed_top.specs.Run.{watched}
use Rattle.qed_top.proofs.run.answer_run.Goals as goal

pub returns-in-Nothing : goal.returns-in-Nothing
returns-in-Nothing g c = rw c.in-Nothing.is (read_on c.in-Ok.file c.in-Ok.ensures.read (rw c.in-Nothing.is at c.in_ok-answer_file-in-Nothing.ensures))

pub returns-in-Slip : goal.returns-in-Slip
returns-in-Slip g c = rw c.in-Slip.is (read_on c.in-Ok.file c.in-Ok.ensures.read (rw c.in-Slip.is at c.in_ok-answer_file-in-Slip.ensures))

pub returns-in-Ok-admit : goal.returns-in-Ok-admit
returns-in-Ok-admit g c = rw c.in-Jumps.is (watched (record {
  file = c.in-Ok.file;
  read = c.in-Ok.ensures.read;
  test = c.in-Ok-admit.test;
  admitted = rw c.default.ensures at c.in-Ok-admit.ensures.exact;
  runs = rw c.in-Jumps.is at c.in_ok-answer_file-in-Ok-admit.ensures;
}))

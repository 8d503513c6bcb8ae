use Rattle.qed_top.specs.Refused.{made}
use Rattle.qed_top.proofs.outputs.answer_transform.Goals as goal

pub returns-in_ok-deliver-in-Ok : goal.returns-in_ok-deliver-in-Ok
returns-in_ok-deliver-in-Ok c = made (record { file = c.in-Ok.made.file; plan = c.in-Ok.made.plan; made = c.in-Ok.ensures.done; uses = c.in_ok-deliver-in-Ok.ensures })

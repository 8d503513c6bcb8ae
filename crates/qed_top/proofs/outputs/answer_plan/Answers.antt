use Rattle.qed_top.specs.Refused.{made}
use Rattle.qed_top.proofs.outputs.answer_plan.Goals as goal

pub returns-in_ok-tell-in-Ok : goal.returns-in_ok-tell-in-Ok
returns-in_ok-tell-in-Ok c = made (record { file = c.in-Ok.made.file; plan = c.in-Ok.made.plan; made = c.in-Ok.ensures.done; uses = c.in_ok-tell-in-Ok.ensures })

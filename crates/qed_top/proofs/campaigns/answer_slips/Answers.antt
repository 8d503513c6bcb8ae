use Rattle.qed_top.specs.Refused.{made}
use Rattle.qed_top.proofs.campaigns.answer_slips.Goals as goal

pub returns-in_ok-slip-in-Ok : goal.returns-in_ok-slip-in-Ok
returns-in_ok-slip-in-Ok g c = made (record { course = c.in-Ok.course; made = c.in-Ok.ensures.done; tells = c.in_ok-slip-in-Ok.ensures })

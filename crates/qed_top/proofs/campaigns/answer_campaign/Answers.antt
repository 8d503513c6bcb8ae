use Rattle.qed_top.specs.Refused.{made}
use Rattle.qed_top.proofs.campaigns.answer_campaign.Goals as goal

pub returns-in_ok-strike-in-Ok : goal.returns-in_ok-strike-in-Ok
returns-in_ok-strike-in-Ok g c = made (record { course = c.in-Ok.course; made = c.in-Ok.ensures.done; tells = c.in_ok-strike-in-Ok.ensures })

use Rattle.std.proofs.Common.{◌∙◌}
use Rattle.campaign.proofs.beside.stands_at.Goals as goal

pub returns-in-Some : goal.returns-in-Some
returns-in-Some c = λ same. c.is_beside.ensures same ∙ c.in-Some.ensures.there

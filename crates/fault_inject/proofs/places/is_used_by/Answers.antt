use Rattle.std.proofs.Common.{sym, ◌∙◌}
use Rattle.fault_inject.proofs.Closing.{used, unused}
use Rattle.fault_inject.proofs.places.is_used_by.Goals as goal

pub returns-in-Some : goal.returns-in-Some
returns-in-Some c f h = c.uses.ensures ∙ used f c.args.r c.in-Some.ins (sym c.in-Some.is ∙ h)

pub returns-in-None : goal.returns-in-None
returns-in-None c f h = unused f c.args.r (sym c.in-None.is ∙ h)

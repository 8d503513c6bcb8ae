-- Changes of tests whose mirror parts are of other kinds are caught.
use Rattle.weave_core.proofs.Lemmas.{diverse_mirrors}
use Rattle.lockstep.specs.DiverseLaws.{DiverseCaught, DiverseClean}
use Rattle.lockstep.proofs.FormWords.{plan_caught, plan_clean}

-- changes are caught
pub diverse_caught : DiverseCaught
diverse_caught f g w most blocks bounds plan is eight closes some b = plan_caught f g w most blocks bounds plan (diverse_mirrors w is eight) closes some b

-- with the sweep no change is silent
pub diverse_clean : DiverseClean
diverse_clean f g w most blocks plan is eight closes some swept = plan_clean f g w most blocks plan (diverse_mirrors w is eight) closes some swept

use Rattle.std.proofs.Common.{arith}
use Rattle.std.proofs.lemmas.Grind.{common_steps}
use Rattle.flow_recovery.proofs.LeaderLaws.{indirect_is}
use Rattle.flow_recovery.proofs.recovery.has_indirect.Goals as goal

pub returns-clause-exact : goal.returns-clause-exact
returns-clause-exact c = λ f words. indirect_is f _ _ words (grind (arith, common_steps))

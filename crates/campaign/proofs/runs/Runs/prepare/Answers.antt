use Rattle.std.proofs.Common.{subst}
use Rattle.campaign.specs.Kept.{IsReach}
use Rattle.campaign.proofs.Copying.{reach_positive}
use Rattle.campaign.proofs.runs.Runs.prepare.Goals as goal

pub invariant_of-result : goal.invariant_of-result
invariant_of-result c =
    reach_positive c.args.output.state c.in_ok-output.output.reach c.requires
    (subst (λ s. IsReach s c.in_ok-output.output.reach) c.in_ok-output.ensures (subst (IsReach c.in_ok-output.output.start) c.reach.ensures.value c.reach.ensures.reach))

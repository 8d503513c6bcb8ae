use Rattle.std.proofs.Common.{subst, arith}
use Rattle.campaign.specs.Found.{IsOn}
use Rattle.campaign.proofs.Leaping.{on_none, on_made}
use Rattle.campaign.proofs.watched.Watched.watch.Goals as goal

pub invariant_of-result : goal.invariant_of-result
invariant_of-result c =
    subst (λ p. IsOn p.state c.in_ok-steps.steps c.run_made.new.self.state) c.in_ok-later.ensures
    (on_made c.in_ok-later.later.state 0 c.args.most c.in_ok-steps.steps c.in_ok-steps.steps c.in_ok-later.later c.run_made.new.self (on_none c.in_ok-later.later.state) c.in_ok-steps.ensures.run c.in_ok-steps.ensures.made (omega arith))

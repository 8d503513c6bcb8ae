use Rattle.std.proofs.Common.{◌∙◌, subst}
use Rattle.fault_inject.specs.Touched.{IsTrace}
use Rattle.machine.proofs.Lemmas.{run-none}
use Rattle.campaign.proofs.snapshots.Snapshots.traced.Goals as goal

pub returns : goal.returns
returns c = subst (λ s. IsTrace s c.in_ok-trace.trace) (c.in_ok-machine.ensures ∙ run-none c.args.self.now.start) c.in_ok-trace.ensures

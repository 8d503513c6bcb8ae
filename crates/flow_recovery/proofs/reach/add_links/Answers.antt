use Rattle.tests.specs.Admission.Reached.{links_to}
use Rattle.flow_recovery.proofs.SetLaws.{adds_more}
use Rattle.flow_recovery.proofs.reach.add_links.Goals as goal

pub loop-word-preserved : goal.loop-word-preserved
loop-word-preserved c = adds_more links_to _ _ _ _ _ _ c.loop-word-test.true c.word-item.is c.loop-word.invariant c.in_ok-add_link.ensures

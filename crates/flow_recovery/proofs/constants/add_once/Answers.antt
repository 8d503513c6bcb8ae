use Rattle.tests.specs.Admission.Reached.{sum_leads}
use Rattle.flow_recovery.proofs.FoundLaws.{covers_more}
use Rattle.flow_recovery.proofs.constants.add_once.Goals as goal

pub loop-word-preserved : goal.loop-word-preserved
loop-word-preserved c =
    covers_more c.args.code.now (λ d a. sum_leads c.args.code.now.test.now c.args.known.now.register c.args.known.now.value a d) _ _ _ _ _ _
    c.loop-word-test.true c.word-item.is c.loop-word.invariant c.in_ok-add_sum.ensures

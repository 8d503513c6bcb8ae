use Rattle.tests.specs.Admission.Reached.{leads, sums_lead, twice}
use Rattle.flow_recovery.proofs.FoundLaws.{covers_more, covers_all}
use Rattle.flow_recovery.proofs.constants.add_twice.Goals as goal

pub loop-word-preserved : goal.loop-word-preserved
loop-word-preserved c =
    covers_more c.args.code.now (λ d a. sums_lead c.args.code.now.test.now c.args.known.now.near.now c.args.known.now.register c.args.known.now.value a d) _ _ _ _ _ _
    c.loop-word-test.true c.word-item.is c.loop-word.invariant c.in_ok-add_sums.ensures

pub returns : goal.returns
unfolding twice
returns c =
    covers_all c.args.code.now (λ d a. sums_lead c.args.code.now.test.now c.args.known.now.near.now c.args.known.now.register c.args.known.now.value a d) (leads c.args.code.now.test.now c.args.known.now.value) c.args.known.now.near.now _ _ _ _
    c.loop-word-test.false c.in_ok-add_constant.ensures.covers c.loop-word.invariant

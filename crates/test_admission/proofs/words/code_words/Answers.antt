use Rattle.std.proofs.Common.{[]}
use Rattle.test_admission.proofs.Listing.{stretch_step, known_step}
use Rattle.test_admission.proofs.words.code_words.Goals as goal

pub loop-stretch-preserved : goal.loop-stretch-preserved
loop-stretch-preserved c = record {
  words = stretch_step c.args.code.now c.loop-stretch.stretch-index _ _ _ _ c.loop-stretch-test.true c.in_ok-push_words.ensures.words c.loop-stretch.invariant.words;
  decoded = c.in_ok-push_words.ensures.decoded c.loop-stretch.invariant.decoded;
  known = known_step c.args.code.now c.loop-stretch.stretch-index (record { start = 0; size = 0; bytes = record { ref_ptr = (0, 0); now = [] } }) c.loop-stretch-test.true c.loop-stretch.invariant.known;
}

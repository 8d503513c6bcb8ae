use Rattle.std.proofs.Common.{arith}
use Rattle.output_file.proofs.Counting.{counted_more}
use Rattle.output_file.proofs.plans.word_count.Goals as goal

pub loop-range-preserved : goal.loop-range-preserved
loop-range-preserved c = λ h. counted_more c.args.ranges.now h c.loop-range.range-index c.loop-range.count _ _ _ c.loop-range-test.true c.words_in-count.ensures.value c.words_in-count.ensures.range (λ k. omega (arith, k)) (c.loop-range.invariant h)

use Rattle.std.proofs.Common.{◌∙◌, ap, refl, ◌++◌}
use Rattle.output_file.proofs.Counting.{rows_more, whole_end, whole_rows, rows_all}
use Rattle.output_file.proofs.plans.push_pieces.Goals as goal

pub loop-length-preserved : goal.loop-length-preserved
loop-length-preserved c = λ h. rows_more c.args.block.now.start c.loop-length.first c.behind-first.result c.loop-length.length-index _ _ c.loop-length.rows.items _ _ c.loop-length-test.true refl c.in_ok-push.ensures.items c.behind-first.ensures (c.loop-length.invariant h)

pub returns : goal.returns
returns c = λ w. rows_all c.args.block.now.start c.loop-length.first c.loop-length.length-index _ _ _ c.loop-length-test.false (c.loop-length.invariant (whole_end c.args.block.now w)) ∙ ap (λ xs. c.args.rows.now.items ++ xs) (whole_rows c.args.block.now w)

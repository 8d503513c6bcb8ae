use Rattle.std.proofs.Common.{max, ap, ◌∙◌}
use Rattle.machine.specs.Loading.{load_segments}
use Rattle.listing.specs.Homes.{image_word}
use Rattle.listing.proofs.Lines.{range_step}
use Rattle.listing.proofs.listing.lines_of.Goals as goal

pub loop-range-preserved : goal.loop-range-preserved
loop-range-preserved c =
    range_step (image_word (load_segments c.args.segments.now)) c.args.ranges.now c.loop-range.range-index (record { start = 0; end = 0 }) c.loop-range.done c.max-done.result c.loop-range.text.items c.push_range.new.text.items _
    c.loop-range-test.true c.in_ok-push_range.ensures (c.max-done.ensures ∙ ap (λ n. max c.loop-range.done n) c.last_word.ensures) c.loop-range.invariant

use Rattle.std.proofs.Common.{◌+◌, ◌*◌, ◌++◌, ap, ◌∙◌}
use Rattle.machine.specs.Loading.{load_segment}
use Rattle.listing.specs.Homes.{segment_word}
use Rattle.listing.specs.Listing.{line}
use Rattle.listing.proofs.Lines.{line_step}
use Rattle.listing.proofs.listing.push_words.Goals as goal

pub loop-number-preserved : goal.loop-number-preserved
loop-number-preserved c =
    line_step (segment_word (load_segment c.args.segment.now)) c.args.start c.args.count c.loop-number.number c.loop-number.text.items c.push_line.new.text.items _ c.loop-number-test.true
    (c.in_ok-push_line.ensures ∙ ap (λ w. c.loop-number.text.items ++ line (c.args.start + 4 * c.loop-number.number) w) c.segment_word.ensures)
    c.loop-number.invariant

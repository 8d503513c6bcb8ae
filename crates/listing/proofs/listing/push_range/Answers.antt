use Rattle.tests.specs.Ranges.{span}
use Rattle.listing.proofs.Words.{range_lines}
use Rattle.listing.proofs.listing.push_range.Goals as goal

pub returns : goal.returns
returns c =
    range_lines c.args.segments.now (span c.args.range) c.home-segment.result.now c.first_word.result c.max-start.result c.last_word-end.result c.args.done c.args.text.now.items c.push_words.new.text.items
    c.requires.apart c.home-segment.ensures c.first_word.ensures c.max-start.ensures c.last_word-end.ensures c.if-end-start.false c.in_ok-push_words.ensures

use Rattle.tests.specs.Ranges.{span}
use Rattle.listing.proofs.Words.{is_home}
use Rattle.listing.proofs.home.home.Goals as goal

pub returns : goal.returns
returns c = let h = rw c.unwrap.ensures at c.first_home.ensures in is_home c.args.segments.now (span c.args.range) c.unwrap.result.now c.requires.fit h.0 h.1 h.2

use Rattle.mem_image.specs.Overlap.{segments_of}
use Rattle.mem_image.proofs.OverlapLaws.{none_overlaps, least_overlaps}
use Rattle.mem_image.proofs.overlap.why_not.Goals as goal

pub returns-in-Some : goal.returns-in-Some
returns-in-Some c = least_overlaps (segments_of c.args.specs.now) _ _ c.in-Some.ensures.some

pub returns-in-None : goal.returns-in-None
returns-in-None c = none_overlaps (segments_of c.args.specs.now) c.in-None.ensures.none

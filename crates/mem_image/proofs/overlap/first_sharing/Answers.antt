use Rattle.std.proofs.Common.{map}
use Rattle.mem_image.specs.Overlap.{IsPair}
use Rattle.mem_image.proofs.LeastPairs.{first_more}
use Rattle.mem_image.proofs.overlap.first_sharing.Goals as goal

pub loop-i-preserved : goal.loop-i-preserved
loop-i-preserved g c = first_more (IsPair g.T.Sharing.shares (map g.T.Sharing.view c.args.list.now)) c.loop-i.i c.loop-i.invariant c.in_default.ensures.none

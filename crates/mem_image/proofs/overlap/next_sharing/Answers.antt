use Rattle.std.proofs.Common.{map, sym, ◌∙◌}
use Rattle.std.proofs.lemmas.Bool.{false≢true}
use Rattle.mem_image.specs.Overlap.{IsPair}
use Rattle.mem_image.proofs.LeastPairs.{next_more}
use Rattle.mem_image.proofs.OverlapLaws.{pair_share}
use Rattle.mem_image.proofs.overlap.next_sharing.Goals as goal

pub loop-j-preserved : goal.loop-j-preserved
loop-j-preserved g c =
    next_more (IsPair g.T.Sharing.shares (map g.T.Sharing.view c.args.list.now)) c.args.i c.loop-j.j c.loop-j.invariant
    (λ o. false≢true (sym c.if-share.false ∙ c.share.ensures ∙ pair_share g.T.Sharing.view g.T.Sharing.shares c.args.list.now c.args.i c.loop-j.j c.index-list-i.result c.index-list-j.result c.requires c.loop-j-test.true c.index-list-i.is c.index-list-j.is o))

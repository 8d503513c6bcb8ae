use Rattle.std.proofs.Common.{arith}
use Rattle.mem_image.specs.Overlap.{plain_segment}
use Rattle.mem_image.proofs.PagingLaws.{paged_more}
use Rattle.mem_image.proofs.paging.push_pages.Goals as goal

pub loop-from-preserved : goal.loop-from-preserved
loop-from-preserved c =
    let piece = c.in_ok-page.ensures in
    let size = piece.size in
    let add = c.size-from.ensures in
    let more = paged_more c.args.pages.now.items c.loop-from.pages.items (plain_segment c.args.spec.now) c.in_ok-page.page c.loop-from.from c.requires.below c.loop-from.invariant.1 c.requires.fits c.loop-from-test.true piece in
    (omega (arith, size, add), rw (c.in_ok-push.ensures.items, add) more)

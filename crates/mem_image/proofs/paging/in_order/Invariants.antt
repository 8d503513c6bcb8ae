use Rattle.mem_image.specs.Overlap.{segments_of}
use Rattle.mem_image.specs.Pages.{Orders}
use Rattle.mem_image.proofs.paging.in_order.Given as goal

abbrev pub invariant-loop-i : goal.invariant-loop-i
invariant-loop-i l = Orders (segments_of l.specs) l.order.items l.i

use Rattle.mem_image.specs.Overlap.{segments_of}
use Rattle.mem_image.specs.Pages.{CoversSegments}
use Rattle.mem_image.proofs.paging.pages_of.Given as goal

abbrev pub invariant-loop-i : goal.invariant-loop-i
invariant-loop-i l = CoversSegments (segments_of l.specs) l.order.items l.pages.items l.bound l.i

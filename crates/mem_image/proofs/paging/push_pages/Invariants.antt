use Rattle.std.proofs.Common.{◌-◌, ◌≤◌}
use Rattle.mem_image.specs.Overlap.{plain_segment}
use Rattle.mem_image.specs.Pages.{IsPaged}
use Rattle.mem_image.proofs.paging.push_pages.Given as goal

abbrev pub invariant-loop-from : goal.invariant-loop-from
invariant-loop-from l = (l.from ≤ l.memory) × IsPaged l.fn.pages.items (plain_segment l.spec) l.pages.items l.from

abbrev pub decreases-loop-from : goal.decreases-loop-from
decreases-loop-from l = l.memory - l.from

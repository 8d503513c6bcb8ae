use Rattle.std.proofs.Common.{◌≡◌, drop}
use Rattle.std.specs.List.{list_any}
use Rattle.machine.specs.Loading.{load_segment, load_segments}
use Rattle.machine.specs.Apart.{share}
use Rattle.mem_image.proofs.files.shares_any.Given as goal

-- the rest decides
abbrev pub invariant-loop-other : goal.invariant-loop-other
invariant-loop-other l = list_any (share (load_segment l.segment)) (load_segments (drop l.other-index l.others)) ≡ list_any (share (load_segment l.segment)) (load_segments l.others)

use Rattle.std.proofs.Common.{◌≡◌, drop}
use Rattle.machine.specs.Loading.{load_segments}
use Rattle.mem_image.specs.Overlap.{any_share}
use Rattle.mem_image.proofs.files.any_share.Given as goal

-- the rest decides
abbrev pub invariant-loop-segment : goal.invariant-loop-segment
invariant-loop-segment l = any_share (load_segments (drop l.segment-index l.segments)) (load_segments l.others) ≡ any_share (load_segments l.segments) (load_segments l.others)

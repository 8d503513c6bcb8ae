use Rattle.std.proofs.Common.{◌≡◌, ◌++◌, drop, map}
use Rattle.qed_model.specs.Weave.OutputFile.{shifted}
use Rattle.output_file.specs.Images.{HasRoom}
use Rattle.output_file.proofs.halves.duplicate.Given as goal

-- the copies so far and those of the rest are those of all
abbrev pub invariant-loop-segment : goal.invariant-loop-segment
invariant-loop-segment l = HasRoom l.distance l.segments → l.out.items ++ map (shifted l.distance) (drop l.segment-index l.segments) ≡ map (shifted l.distance) l.segments

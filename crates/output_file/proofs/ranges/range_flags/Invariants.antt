use Rattle.std.proofs.Common.{◌≡◌, drop, map}
use Rattle.qed_model.specs.Weave.OutputFile.{range_flags}
use Rattle.output_file.proofs.ranges.range_flags.Given as goal

-- the rest decides
abbrev pub invariant-loop-segment : goal.invariant-loop-segment
invariant-loop-segment l = range_flags (map (λ s. s.now) (drop l.segment-index l.held)) ≡ range_flags (map (λ s. s.now) l.held)

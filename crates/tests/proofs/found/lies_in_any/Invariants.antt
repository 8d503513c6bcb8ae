use Rattle.std.proofs.Common.{◌≡◌, drop}
use Rattle.machine.specs.Loading.{load_segments, lies_in_any}
use Rattle.tests.proofs.found.lies_in_any.Given as goal

-- the rest decides
abbrev pub invariant-loop-segment : goal.invariant-loop-segment
invariant-loop-segment l = lies_in_any l.section (load_segments (drop l.segment-index l.segments)) ≡ lies_in_any l.section (load_segments l.segments)

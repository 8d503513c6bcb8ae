use Rattle.std.proofs.Common.{◌≡◌, drop}
use Rattle.machine.specs.Loading.{load_segments}
use Rattle.tests.specs.Ranges.{span}
use Rattle.test_admission.specs.Stretches.{is_held_code}
use Rattle.test_admission.proofs.stretches.home.Given as goal

-- the rest decides
abbrev pub invariant-loop-segment : goal.invariant-loop-segment
invariant-loop-segment l = is_held_code (load_segments (drop l.segment-index l.segments)) (span l.range) ≡ is_held_code (load_segments l.segments) (span l.range)

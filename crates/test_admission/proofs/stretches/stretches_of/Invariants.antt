use Rattle.std.proofs.Common.{◌≡◌, ◌++◌, drop}
use Rattle.std.specs.Prelude.{map, filter, All}
use Rattle.machine.specs.Loading.{load_segments}
use Rattle.tests.specs.Ranges.{spans}
use Rattle.test_admission.specs.Stretches.{stretch_parts, part_span, ReadsImage, is_held_code}
use Rattle.test_admission.proofs.stretches.stretches_of.Given as goal

-- the parts so far and those of the rest are those of all, and each is read
abbrev pub invariant-loop-range : goal.invariant-loop-range
invariant-loop-range l = record {
  same : map part_span (stretch_parts l.parts.items) ++ filter (is_held_code (load_segments l.segments)) (spans (drop l.range-index l.ranges)) ≡ filter (is_held_code (load_segments l.segments)) (spans l.ranges);
  read : All (ReadsImage (load_segments l.segments)) (stretch_parts l.parts.items);
}

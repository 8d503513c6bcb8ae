use Rattle.std.proofs.Common.{◌≡◌, ◌+◌, ◌*◌, ◌^◌, ◌≤◌, drop}
use Rattle.qed_top.specs.Run.{memory_bytes}
use Rattle.qed_top.proofs.run.memory_size.Given as goal

-- the sizes so far and those of the rest are those of all
abbrev pub invariant-loop-segment : goal.invariant-loop-segment
invariant-loop-segment l = record {
  rest : l.size + memory_bytes (drop l.segment-index l.segments) ≡ memory_bytes l.segments;
  small : l.size ≤ 2 ^ 64 * l.segment-index;
}

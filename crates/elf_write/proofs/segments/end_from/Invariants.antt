use Rattle.std.proofs.Common.{◌≡◌, ◌+◌, ◌*◌, ◌^◌, ◌≤◌, drop}
use Rattle.tests.specs.Elf.Written.{end_from}
use Rattle.elf_write.proofs.segments.end_from.Given as goal

-- the end of the rest is that of all
abbrev pub invariant-loop-segment : goal.invariant-loop-segment
invariant-loop-segment l = record {
  rest : end_from l.at (drop l.segment-index l.segments) ≡ end_from l.start l.segments;
  room : l.at ≤ l.start + (2 ^ 64 + 4096) * l.segment-index;
}

use Rattle.std.proofs.Common.{◌≡◌, ◌++◌, drop}
use Rattle.tests.specs.Elf.Written.{segments_bytes, end_from}
use Rattle.elf_write.proofs.segments.push_segments.Given as goal

-- the file so far and what is left make the whole
abbrev pub invariant-loop-segment : goal.invariant-loop-segment
invariant-loop-segment l = record {
  rest : l.out.items ++ segments_bytes l.at (drop l.segment-index l.segments) ≡ l.initial.out.items ++ segments_bytes l.start l.segments;
  end : end_from l.at (drop l.segment-index l.segments) ≡ end_from l.start l.segments;
}

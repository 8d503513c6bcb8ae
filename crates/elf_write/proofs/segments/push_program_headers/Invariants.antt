use Rattle.std.proofs.Common.{◌≡◌, ◌++◌, ℕ, ◌<◌, drop, slice_index_or}
use Rattle.elf_types.specs.declared.file.Segment.{Segment}
use Rattle.tests.specs.Elf.Written.{program_headers, end_from}
use Rattle.elf_write.specs.Widths.{SegmentFits}
use Rattle.elf_write.proofs.segments.push_program_headers.Given as goal

-- the file so far and what is left make the whole
abbrev pub invariant-loop-segment : goal.invariant-loop-segment
invariant-loop-segment l = record {
  rest : l.out.items ++ program_headers l.at (drop l.segment-index l.segments) ≡ l.initial.out.items ++ program_headers l.start l.segments;
  end : end_from l.at (drop l.segment-index l.segments) ≡ end_from l.start l.segments;
  fits : (k : ℕ) (d : Segment) → k < l.segment-index → SegmentFits (slice_index_or l.segments k d);
}

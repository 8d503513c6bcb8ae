use Rattle.std.proofs.Common.{◌≡◌, drop}
use Rattle.tests.specs.Elf.Written.{end_from}
use Rattle.tests.specs.Elf.Layout.{offset_in}
use Rattle.elf_write.proofs.sections.offset_in.Given as goal

-- no segment so far has the section
abbrev pub invariant-loop-segment : goal.invariant-loop-segment
invariant-loop-segment l = record {
  rest : offset_in l.at (drop l.segment-index l.segments) l.section ≡ offset_in l.start l.segments l.section;
  end : end_from l.at (drop l.segment-index l.segments) ≡ end_from l.start l.segments;
}

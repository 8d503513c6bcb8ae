use Rattle.elf_read.specs.Extents.{HasExtents}
use Rattle.elf_read.proofs.extents.ascending.Given as goal

-- each segment so far that has memory has its extent
abbrev pub invariant-loop-number : goal.invariant-loop-number
invariant-loop-number l = HasExtents l.file l.number l.extents.items

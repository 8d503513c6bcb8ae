use Rattle.std.proofs.Common.{◌≡◌, ◌+◌, ◌*◌, ◌^◌, ◌≤◌, length, drop}
use Rattle.tests.specs.Elf.Layout.{own_bytes}
use Rattle.elf_write.proofs.sections.own_size.Given as goal

-- the size so far and that of the rest make the whole
abbrev pub invariant-loop-section : goal.invariant-loop-section
invariant-loop-section l = record {
  rest : l.size + length (own_bytes (drop l.section-index l.sections)) ≡ length (own_bytes l.sections);
  room : l.size ≤ 2 ^ 64 * l.section-index;
}

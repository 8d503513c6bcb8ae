use Rattle.std.proofs.Common.{◌≡◌, ◌+◌, ◌*◌, ◌^◌, ◌≤◌, length, drop, map}
use Rattle.tests.specs.Elf.Layout.{names_bytes}
use Rattle.elf_write.proofs.sections.names_size.Given as goal

-- the size so far and that of the rest make the whole
abbrev pub invariant-loop-section : goal.invariant-loop-section
invariant-loop-section l = record {
  rest : l.size + length (names_bytes (map (λ x. x.name) (drop l.section-index l.sections))) ≡ length (names_bytes (map (λ x. x.name) l.sections));
  room : l.size ≤ 2 ^ 64 * l.section-index;
}

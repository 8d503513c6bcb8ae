use Rattle.std.proofs.Common.{◌≡◌, ◌++◌, drop}
use Rattle.tests.specs.Elf.Layout.{own_bytes}
use Rattle.elf_write.proofs.sections.push_own_bytes.Given as goal

-- the file so far and what is left make the whole
abbrev pub invariant-loop-section : goal.invariant-loop-section
invariant-loop-section l = l.out.items ++ own_bytes (drop l.section-index l.sections) ≡ l.initial.out.items ++ own_bytes l.sections

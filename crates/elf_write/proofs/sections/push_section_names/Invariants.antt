use Rattle.std.proofs.Common.{◌≡◌, ◌++◌, drop, map}
use Rattle.tests.specs.Elf.Layout.{names_bytes}
use Rattle.elf_write.proofs.sections.push_section_names.Given as goal

-- the file so far and the names that are left make the whole
abbrev pub invariant-loop-section : goal.invariant-loop-section
invariant-loop-section l =
    l.out.items ++ names_bytes (map (λ x. x.name) (drop l.section-index l.sections)) ≡ l.initial.out.items ++ names_bytes (map (λ x. x.name) l.sections)

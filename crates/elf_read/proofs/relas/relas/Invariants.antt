use Rattle.std.proofs.Common.{◌≡◌}
use Rattle.machine.specs.Below.{gather}
use Rattle.tests.specs.Files.Fields.{section_header}
use Rattle.tests.specs.Files.File.{relas_of}
use Rattle.elf_read.proofs.relas.relas.Given as goal

abbrev pub invariant-loop-i : goal.invariant-loop-i
invariant-loop-i l = l.out.items ≡ gather l.i (λ i. relas_of l.file (section_header l.file i))

use Rattle.std.proofs.Common.{◌≡◌, ◌++◌}
use Rattle.machine.specs.Below.{each}
use Rattle.tests.specs.Files.Fields.{rela_entry}
use Rattle.elf_read.proofs.relas.append_relas.Given as goal

abbrev pub invariant-loop-k : goal.invariant-loop-k
invariant-loop-k l = l.out.items ≡ l.initial.out.items ++ each l.k (rela_entry l.entries)

use Rattle.std.proofs.Common.{take}
use Rattle.tests.specs.Admission.Terms.{is_relocated}
use Rattle.flow_recovery.specs.Sets.{Adds}
use Rattle.flow_recovery.proofs.named.add_relocations.Given as goal

-- the relocations so far were added
abbrev pub invariant-loop-rela : goal.invariant-loop-rela
invariant-loop-rela l = Adds l.initial.list.items l.list.items (is_relocated l.symbols (take l.rela-index l.relas))

use Rattle.std.proofs.Common.{take}
use Rattle.tests.specs.Admission.Terms.{is_named}
use Rattle.flow_recovery.specs.Sets.{Adds}
use Rattle.flow_recovery.proofs.named.add_symbols.Given as goal

-- the symbols so far were added
abbrev pub invariant-loop-symbol : goal.invariant-loop-symbol
invariant-loop-symbol l = Adds l.initial.list.items l.list.items (is_named (take l.symbol-index l.symbols))

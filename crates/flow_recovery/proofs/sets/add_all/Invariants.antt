use Rattle.std.proofs.Common.{take}
use Rattle.flow_recovery.specs.Sets.{lists, Adds}
use Rattle.flow_recovery.proofs.sets.add_all.Given as goal

-- the addresses so far were added
abbrev pub invariant-loop-address : goal.invariant-loop-address
invariant-loop-address l = Adds l.initial.list.items l.list.items (lists (take l.address-index l.addresses))

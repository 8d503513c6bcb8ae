use Rattle.machine.specs.Sets.{has_address}
use Rattle.flow_recovery.specs.Sets.{lists}
use Rattle.block_split.proofs.BuiltLaws.{Done}
use Rattle.block_split.proofs.list.list.Given as goal

-- the blocks so far, and the leaders that are left
abbrev pub invariant-loop-at : goal.invariant-loop-at
invariant-loop-at l = Done (lists l.leaders) l.cutting.every (has_address l.cutting.reached.now) l.cutting.options.now.inst_max l.words l.at l.left l.blocks.items

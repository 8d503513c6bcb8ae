use Rattle.flow_recovery.specs.Found.{is_offset}
use Rattle.flow_recovery.proofs.SetLaws.{adds_more}
use Rattle.flow_recovery.proofs.pointers.add_offsets.Goals as goal

pub loop-word-preserved : goal.loop-word-preserved
loop-word-preserved c = adds_more is_offset _ _ _ _ _ _ c.loop-word-test.true c.word-item.is c.loop-word.invariant c.in_ok-add_offset.ensures

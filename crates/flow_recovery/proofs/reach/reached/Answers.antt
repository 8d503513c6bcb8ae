use Rattle.flow_recovery.proofs.ReachLaws.{marked}
use Rattle.flow_recovery.proofs.reach.reached.Goals as goal

pub returns : goal.returns
returns c = marked c.args.file.now c.args.test.now _ _ _ _ c.as_slice.ensures c.in_ok-set.ensures c.in_ok-list.ensures c.in_ok-marks.ensures

use Rattle.flow_recovery.proofs.LeaderLaws.{begun_is}
use Rattle.flow_recovery.proofs.recovery.begun.Goals as goal

pub returns : goal.returns
returns c = begun_is _ _ _ _ c.args.words.now c.sort_unstable.ensures.permutation c.sort_unstable.ensures.sorted c.deref.ensures.value c.in_ok-kept.ensures

use Rattle.flow_recovery.proofs.LeaderLaws.{entered_set}
use Rattle.flow_recovery.proofs.recovery.entered.Goals as goal

pub returns : goal.returns
returns c = entered_set c.args.file.now c.args.options.now c.args.test.now c.requires _ _ _ c.new-list.ensures.items c.in_ok-add_entered.ensures c.in_ok-set.ensures

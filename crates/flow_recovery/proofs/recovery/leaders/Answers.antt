use Rattle.flow_recovery.proofs.LeaderLaws.{leaders_found}
use Rattle.flow_recovery.proofs.recovery.leaders.Goals as goal

pub returns : goal.returns
returns c =
    leaders_found c.args.file.now c.args.options.now c.args.test.now _ _ _ _
    c.as_slice.ensures c.requires c.in_ok-list.ensures.small c.in_ok-list.ensures.exact c.in_ok-add_entered.ensures c.in_ok-leaders.ensures

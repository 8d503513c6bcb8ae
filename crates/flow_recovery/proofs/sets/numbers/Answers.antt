use Rattle.std.proofs.Common.{◌≡◌, rules}
use Rattle.flow_recovery.proofs.SetLaws.{ascends}
use Rattle.flow_recovery.proofs.sets.numbers.Goals as goal

pub returns-clause-ascending : goal.returns-clause-ascending
returns-clause-ascending c =
    let is : c.in_ok-list.list.items ≡ c.args.set.keys = search rules in
    ascends c.args.set.keys _ c.into_iter.ensures.into_iter_gives.4 is

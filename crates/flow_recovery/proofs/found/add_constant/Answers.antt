use Rattle.std.proofs.Common.{refl}
use Rattle.flow_recovery.proofs.FoundLaws.{constant_covers}
use Rattle.flow_recovery.proofs.found.add_constant.Goals as goal

pub returns-clause-covers : goal.returns-clause-covers
returns-clause-covers c = constant_covers c.args.code.now c.args.found.now _ c.args.value _ refl c.in_ok-add_place.ensures c.in_ok-add_tables.ensures c.remember.ensures

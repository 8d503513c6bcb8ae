use Rattle.std.proofs.Common.{[], subst}
use Rattle.relinker.specs.Laid.{IsLaidIn, IsLinked}
use Rattle.relinker.proofs.Laying.{none_behind}
use Rattle.relinker.proofs.layout.link.Goals as goal

pub add-requires : goal.add-requires
add-requires c = ((c.args.far, c.args.base), [], [], (c.in_ok-layout.ensures.form, c.in_ok-layout.ensures.base, none_behind _ _ c.in_ok-layout.ensures.laid))

pub finish-requires : goal.finish-requires
finish-requires c =
    let laid : IsLaidIn c.add.new.self (c.args.far, c.args.base) c.args.items.now [] =
    c.add.ensures (c.args.far, c.args.base) [] [] (c.in_ok-layout.ensures.form, c.in_ok-layout.ensures.base, none_behind _ _ c.in_ok-layout.ensures.laid) in
    (c.args.items.now, laid.2)

pub returns-clause-linked : goal.returns-clause-linked
returns-clause-linked c =
    let laid : IsLaidIn c.add.new.self (c.args.far, c.args.base) c.args.items.now [] =
    c.add.ensures (c.args.far, c.args.base) [] [] (c.in_ok-layout.ensures.form, c.in_ok-layout.ensures.base, none_behind _ _ c.in_ok-layout.ensures.laid) in
    subst (λ far. IsLinked far c.args.base c.args.items.now c.finish.result) laid.0 (subst (λ base. IsLinked c.add.new.self.far base c.args.items.now c.finish.result) laid.1 (c.finish.ensures c.args.items.now laid.2))

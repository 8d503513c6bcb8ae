use Rattle.std.proofs.Common.{refl}
use Rattle.rv_step.specs.declared.table.Entry.{Entry}
use Rattle.rv_step.proofs.WindowLaws.{none_held}
use Rattle.rv_step.proofs.table.Table.new.Goals as goal

pub returns : goal.returns
returns c = λ s.
    let none : Entry = record { ins = c.nop.result; address = 1; lives = 0 } in
    none_held s 8192 none c.in_ok-all.all.items refl (c.in_ok-all.ensures.items_if_clones_equal (λ y h. h))

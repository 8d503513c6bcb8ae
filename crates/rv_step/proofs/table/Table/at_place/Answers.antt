use Rattle.std.proofs.Common.{◌≡◌, ◌<◌, List, sym, ap, ◌∙◌, subst, arith}
use Rattle.std.specs.Prelude.{length}
use Rattle.std.proofs.Math.ListN.{get_or}
use Rattle.rv_step.specs.declared.table.Entry.{Entry}
use Rattle.rv_step.proofs.WindowLaws.{table_next}
use Rattle.rv_step.proofs.table.Table.at_place.Goals as goal

pub returns : goal.returns
returns c = λ s h here.
    let e = c.index-entry.result.now in
    let full : length c.self.inside.all.items ≡ 8192 = c.self.invariant in
    let below : c.args.place < length c.self.inside.all.items = omega (arith, full, c.requires.place) in
    table_next s c.args.self.now c.args.place c.args.address e h
    (subst (λ (xs : List Entry). c.args.place < length xs) c.self.view_is below)
    (ap (λ (xs : List Entry). get_or xs c.args.place e) (sym c.self.view_is) ∙ sym c.index-entry.ensures)
    c.if-entry-address.false c.requires.grain here

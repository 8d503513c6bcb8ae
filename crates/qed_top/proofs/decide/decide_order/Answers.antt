use Rattle.std.proofs.Common.{rules, ◌≡◌, false, sym, subst}
use Rattle.qed_io.specs.Counts.{RoseAt}
use Rattle.qed_top.specs.Loads.{OverLoads}
use Rattle.qed_top.specs.Orders.{OrderCallsFor, reads_several, Order}
use Rattle.qed_top.proofs.Meanings.{over_one}
use Rattle.qed_top.proofs.decide.decide_order.Goals as goal

pub returns-in_ok-answer_harts-in-Harts-clause-meant : goal.returns-in_ok-answer_harts-in-Harts-clause-meant
returns-in_ok-answer_harts-in-Harts-clause-meant g c =
    let shelf = g.S.Shelf in
    let rose = RoseAt (shelf.load_faults c.args.shelf.now) (shelf.load_faults c.answer_harts.new.shelf) in
    subst (λ (order : Order). OverLoads (shelf.files c.args.shelf.now) (λ loads. OrderCallsFor order loads rose c.in_ok-answer_harts-in-Harts.field-0)) (sym c.in-Harts.is)
    (rw c.as_slice.ensures at c.in_ok-answer_harts-in-Harts.ensures.meant)

pub returns-in_ok-decide_source-in_default : goal.returns-in_ok-decide_source-in_default
returns-in_ok-decide_source-in_default g c =
    let shelf = g.S.Shelf in
    let rose = RoseAt (shelf.load_faults c.args.shelf.now) (shelf.load_faults c.decide_source.new.shelf) in
    let did = c.in_ok-decide_source-in_default.ensures in
    let one : reads_several c.args.order ≡ false = search rules in
    record {
      meant = over_one (shelf.files c.args.shelf.now) c.args.order rose c.in_ok-decide_source-in_default.field-0 one did.meant;
      files = did.files;
      stores = did.stores;
      steady = did.steady;
      memory = tt;
    }

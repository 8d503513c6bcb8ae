use Rattle.qed_io.specs.Counts.{RoseAt}
use Rattle.qed_words.specs.Words.{texts}
use Rattle.qed_top.proofs.Meanings.{over_order, over_usage}
use Rattle.qed_top.proofs.decide.decide.Goals as goal

pub returns-in_ok-decide_order-in-Ok-clause-meant : goal.returns-in_ok-decide_order-in-Ok-clause-meant
returns-in_ok-decide_order-in-Ok-clause-meant g c =
    let shelf = g.S.Shelf in
    let rose = RoseAt (shelf.load_faults c.args.shelf.now) (shelf.load_faults c.decide_order.new.shelf) in
    over_order (shelf.files c.args.shelf.now) (texts c.args.words.now) c.in-Ok.order rose c.in_ok-decide_order-in-Ok.field-0 c.in-Ok.ensures.order c.in_ok-decide_order-in-Ok.ensures.meant

pub returns-in_ok-usage-in-Err-Usage-clause-meant : goal.returns-in_ok-usage-in-Err-Usage-clause-meant
returns-in_ok-usage-in-Err-Usage-clause-meant g c =
    let shelf = g.S.Shelf in
    let rose = RoseAt (shelf.load_faults c.args.shelf.now) (shelf.load_faults c.args.shelf.now) in
    over_usage (shelf.files c.args.shelf.now) (texts c.args.words.now) c.in-Err-Usage.reason rose c.in_ok-usage-in-Err-Usage.field-0 (rw c.in-Err-Usage.field-0-is at c.in-Err-Usage.ensures.usage) c.in_ok-usage-in-Err-Usage.ensures

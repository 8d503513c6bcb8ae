use Rattle.std.proofs.Common.{◌∙◌, List, ℕ, subst, sym}
use Rattle.qed_io.specs.Counts.{RoseAt}
use Rattle.qed_top.specs.Orders.{AnswersOver, source_limit}
use Rattle.qed_top.proofs.Meanings.{over_bytes, over_none, over_other, over_source}
use Rattle.qed_top.proofs.decide.decide_source.Goals as goal

pub returns-in_ok-answer_order-in-Ok-clause-meant : goal.returns-in_ok-answer_order-in-Ok-clause-meant
returns-in_ok-answer_order-in-Ok-clause-meant g c =
    let shelf = g.S.Shelf in
    let files = shelf.files c.args.shelf.now in
    let order = c.args.order in
    let name = c.in-Some.name.now in
    let answer = c.in_ok-answer_order-in-Ok.field-0 in
    let rose = RoseAt (shelf.load_faults c.args.shelf.now) (shelf.load_faults c.read_file.new.shelf) in
    over_source files order name rose answer (sym c.in-Some.ensures)
    (over_bytes files name (source_limit order) (rose name) (λ (bytes : List ℕ). AnswersOver order bytes answer) answer c.in-Ok.bytes (rw c.in-Ok.is at c.in_ok-read-in-Some.ensures.bytes)
    (rw (c.in-Ok.is, c.source_limit.ensures) at c.in_ok-read-in-Some.ensures.within) c.in_ok-answer_order-in-Ok.ensures)

pub returns-in-Err-clause-meant : goal.returns-in-Err-clause-meant
returns-in-Err-clause-meant g c =
    let shelf = g.S.Shelf in
    let files = shelf.files c.args.shelf.now in
    let order = c.args.order in
    let name = c.in-Some.name.now in
    let answer = c.in-Err.answer in
    let rose = RoseAt (shelf.load_faults c.args.shelf.now) (shelf.load_faults c.read_file.new.shelf) in
    over_source files order name rose answer (sym c.in-Some.ensures)
    (over_other files name (source_limit order) (rose name) (λ (bytes : List ℕ). AnswersOver order bytes answer) answer (rw (c.in-Err.is, c.source_limit.ensures) at c.in_ok-read-in-Some.ensures.other))

pub returns-in_ok-answer_order-in-None-clause-meant : goal.returns-in_ok-answer_order-in-None-clause-meant
returns-in_ok-answer_order-in-None-clause-meant g c =
    let shelf = g.S.Shelf in
    let rose = RoseAt (shelf.load_faults c.args.shelf.now) (shelf.load_faults c.args.shelf.now) in
    over_none (shelf.files c.args.shelf.now) c.args.order rose c.in_ok-answer_order-in-None.field-0 (sym c.in-None.ensures)
    (subst (λ (bytes : List ℕ). AnswersOver c.args.order bytes c.in_ok-answer_order-in-None.field-0) (c.of-none.ensures ∙ c.new.ensures.items) c.in_ok-answer_order-in-None.ensures)

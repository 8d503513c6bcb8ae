use Rattle.std.proofs.Common.{List, ℕ, ap, Err}
use Rattle.qed_io.specs.Counts.{RoseAt}
use Rattle.qed_top.proofs.Meanings.{over_fault, over_limit}
use Rattle.qed_top.proofs.load.read_file.Goals as goal

pub returns-in-Err-Failed-clause-other : goal.returns-in-Err-Failed-clause-other
returns-in-Err-Failed-clause-other g c =
    let shelf = g.S.Shelf in
    let limit = c.args.limit in
    let name = c.args.name.now in
    let rose = RoseAt (shelf.load_faults c.args.shelf.now) (shelf.load_faults c.load.new.self) name in
    over_fault (shelf.files c.args.shelf.now) name limit rose (λ (bytes : List ℕ). ⊥) c.in_ok-fault.fault (c.in-Err-Failed.ensures.loads.failed (ap Err c.in-Err-Failed.field-0-is)) c.in_ok-fault.ensures

pub returns-in_ok-above_limit-in-Err-TooLong-clause-other : goal.returns-in_ok-above_limit-in-Err-TooLong-clause-other
returns-in_ok-above_limit-in-Err-TooLong-clause-other g c =
    let shelf = g.S.Shelf in
    let limit = c.args.limit in
    let name = c.args.name.now in
    let rose = RoseAt (shelf.load_faults c.args.shelf.now) (shelf.load_faults c.load.new.self) name in
    over_limit (shelf.files c.args.shelf.now) name limit rose (λ (bytes : List ℕ). ⊥) c.in_ok-above_limit-in-Err-TooLong.field-0 (rw c.most.ensures at (c.in-Err-TooLong.ensures.loads.too_long (ap Err c.in-Err-TooLong.field-0-is))) c.in_ok-above_limit-in-Err-TooLong.ensures

use Rattle.std.proofs.Common.{sym, subst}
use Rattle.qed_model.specs.Promise.Changed.{Ordered}
use Rattle.qed_model.proofs.InOrder.{with_change_lem, with_change_ordered}
use Rattle.qed_model.proofs.change.add_change.Goals as goal

pub returns-clause-added : goal.returns-clause-added
returns-clause-added c = cc (with_change_lem c.args.changes.now.items c.args.change, c.in_ok-insert.ensures.items, c.deref.ensures.value, c.count_front-place.ensures.count)

pub returns-clause-ordered : goal.returns-clause-ordered
returns-clause-ordered c ordered = subst Ordered (sym (returns-clause-added c)) (with_change_ordered c.args.changes.now.items c.args.change ordered)

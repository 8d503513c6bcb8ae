use Rattle.std.proofs.Common.{◌≡◌, ◌++◌, drop}
use Rattle.std.specs.Prelude.{None}
use Rattle.qed_model.specs.Weave.Parts.{item_rows}
use Rattle.relinker.proofs.roles.push_part.Given as goal

-- the rows so far, and those of the other items
abbrev pub invariant-loop-item : goal.invariant-loop-item
invariant-loop-item l = l.rows.items ++ item_rows l.far l.of l.before (drop l.item-index l.items) ≡ l.initial.rows.items ++ item_rows l.far l.of None l.items

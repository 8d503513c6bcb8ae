use Rattle.std.proofs.Common.{◌≡◌, ◌-◌, ◌≤◌, ◌<◌, drop, length}
use Rattle.std.specs.Prelude.{slice_index_or}
use Rattle.qed_model.specs.declared.plan.EntryRow.{EntryRow}
use Rattle.qed_model.specs.Weave.Placed.{entry_at}
use Rattle.relinker.proofs.search.below.Given as goal

-- all rows below `low` are below the address, and the row at `high` is not
abbrev pub invariant-loop-low : goal.invariant-loop-low
invariant-loop-low l = record {
  order : l.low ≤ l.high;
  bound : l.high ≤ length l.rows;
  rest : entry_at (drop l.low l.rows) l.address ≡ entry_at l.rows l.address;
  above : l.high < length l.rows → (d : EntryRow) → l.address ≤ (slice_index_or l.rows l.high d).input;
}

abbrev pub decreases-loop-low : goal.decreases-loop-low
decreases-loop-low l = l.high - l.low

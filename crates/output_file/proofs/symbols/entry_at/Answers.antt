use Rattle.std.proofs.Common.{rules}
use Rattle.std.specs.Prelude.{nat_lt}
use Rattle.std.proofs.lemmas.List.Sorted.{IsPartitionPoint-from_clause, IsPartitionedBy-ltb}
use Rattle.output_file.proofs.Finding.{rows_ascend, entry_past, entry_other}
use Rattle.output_file.proofs.symbols.entry_at.Goals as goal
use Rattle.output_file.proofs.symbols.entry_at.Goals.{else-place-entries-via-then-place-entries+else-entries-place, else-place-entries-via-else-place-entries}

pub returns : goal.returns
returns c = λ h.
    let point = IsPartitionPoint-from_clause (λ r. nat_lt r.input c.args.address) _ _ c.partition_point-place.ensures.partitioned (IsPartitionedBy-ltb (λ r. r.input) _ c.args.address (rows_ascend c.args.entries.now h)) (λ a r q k. search rules) in
    elim c.else-place-entries.branch [
      | else-place-entries-via-then-place-entries+else-entries-place w ↦ entry_other c.args.entries.now h c.args.address c.partition_point-place.result point _ w.if-place-entries.true w.if-entries-place.false
      | else-place-entries-via-else-place-entries w ↦ entry_past c.args.entries.now h c.args.address c.partition_point-place.result point w.if-place-entries.false
    ]

use Rattle.std.proofs.Common.{◌≡◌, ◌∙◌, rules, false}
use Rattle.std.specs.Prelude.{nat_le, nat_lt, length}
use Rattle.std.proofs.lemmas.List.Sorted.{IsPartitionPoint-from_clause, IsPartitionedBy-leb}
use Rattle.std.proofs.lemmas.Bool.{le-ltb}
use Rattle.tests.specs.Admission.DataRanges.{range_of}
use Rattle.tests.proofs.Lemmas.{ends_ascend, in_here, in_past}
use Rattle.output_file.proofs.halves.is_in_any.Goals as goal

pub returns-then-place-ranges : goal.returns-then-place-ranges
returns-then-place-ranges c = λ h.
    let point = IsPartitionPoint-from_clause (λ r. nat_le r.end c.args.address) _ _ c.partition_point-place.ensures.partitioned (IsPartitionedBy-leb (λ r. r.end) _ c.args.address (ends_ascend range_of c.args.ranges.now h)) (λ a r q k. search rules) in
    in_here range_of c.args.ranges.now h c.args.address c.partition_point-place.result point _ c.if-place-ranges.true

pub returns-else-place-ranges : goal.returns-else-place-ranges
returns-else-place-ranges c = λ h.
    let point = IsPartitionPoint-from_clause (λ r. nat_le r.end c.args.address) _ _ c.partition_point-place.ensures.partitioned (IsPartitionedBy-leb (λ r. r.end) _ c.args.address (ends_ascend range_of c.args.ranges.now h)) (λ a r q k. search rules) in
    let past : nat_lt c.partition_point-place.result (length c.args.ranges.now) ≡ false = le-ltb _ _ c.if-place-ranges.false in
    past ∙ in_past range_of c.args.ranges.now h c.args.address c.partition_point-place.result point (record { start = 0; end = 0 }) c.if-place-ranges.false

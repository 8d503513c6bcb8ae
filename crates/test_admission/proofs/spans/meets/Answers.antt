use Rattle.std.proofs.Common.{◌≡◌, ◌∙◌, ap, rules, false}
use Rattle.std.specs.Prelude.{nat_le, nat_lt, length}
use Rattle.std.proofs.lemmas.List.Sorted.{IsPartitionPoint-from_clause, IsPartitionedBy-leb}
use Rattle.std.proofs.lemmas.Bool.{le-ltb}
use Rattle.tests.specs.Ranges.{span}
use Rattle.tests.proofs.Lemmas.{ends_ascend, meets_here, meets_past}
use Rattle.test_admission.proofs.spans.meets.Goals as goal

pub returns-then-place-ranges : goal.returns-then-place-ranges
returns-then-place-ranges c =
    let point = IsPartitionPoint-from_clause (λ s. nat_le s.end c.args.other.start) _ _ c.partition_point-place.ensures.partitioned (IsPartitionedBy-leb (λ s. s.end) _ c.args.other.start (ends_ascend span c.args.ranges.now c.requires)) (λ a r q k. search rules) in
    ap (λ x. nat_lt x c.args.other.end) c.from.ensures ∙ meets_here span c.args.ranges.now c.requires c.args.other.start c.partition_point-place.result point c.args.other.end _ c.if-place-ranges.true

pub returns-else-place-ranges : goal.returns-else-place-ranges
returns-else-place-ranges c =
    let point = IsPartitionPoint-from_clause (λ s. nat_le s.end c.args.other.start) _ _ c.partition_point-place.ensures.partitioned (IsPartitionedBy-leb (λ s. s.end) _ c.args.other.start (ends_ascend span c.args.ranges.now c.requires)) (λ a r q k. search rules) in
    let past : nat_lt c.partition_point-place.result (length c.args.ranges.now) ≡ false = le-ltb _ _ c.if-place-ranges.false in
    past ∙ meets_past span c.args.ranges.now c.requires c.args.other.start c.partition_point-place.result point c.args.other.end c.args.other c.if-place-ranges.false

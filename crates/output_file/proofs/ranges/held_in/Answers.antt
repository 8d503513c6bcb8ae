use Rattle.std.proofs.Common.{rules}
use Rattle.std.specs.Prelude.{nat_lt}
use Rattle.std.proofs.lemmas.List.Sorted.{IsPartitionPoint-from_clause, IsPartitionedBy-ltb, IsNonDecreasingBy-drop, IsNonDecreasingBy-take}
use Rattle.output_file.proofs.Finding.{held_slice}
use Rattle.output_file.proofs.ranges.held_in.Goals as goal

pub returns : goal.returns
returns c =
    let first = IsPartitionPoint-from_clause (λ s. nat_lt s.now.address c.args.range.start) _ _ c.partition_point-from.ensures.partitioned (IsPartitionedBy-ltb (λ s. s.now.address) _ c.args.range.start c.requires) (λ a r q k. search rules) in
    let rest = IsNonDecreasingBy-take (λ s. s.now.address) _ _ (IsNonDecreasingBy-drop (λ s. s.now.address) _ _ c.requires) in
    let second = IsPartitionPoint-from_clause (λ s. nat_lt s.now.address c.args.range.end) _ _ c.partition_point-size.ensures.partitioned (IsPartitionedBy-ltb (λ s. s.now.address) _ c.args.range.end rest) (λ a r q k. search rules) in
    held_slice (λ s. s.now) c.args.sorted.now c.args.range c.partition_point-from.result first c.partition_point-size.result second

use Rattle.std.proofs.Common.{rules, sym, ◌∙◌}
use Rattle.std.specs.Prelude.{nat_lt}
use Rattle.std.proofs.lemmas.Bool.{le-ltb}
use Rattle.std.proofs.lemmas.List.Sorted.{IsPartitionPoint-from_clause, IsPartitionedBy-ltb}
use Rattle.block_split.specs.declared.block.CodeBlock.{CodeBlock}
use Rattle.lean.proofs.Finding.{non_decreasing, at_place, past}
use Rattle.lean.proofs.blocks.begins_at.Goals as goal

pub returns-then-place-blocks : goal.returns-then-place-blocks
returns-then-place-blocks c =
    let point = IsPartitionPoint-from_clause (λ (b : CodeBlock). nat_lt b.start c.args.address) _ _ c.partition_point-place.ensures.partitioned (IsPartitionedBy-ltb (λ (b : CodeBlock). b.start) _ c.args.address (non_decreasing c.args.blocks.now c.requires)) (λ a r q k. search rules) in
    at_place c.args.blocks.now c.requires c.args.address c.partition_point-place.result point _ c.if-place-blocks.true

pub returns-else-place-blocks : goal.returns-else-place-blocks
returns-else-place-blocks c =
    let point = IsPartitionPoint-from_clause (λ (b : CodeBlock). nat_lt b.start c.args.address) _ _ c.partition_point-place.ensures.partitioned (IsPartitionedBy-ltb (λ (b : CodeBlock). b.start) _ c.args.address (non_decreasing c.args.blocks.now c.requires)) (λ a r q k. search rules) in
    le-ltb _ _ c.if-place-blocks.false ∙ sym (past c.args.blocks.now c.requires c.args.address c.partition_point-place.result point c.if-place-blocks.false)

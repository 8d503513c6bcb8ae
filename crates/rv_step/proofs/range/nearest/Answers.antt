use Rattle.std.proofs.Common.{◌-◌, arith, rules}
use Rattle.std.specs.Prelude.{nat_le}
use Rattle.std.proofs.lemmas.Bool.{leb-true}
use Rattle.std.proofs.lemmas.List.Sorted.{IsPartitionPoint-from_clause, IsPartitionedBy-leb}
use Rattle.rv_step.proofs.RangeLaws.{before_all, nearest_tells}
use Rattle.rv_step.proofs.range.nearest.Goals as goal

pub returns-then-count-eq0-clause-none : goal.returns-then-count-eq0-clause-none
returns-then-count-eq0-clause-none c =
    let part = IsPartitionPoint-from_clause (λ r. nat_le r.0 c.args.address) c.args.reached.now c.partition_point-count.result c.partition_point-count.ensures.partitioned (IsPartitionedBy-leb (λ r. r.0) c.args.reached.now c.args.address c.requires.starts) (λ a r q k. search rules) in
    let none = c.if-count-eq0.true in
    before_all c.args.address c.args.reached.now (λ k d low high. part.1 k d (omega (arith, none)) high)

pub returns-clause-some : goal.returns-clause-some
returns-clause-some c =
    let part = IsPartitionPoint-from_clause (λ r. nat_le r.0 c.args.address) c.args.reached.now c.partition_point-count.result c.partition_point-count.ensures.partitioned (IsPartitionedBy-leb (λ r. r.0) c.args.reached.now c.args.address c.requires.starts) (λ a r q k. search rules) in
    let some = c.if-count-eq0.false in
    nearest_tells c.args.address c.args.reached.now c.partition_point-count.result (0, 0) c.requires (omega (arith, some)) c.partition_point-count.ensures.bound (part.0 (c.partition_point-count.result - 1) (0, 0) (omega arith) (omega (arith, some))) part.1

pub returns-clause-begins : goal.returns-clause-begins
returns-clause-begins c =
    let part = IsPartitionPoint-from_clause (λ r. nat_le r.0 c.args.address) c.args.reached.now c.partition_point-count.result c.partition_point-count.ensures.partitioned (IsPartitionedBy-leb (λ r. r.0) c.args.reached.now c.args.address c.requires.starts) (λ a r q k. search rules) in
    let some = c.if-count-eq0.false in
    leb-true _ _ (part.0 (c.partition_point-count.result - 1) (0, 0) (omega arith) (omega (arith, some)))

use Rattle.std.proofs.Common.{rules, arith}
use Rattle.std.proofs.lemmas.List.Sorted.{IsNonDecreasingBy-from_sort_by_key, length_permutation}
use Rattle.campaign.proofs.runs.in_order.Goals as goal

pub returns-clause-sorted : goal.returns-clause-sorted
returns-clause-sorted c = IsNonDecreasingBy-from_sort_by_key (λ p. p.0) _ c.in_ok-sort_by_key.ensures.sorted (λ a r q k. search rules)

pub returns-clause-count : goal.returns-clause-count
returns-clause-count c =
    let count = c.loop-i.invariant in
    let moved = length_permutation _ _ c.in_ok-sort_by_key.ensures.permutation in
    omega (arith, count, moved)

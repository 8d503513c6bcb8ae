use Rattle.std.proofs.Common.{arith}
use Rattle.std.proofs.lemmas.List.Sorted.{length_permutation}
use Rattle.campaign.proofs.slips.in_order.Goals as goal

pub returns : goal.returns
returns c =
    let count = c.loop-i.invariant in
    let moved = length_permutation _ _ c.in_ok-sort_by_key.ensures.permutation in
    omega (arith, count, moved)

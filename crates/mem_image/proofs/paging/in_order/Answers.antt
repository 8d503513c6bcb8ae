use Rattle.std.proofs.Common.{◌≡◌, length, arith, rules}
use Rattle.std.proofs.lemmas.List.Sorted.{IsNonDecreasingBy-from_sort_by_key}
use Rattle.mem_image.specs.Overlap.{plain_segment, segments_of}
use Rattle.mem_image.proofs.OverlapLaws.{seen_there}
use Rattle.mem_image.proofs.PagingLaws.{orders_none, orders_more, orders_moved}
use Rattle.mem_image.proofs.paging.in_order.Goals as goal

pub loop-i-init : goal.loop-i-init
loop-i-init c = rw c.new-order.ensures.items (orders_none (segments_of c.args.specs.now))

pub loop-i-preserved : goal.loop-i-preserved
loop-i-preserved c =
    let here = seen_there plain_segment c.args.specs.now c.loop-i.i c.index-specs-i.result c.loop-i-test.true c.index-specs-i.is in
    let some = c.if-spec-eq0.false in
    rw c.in_ok-push.ensures.items (orders_more (segments_of c.args.specs.now) c.loop-i.order.items c.loop-i.i (plain_segment c.index-specs-i.result) here (omega (arith, some)) c.loop-i.invariant)

pub returns-clause-all : goal.returns-clause-all
returns-clause-all c =
    let all : c.loop-i.i ≡ length c.args.specs.now = omega arith in
    rw all at (orders_moved (segments_of c.args.specs.now) c.loop-i.order.items c.sort_by_key.new.self.items c.loop-i.i c.in_ok-sort_by_key.ensures.permutation c.loop-i.invariant)

pub returns-clause-ascends : goal.returns-clause-ascends
returns-clause-ascends c = IsNonDecreasingBy-from_sort_by_key (λ p. p.0) _ c.in_ok-sort_by_key.ensures.sorted (λ a r q k. search rules)

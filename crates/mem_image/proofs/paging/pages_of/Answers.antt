use Rattle.std.proofs.Common.{◌<◌, ◌≤◌, length, arith}
use Rattle.std.proofs.lemmas.List.{length-map}
use Rattle.mem_image.specs.Overlap.{plain_segment, segments_of}
use Rattle.mem_image.proofs.PagingLaws.{names_read, covers_more, covers_apart, covers_shared, covers_all}
use Rattle.mem_image.proofs.WholeLaws.{fits_at}
use Rattle.mem_image.proofs.paging.pages_of.Goals as goal

pub push_pages-requires-clause-fits : goal.push_pages-requires-clause-fits
push_pages-requires-clause-fits c =
    let within : c.loop-i.i < length c.in_ok-order.order.items = let t = c.loop-i-test.true in let e = c.len-i-end.ensures in omega (arith, t, e) in
    let names = names_read c.args.specs.now c.in_ok-order.order.items c.loop-i.i c.index.result.now c.index-specs-index.result c.in_ok-order.ensures.all within c.index.ensures c.index-specs-index.is in
    fits_at (segments_of c.args.specs.now) names.number (plain_segment c.index-specs-index.result) c.requires names.segment

pub loop-i-preserved : goal.loop-i-preserved
loop-i-preserved c =
    let within : c.loop-i.i < length c.in_ok-order.order.items = let t = c.loop-i-test.true in let e = c.len-i-end.ensures in omega (arith, t, e) in
    let names = names_read c.args.specs.now c.in_ok-order.order.items c.loop-i.i c.index.result.now c.index-specs-index.result c.in_ok-order.ensures.all within c.index.ensures c.index-specs-index.is in
    let from : c.loop-i.bound ≤ c.index-specs-index.result.address = let e = c.if-from-bound.false in let f = c.from.ensures in omega (arith, e, f) in
    rw (c.from-in-loop-i.ensures, c.from-in-loop-i-2.ensures) (covers_more (segments_of c.args.specs.now) c.in_ok-order.order.items c.loop-i.pages.items c.push_pages.new.pages.items c.loop-i.bound c.loop-i.i (plain_segment c.index-specs-index.result) c.loop-i.invariant names from c.in_ok-push_pages.ensures)

pub returns-then-from-bound-clause-shared : goal.returns-then-from-bound-clause-shared
returns-then-from-bound-clause-shared c =
    let within : c.loop-i.i < length c.in_ok-order.order.items = let t = c.loop-i-test.true in let e = c.len-i-end.ensures in omega (arith, t, e) in
    let names = names_read c.args.specs.now c.in_ok-order.order.items c.loop-i.i c.index.result.now c.index-specs-index.result c.in_ok-order.ensures.all within c.index.ensures c.index-specs-index.is in
    let low : c.index-specs-index.result.address < c.loop-i.bound = let e = c.if-from-bound.true in let f = c.from.ensures in omega (arith, e, f) in
    covers_shared (segments_of c.args.specs.now) c.in_ok-order.order.items c.loop-i.pages.items c.loop-i.bound c.loop-i.i (length c.args.specs.now) (plain_segment c.index-specs-index.result) c.in_ok-order.ensures.all c.in_ok-order.ensures.ascends c.loop-i.invariant names low

pub returns-clause-apart : goal.returns-clause-apart
returns-clause-apart c =
    let whole : length c.in_ok-order.order.items ≤ c.loop-i.i = let t = c.loop-i-test.false in let e = c.len-i-end.ensures in omega (arith, t, e) in
    covers_apart (segments_of c.args.specs.now) c.in_ok-order.order.items c.loop-i.pages.items c.loop-i.bound c.loop-i.i (length c.args.specs.now) c.in_ok-order.ensures.all (simp length-map) whole c.loop-i.invariant

pub returns-clause-same : goal.returns-clause-same
returns-clause-same c =
    let whole : length c.in_ok-order.order.items ≤ c.loop-i.i = let t = c.loop-i-test.false in let e = c.len-i-end.ensures in omega (arith, t, e) in
    covers_all (segments_of c.args.specs.now) c.in_ok-order.order.items c.loop-i.pages.items c.loop-i.bound c.loop-i.i (length c.args.specs.now) c.in_ok-order.ensures.all (simp length-map) whole c.loop-i.invariant

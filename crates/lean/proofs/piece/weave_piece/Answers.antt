use Rattle.std.proofs.Common.{rules, ◌≡◌, ◌+◌, ◌<◌, length, get_or, sym, ap, ◌∙◌}
use Rattle.weave.proofs.BodyLeft.{take_fits}
use Rattle.lean.proofs.Pieces.{low_store, one_more, run_comes, store_behind, to_end, same_behind}
use Rattle.lean.proofs.piece.weave_piece.Goals as goal
use Rattle.lean.proofs.piece.weave_piece.Goals.{then-is_store+in_ok-weave_through, else-is_store}

pub weave_through-requires-clause-fits : goal.weave_through-requires-clause-fits
weave_through-requires-clause-fits g c = take_fits c.loop-ins.run c.loop-ins.rest.now c.loop-ins.invariant.fits

pub weave_through-requires-clause-rs1 : goal.weave_through-requires-clause-rs1
weave_through-requires-clause-rs1 g c =
    let less : c.loop-ins.ins-index < length c.args.list.now = search rules in
    let item : get_or c.args.list.now c.loop-ins.ins-index c.ins-item.result ≡ c.ins-item.result = search rules in
    (low_store c.args.list.now c.loop-ins.ins-index c.ins-item.result c.requires.fits less item (sym c.is_store.ensures ∙ c.if-is_store.true)).0

pub weave_through-requires-clause-rs2 : goal.weave_through-requires-clause-rs2
weave_through-requires-clause-rs2 g c =
    let less : c.loop-ins.ins-index < length c.args.list.now = search rules in
    let item : get_or c.args.list.now c.loop-ins.ins-index c.ins-item.result ≡ c.ins-item.result = search rules in
    (low_store c.args.list.now c.loop-ins.ins-index c.ins-item.result c.requires.fits less item (sym c.is_store.ensures ∙ c.if-is_store.true)).1

pub weave_through-requires-clause-come : goal.weave_through-requires-clause-come
weave_through-requires-clause-come g c =
    let less : c.loop-ins.ins-index < length c.args.list.now = search rules in
    let item : get_or c.args.list.now c.loop-ins.ins-index c.ins-item.result ≡ c.ins-item.result = search rules in
    run_comes _ _ _ _ _ _ _ _ _ _ c.loop-ins.invariant c.ins-item.result less item (sym c.is_store.ensures ∙ c.if-is_store.true)

pub loop-ins-preserved : goal.loop-ins-preserved
loop-ins-preserved g c =
    let less : c.loop-ins.ins-index < length c.args.list.now = search rules in
    let item : get_or c.args.list.now c.loop-ins.ins-index c.ins-item.result ≡ c.ins-item.result = search rules in
    elim c.if-is_store.branch [
      | then-is_store+in_ok-weave_through w ↦
          same_behind (ap (λ t. g.S.ItemSink.took t.sink) w.to-is) (ap (λ t. t.items) w.to-is) (ap (λ r. r.now) w.rest-is ∙ to_end (c.loop-ins.run + 1) c.loop-ins.rest.now) w.run-is w.at-is
          (store_behind _ _ _ _ _ _ _ _ _ _ c.loop-ins.invariant c.ins-item.result less item _ _ (sym c.is_store.ensures ∙ w.if-is_store.true) w.in_ok-weave_through.ensures)
      | else-is_store w ↦
          same_behind (ap (λ t. g.S.ItemSink.took t.sink) w.to-is) (ap (λ t. t.items) w.to-is) (ap (λ r. r.now) w.rest-is) w.run-is w.at-is
          (one_more _ _ _ _ _ _ _ _ _ _ c.loop-ins.invariant c.ins-item.result less item (sym c.is_store.ensures ∙ w.if-is_store.false))
    ]

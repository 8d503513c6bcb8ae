use Rattle.std.proofs.Common.{ℕ, List, sym, subst}
use Rattle.qed_model.specs.Weave.Parts.{pieces_parts}
use Rattle.qed_model.specs.Weave.Pieces.{divided}
use Rattle.qed_model.specs.Weave.Sequences.{Ins}
use Rattle.weave_core.specs.Blocks.{AllFit}
use Rattle.weave.proofs.Taking.{UpTo, comes, on}
use Rattle.weave.proofs.BodyLeft.{take_fits, piece_split, left_on}
use Rattle.weave.proofs.walk.weave_pieces.Goals as goal

pub piece-requires-clause-fits : goal.piece-requires-clause-fits
piece-requires-clause-fits g c = subst AllFit (sym c.split_at.ensures.front) (take_fits _ c.loop-length.rest.now c.loop-length.invariant.fits)

pub piece-requires-clause-come : goal.piece-requires-clause-come
piece-requires-clause-come g c =
    let p = g.W.Weaving.parts c.args.weaver.now in
    let left = λ (ps : List (List Ins)) (at : ℕ). UpTo (g.S.ItemSink.took c.args.to.now.sink) (g.S.ItemSink.took c.loop-length.to.sink) c.loop-length.to.items (pieces_parts p (divided c.args.block.now.lengths c.args.block.now.body) c.args.block.now.start) (pieces_parts p ps at) in
    comes _ _ (piece_split left _ _ _ _ _ _ _ c.as_slice-length-items.ensures c.loop-length-test.true c.split_at.ensures.front c.split_at.ensures.back c.loop-length.invariant)

pub loop-length-preserved : goal.loop-length-preserved
loop-length-preserved g c =
    let p = g.W.Weaving.parts c.args.weaver.now in
    let all = pieces_parts p (divided c.args.block.now.lengths c.args.block.now.body) c.args.block.now.start in
    let left = λ (ps : List (List Ins)) (at : ℕ). UpTo (g.S.ItemSink.took c.args.to.now.sink) (g.S.ItemSink.took c.loop-length.to.sink) c.loop-length.to.items all (pieces_parts p ps at) in
    left_on left _ _ _ _ _ _ _ c.as_slice-length-items.ensures c.loop-length-test.true c.split_at.ensures.front c.split_at.ensures.back c.loop-length.invariant
    (λ ps at. UpTo (g.S.ItemSink.took c.args.to.now.sink) (g.S.ItemSink.took c.piece.new.to.sink) c.piece.new.to.items all (pieces_parts p ps at))
    (on _ _ (piece_split left _ _ _ _ _ _ _ c.as_slice-length-items.ensures c.loop-length-test.true c.split_at.ensures.front c.split_at.ensures.back c.loop-length.invariant) c.in_ok-piece.ensures)

use Rattle.std.proofs.Common.{drop}
use Rattle.qed_model.specs.Weave.Parts.{pieces_parts}
use Rattle.qed_model.specs.Weave.Pieces.{divided}
use Rattle.weave.proofs.BodyLeft.{Left}
use Rattle.weave.proofs.Taking.{UpTo}
use Rattle.weave.proofs.walk.weave_pieces.Given as goal

-- the pieces so far, and those of the rest of the body
abbrev pub invariant-loop-length : goal.invariant-loop-length
invariant-loop-length g l =
    let p = g.W.Weaving.parts l.weaver in
    Left (λ ps at. UpTo (g.S.ItemSink.took l.initial.to.sink) (g.S.ItemSink.took l.to.sink) l.to.items (pieces_parts p (divided l.block.lengths l.block.body) l.block.start) (pieces_parts p ps at)) (drop l.length-index l.block.lengths) l.rest l.at

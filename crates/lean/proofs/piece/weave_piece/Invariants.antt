use Rattle.lean.proofs.Pieces.{Behind}
use Rattle.lean.proofs.piece.weave_piece.Given as goal

-- the parts so far, and those of the instructions since the last store and behind
abbrev pub invariant-loop-ins : goal.invariant-loop-ins
invariant-loop-ins g l = Behind (g.S.ItemSink.took l.initial.to.sink) (g.S.ItemSink.took l.to.sink) l.to.items l.diverse l.list l.first l.ins-index l.rest l.run l.at

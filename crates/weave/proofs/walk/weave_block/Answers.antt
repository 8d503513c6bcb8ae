use Rattle.std.proofs.Common.{◌+◌, ◌*◌, length, [], sym, subst}
use Rattle.qed_model.specs.Weave.Parts.{pieces_parts}
use Rattle.qed_model.specs.Weave.Pieces.{divided}
use Rattle.block_split.specs.Listed.{end_of}
use Rattle.weave.specs.Handed.{Comes, Handed}
use Rattle.weave.proofs.Taking.{begun, comes, on, ended, last}
use Rattle.weave.proofs.Parts.{block_is}
use Rattle.weave.proofs.walk.weave_block.Goals as goal

pub enter-requires-clause-come : goal.enter-requires-clause-come
enter-requires-clause-come g c =
    let p = g.W.Weaving.parts c.args.weaver.now in
    let b = c.args.block.now in
    comes (p.enter b.start) _ (begun (g.S.ItemSink.took c.args.to.now.sink) _ _ (subst (Comes (g.S.ItemSink.took c.args.to.now.sink) c.args.to.now.items) (block_is p b c.requires.fits) c.requires.come))

pub weave_pieces-requires-clause-come : goal.weave_pieces-requires-clause-come
weave_pieces-requires-clause-come g c =
    let p = g.W.Weaving.parts c.args.weaver.now in
    let b = c.args.block.now in
    comes (pieces_parts p (divided b.lengths b.body) b.start) _
    (on (p.enter b.start) _ (begun (g.S.ItemSink.took c.args.to.now.sink) _ _ (subst (Comes (g.S.ItemSink.took c.args.to.now.sink) c.args.to.now.items) (block_is p b c.requires.fits) c.requires.come)) c.in_ok-enter.ensures)

pub leave-requires-clause-come : goal.leave-requires-clause-come
leave-requires-clause-come g c =
    let p = g.W.Weaving.parts c.args.weaver.now in
    let b = c.args.block.now in
    let left = p.leave (end_of b.end) (b.start + 4 * length b.body) in
    comes left []
    (last left (on (pieces_parts p (divided b.lengths b.body) b.start) left
    (on (p.enter b.start) _ (begun (g.S.ItemSink.took c.args.to.now.sink) _ _ (subst (Comes (g.S.ItemSink.took c.args.to.now.sink) c.args.to.now.items) (block_is p b c.requires.fits) c.requires.come)) c.in_ok-enter.ensures)
    c.in_ok-weave_pieces.ensures))

pub returns : goal.returns
returns g c =
    let p = g.W.Weaving.parts c.args.weaver.now in
    let b = c.args.block.now in
    let left = p.leave (end_of b.end) (b.start + 4 * length b.body) in
    subst (Handed (g.S.ItemSink.took c.args.to.now.sink) (g.S.ItemSink.took c.leave.new.to.sink) c.leave.new.to.items) (sym (block_is p b c.requires.fits))
    (ended _ _ _ _ (on left [] (last left (on (pieces_parts p (divided b.lengths b.body) b.start) left
    (on (p.enter b.start) _ (begun (g.S.ItemSink.took c.args.to.now.sink) _ _ (subst (Comes (g.S.ItemSink.took c.args.to.now.sink) c.args.to.now.items) (block_is p b c.requires.fits) c.requires.come)) c.in_ok-enter.ensures)
    c.in_ok-weave_pieces.ensures)) c.in_ok-leave.ensures))

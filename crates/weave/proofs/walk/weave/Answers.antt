use Rattle.std.proofs.Common.{map}
use Rattle.qed_model.specs.Weave.Parts.{entries_parts}
use Rattle.block_split.specs.Listed.{block_of}
use Rattle.weave.proofs.Taking.{started, comes, on, last, ended}
use Rattle.weave.proofs.walk.weave.Goals as goal

pub first-requires-clause-come : goal.first-requires-clause-come
first-requires-clause-come g c =
    let p = g.W.Weaving.parts c.args.weaver.now in
    comes (p.first c.args.test.now.distance c.args.test.now.entry) (entries_parts p (map block_of c.args.blocks.now))
    (started g.S.ItemSink.took c.args.sink c.new-to.result.sink c.new-to.result.items _ c.new-to.ensures.sink c.new-to.ensures.none c.requires.come)

pub weave_blocks-requires-clause-come : goal.weave_blocks-requires-clause-come
weave_blocks-requires-clause-come g c =
    let p = g.W.Weaving.parts c.args.weaver.now in
    comes (entries_parts p (map block_of c.args.blocks.now)) _
    (last _ (on (p.first c.args.test.now.distance c.args.test.now.entry) (entries_parts p (map block_of c.args.blocks.now))
    (started g.S.ItemSink.took c.args.sink c.new-to.result.sink c.new-to.result.items _ c.new-to.ensures.sink c.new-to.ensures.none c.requires.come) c.in_ok-first.ensures))

pub returns : goal.returns
returns g c =
    let p = g.W.Weaving.parts c.args.weaver.now in
    (ended _ _ _ _ (on (entries_parts p (map block_of c.args.blocks.now)) _
    (last _ (on (p.first c.args.test.now.distance c.args.test.now.entry) (entries_parts p (map block_of c.args.blocks.now))
    (started g.S.ItemSink.took c.args.sink c.new-to.result.sink c.new-to.result.items _ c.new-to.ensures.sink c.new-to.ensures.none c.requires.come) c.in_ok-first.ensures)) c.in_ok-weave_blocks.ensures)).took

use Rattle.std.proofs.Common.{rules, ◌≡◌, ◌<◌, length, get_or, map, subst}
use Rattle.qed_model.specs.Weave.Parts.{entries_parts}
use Rattle.block_split.specs.Listed.{block_of}
use Rattle.weave.proofs.Taking.{UpTo, comes, on}
use Rattle.weave.proofs.Parts.{entries_split}
use Rattle.weave.proofs.walk.weave_blocks.Goals as goal

pub weave_block-requires-clause-come : goal.weave_block-requires-clause-come
weave_block-requires-clause-come g c =
    let p = g.W.Weaving.parts c.args.weaver.now in
    let less : c.loop-block.block-index < length c.args.blocks.now = search rules in
    let item : get_or c.args.blocks.now c.loop-block.block-index c.block-item.result ≡ c.block-item.result = search rules in
    comes _ _ (subst (UpTo (g.S.ItemSink.took c.args.to.now.sink) (g.S.ItemSink.took c.loop-block.to.sink) c.loop-block.to.items (entries_parts p (map block_of c.args.blocks.now)))
    (entries_split p c.args.blocks.now c.loop-block.block-index c.block-item.result less item) c.loop-block.invariant)

pub loop-block-preserved : goal.loop-block-preserved
loop-block-preserved g c =
    let p = g.W.Weaving.parts c.args.weaver.now in
    let less : c.loop-block.block-index < length c.args.blocks.now = search rules in
    let item : get_or c.args.blocks.now c.loop-block.block-index c.block-item.result ≡ c.block-item.result = search rules in
    on _ _ (subst (UpTo (g.S.ItemSink.took c.args.to.now.sink) (g.S.ItemSink.took c.loop-block.to.sink) c.loop-block.to.items (entries_parts p (map block_of c.args.blocks.now)))
    (entries_split p c.args.blocks.now c.loop-block.block-index c.block-item.result less item) c.loop-block.invariant) c.in_ok-weave_block.ensures

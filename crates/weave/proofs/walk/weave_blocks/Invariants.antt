use Rattle.std.proofs.Common.{drop, map}
use Rattle.qed_model.specs.Weave.Parts.{entries_parts}
use Rattle.block_split.specs.Listed.{block_of}
use Rattle.weave.proofs.Taking.{UpTo}
use Rattle.weave.proofs.walk.weave_blocks.Given as goal

-- the entries so far, and those of the other blocks
abbrev pub invariant-loop-block : goal.invariant-loop-block
invariant-loop-block g l =
    UpTo (g.S.ItemSink.took l.initial.to.sink) (g.S.ItemSink.took l.to.sink) l.to.items (entries_parts (g.W.Weaving.parts l.weaver) (map block_of l.blocks)) (entries_parts (g.W.Weaving.parts l.weaver) (map block_of (drop l.block-index l.blocks)))

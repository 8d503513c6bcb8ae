use Rattle.std.proofs.Common.{◌≡◌, ◌+◌, ◌^◌, ◌<◌, drop}
use Rattle.relinker.specs.Counted.{capped}
use Rattle.weave.specs.Sizes.{blocks_bytes}
use Rattle.weave.proofs.size.blocks_size.Given as goal

-- the bytes so far and those of the rest are those of all
abbrev pub invariant-loop-block : goal.invariant-loop-block
invariant-loop-block l = record {
  sum : capped (l.total + blocks_bytes l.sizes (drop l.block-index l.blocks)) ≡ capped (blocks_bytes l.sizes l.blocks);
  small : l.total < 2 ^ 64;
}

use Rattle.std.proofs.Common.{◌≤◌, drop, length, map}
use Rattle.block_split.specs.Listed.{block_of}
use Rattle.lean.specs.Counts.{counting, AreCounts}
use Rattle.lean.proofs.counts.counts_in.Given as goal

-- the last blocks are counted
abbrev pub invariant-loop-left : goal.invariant-loop-left
invariant-loop-left l = record {
  within : l.left ≤ length l.terms.blocks.now;
  are : AreCounts (counting l.terms) (map block_of (drop l.left l.terms.blocks.now)) l.counts l.goals;
}

abbrev pub decreases-loop-left : goal.decreases-loop-left
decreases-loop-left l = l.left

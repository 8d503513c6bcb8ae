use Rattle.std.proofs.Common.{ℕ, ◌<◌, map}
use Rattle.mem_image.specs.Overlap.{IsPair}
use Rattle.mem_image.proofs.overlap.next_sharing.Given as goal

-- none before j shares a byte with i
abbrev pub invariant-loop-j : goal.invariant-loop-j
invariant-loop-j g l = (k : ℕ) → k < l.j → IsPair g.T.Sharing.shares (map g.T.Sharing.view l.list) l.i k → ⊥

use Rattle.std.proofs.Common.{ℕ, ◌<◌, map}
use Rattle.mem_image.specs.Overlap.{IsPair}
use Rattle.mem_image.proofs.overlap.first_sharing.Given as goal

-- none before i shares a byte with a later one
abbrev pub invariant-loop-i : goal.invariant-loop-i
invariant-loop-i g l = (h k : ℕ) → h < l.i → IsPair g.T.Sharing.shares (map g.T.Sharing.view l.list) h k → ⊥

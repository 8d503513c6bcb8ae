use Rattle.std.proofs.Common.{◌<◌, ◌≤◌, ℕ, get_or}
use Rattle.elf_read.specs.declared.extents.Extent.{Extent}
use Rattle.elf_read.proofs.extents.least_in_front.Given as goal

-- so far none ends behind what is reached; those that begin before one in front ends have numbers from the least on
abbrev pub invariant-loop-x : goal.invariant-loop-x
invariant-loop-x l = record {
  reached : (k : ℕ) (d : Extent) → k < l.x-index → (get_or l.extents k d).end ≤ l.reached;
  clear : (k m : ℕ) (d : Extent) → k < m → m < l.x-index → (get_or l.extents m d).start < (get_or l.extents k d).end → l.least ≤ (get_or l.extents m d).number;
}

use Rattle.std.proofs.Common.{◌<◌, ◌≤◌, ◌+◌, ℕ, get_or}
use Rattle.elf_read.specs.declared.extents.Extent.{Extent}
use Rattle.elf_read.proofs.extents.least_behind.Given as goal

-- those so far that end behind the start of the next have no number below the least
abbrev pub invariant-loop-k : goal.invariant-loop-k
invariant-loop-k l =
    (j : ℕ) (d : Extent) → j + 1 < l.k → (get_or l.extents (j + 1) d).start < (get_or l.extents j d).end → l.least ≤ (get_or l.extents j d).number

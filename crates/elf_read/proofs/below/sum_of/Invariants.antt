use Rattle.std.proofs.Common.{◌≡◌, ◌<◌, ◌≤◌, ◌*◌, ◌^◌, ℕ}
use Rattle.machine.specs.Below.{sum_below}
use Rattle.elf_read.proofs.below.sum_of.Given as goal

abbrev pub invariant-loop-i : goal.invariant-loop-i
invariant-loop-i g l =
    (l.sum ≤ l.i * 2 ^ 64)
    × ((h : ℕ → ℕ) → ((i x : ℕ) → i < l.n → goal.F-post g l.f i x → x ≡ h i) → l.sum ≡ sum_below l.i h)

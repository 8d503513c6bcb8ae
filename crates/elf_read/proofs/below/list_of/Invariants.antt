use Rattle.std.proofs.Common.{◌≡◌, ◌<◌, ℕ}
use Rattle.std.specs.Prelude.{IfOk}
use Rattle.machine.specs.Below.{each}
use Rattle.elf_read.proofs.below.list_of.Given as goal

abbrev pub invariant-loop-i : goal.invariant-loop-i
invariant-loop-i g l =
    (h : ℕ → _) → ((i : ℕ) (r : _) → i < l.n → goal.F-post g l.make i r → IfOk r (λ x. x ≡ h i)) → l.items.items ≡ each l.i h

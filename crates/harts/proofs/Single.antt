-- Turns of one hart alone are a run of it.
use Rattle.std.proofs.Common.{◌≡◌, ℕ, zero, suc, ◌%◌, List, [], ◌∷◌, Some, refl, sym, ap, ◌∙◌, arith}
use Rattle.std.specs.Prelude.{slice_get, slice_index, slice_set}
use Rattle.machine.specs.Memory.{Memory}
use Rattle.machine.specs.Progress.{progress}
use Rattle.rv_step.specs.Harts.{HartState, hart_state_of, with_memory}
use Rattle.rv_step.proofs.Running.{progress_last}
use Rattle.harts.specs.HartSteps.{counted_world, counted_turn, counted_turns, cycled}
use Rattle.harts.proofs.Turns.{set_here}
use Rattle.harts.proofs.Steps.{set_same}
use Rattle.harts.proofs.Worlds.{turn_counted}

set_twice : {X : Type 0} (xs : List X) (i : ℕ) (x y : X) → slice_set (slice_set xs i x) i y ≡ slice_set xs i y
set_twice [] i x y = refl
set_twice (z ∷ xs) zero x y = refl
set_twice (z ∷ xs) (suc i) x y = ap (λ zs. z ∷ zs) (set_twice xs i x y)

-- the hart that takes each turn
same_hart : (i n : ℕ) → i ≡ slice_index (i ∷ []) (n % 1)
same_hart i n = let first : n % 1 ≡ 0 = omega arith in sym (ap (slice_index (i ∷ [])) first)

pub one_played : (hs : List HartState) (m : Memory) (i : ℕ) (h : HartState) → slice_get hs i ≡ Some h → (n : ℕ) (k : HartState) (x : Memory) → with_memory k x ≡ progress (with_memory h m) n → counted_world (slice_set hs i k) x ≡ counted_turns (counted_world hs m) (cycled (i ∷ []) n)
unfolding counted_turns cycled progress
one_played hs m i h e zero k x is = ap (λ p. counted_world (slice_set hs i (hart_state_of p)) p.state.memory) is ∙ ap (λ l. counted_world l m) (set_same hs i h e)
one_played hs m i h e (suc n) k x is =
    let p = progress (with_memory h m) n in
    let before = one_played hs m i h e n (hart_state_of p) p.state.memory refl in
    let turn = turn_counted (slice_set hs i (hart_state_of p)) p.state.memory x i (hart_state_of p) k (set_here hs i (hart_state_of p) h e) (is ∙ progress_last (with_memory h m) n) in
    ap (λ l. counted_world l x) (sym (set_twice hs i (hart_state_of p) k)) ∙ turn ∙ ap (counted_turn i) before ∙ ap (λ j. counted_turn j (counted_turns (counted_world hs m) (cycled (i ∷ []) n))) (same_hart i n)

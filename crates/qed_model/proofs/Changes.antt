-- Lists of changes in order, and runs without changes.
use Rattle.std.proofs.Common.{◌≡◌, ℕ, zero, suc, ◌+◌, ◌<◌, ◌≤◌, false, cond, List, [], ◌∷◌, refl, sym, ap, ◌∙◌, arith}
use Rattle.std.specs.Prelude.{◌==◌}
use Rattle.std.proofs.lemmas.Bool.{ne_eqb}
use Rattle.machine.specs.declared.place.Place.{Place}
use Rattle.machine.specs.declared.place.Place.TheVariants.{Reg, Word}
use Rattle.qed_model.specs.declared.change.Change.{Change}
use Rattle.machine.specs.Step.{State, step, run}
use Rattle.machine.specs.Struck.{struck}
use Rattle.qed_model.specs.Promise.Changed.{changed, with_changes, changed_run, Ordered, last_step}
use Rattle.machine.proofs.Lemmas.{run-none, run-last}

-- a change leaves the outcome
pub struck_outcome : (p : Place) (x : ℕ) (s : State) → (struck p x s).outcome ≡ s.outcome
unfolding struck
struck_outcome (Reg r) x s = refl
struck_outcome (Word a) x s = refl

-- the rest of a list in order is in order
pub rest_ordered : (c : Change) (cs : List Change) → Ordered (c ∷ cs) → Ordered cs
rest_ordered c [] o = tt
rest_ordered c (d ∷ cs) o = o.1

-- the first step is not behind the last
pub first_last : (c : Change) (cs : List Change) → Ordered (c ∷ cs) → c.step ≤ last_step (c ∷ cs)
first_last c [] o = omega arith
first_last c (d ∷ cs) o = let k = first_last d cs o.1 in omega (arith, o.0, k)

-- the rest ends no later than the list
pub rest_last : (c : Change) (cs : List Change) (t : ℕ) → last_step (c ∷ cs) ≤ t → last_step cs ≤ t
rest_last c [] t h = omega arith
rest_last c (d ∷ cs) t h = h

-- each change is made after t steps or before
abbrev pub AllBy : ℕ → List Change → Type 0
AllBy t [] = Unit {0}
AllBy t (c ∷ cs) = (c.step ≤ t) × AllBy t cs

-- all changes of a list in order are made by its last step
pub by_last : (cs : List Change) (t : ℕ) → Ordered cs → last_step cs ≤ t → AllBy t cs
by_last [] t o h = tt
by_last (c ∷ cs) t o h = let k = first_last c cs o in (omega (arith, k, h), by_last cs t (rest_ordered c cs o) (rest_last c cs t h))

-- no change is made if each comes before
pub none_left : (n t : ℕ) (cs : List Change) (s : State) → AllBy t cs → t < n → with_changes cs n s ≡ s
unfolding with_changes
none_left n t [] s by h = refl
none_left n t (c ∷ cs) s by h = let e : (c.step == n) ≡ false = ne_eqb c.step n (λ x. absurd (omega (arith, x, by.0))) in ap (λ b. with_changes cs n (cond b (changed c s) s)) e ∙ none_left n t cs s by.1 h

-- a run without changes is a run
pub run_unchanged : (s : State) (n : ℕ) → changed_run s [] n ≡ run s n
unfolding changed_run with_changes
run_unchanged s zero = sym (run-none s)
run_unchanged s (suc n) = let e : n + 1 ≡ suc n = omega arith in ap step (run_unchanged s n) ∙ sym (run-last s n) ∙ ap (run s) e

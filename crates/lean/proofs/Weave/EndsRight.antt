-- A run with a slip that ends has the input's values.
use Rattle.std.proofs.Common.{◌≡◌, ℕ, zero, suc, ◌+◌, ◌≤◌, ⊎_elim, List, ap, ◌∙◌, subst, arith}
use Rattle.std.specs.Prelude.{◌-◌}
use Rattle.std.proofs.lemmas.Bool.{cases_lt}
use Rattle.machine.specs.declared.outcome.Outcome.TheVariants.{Ended}
use Rattle.qed_model.specs.Promise.Kept.{after_input, Halves}
use Rattle.weave_core.specs.World.{Program, State, run}
use Rattle.lean.specs.Strayed.{IsOver, Stopped}
use Rattle.lean.specs.Undisturbed.{slipped_run, FollowsTo, EndsRight}
use Rattle.lean.proofs.Weave.Carry.{run-more, run-ended}
use Rattle.lean.proofs.Weave.DuplicateSlips.{slipped_behind}
use Rattle.lean.proofs.Weave.Trail.{over_ends}

-- a run that has ended stays
pub ended_later : (v : State) (j i : ℕ) → j ≤ i → (run v j).outcome ≡ Ended → run v i ≡ run v j
ended_later v j i h e = let k : i ≡ j + (i - j) = omega (arith, h) in ap (run v) k ∙ run-more v j (i - j) ∙ run-ended (i - j) (run v j) e

-- so it is not over
pub ends_not_over : (v : State) (j n : ℕ) → (run v j).outcome ≡ Ended → Stopped n v → ⊥
ends_not_over v j n e s =
    ⊎_elim
    (λ lt. over_ends v s.steps j (omega (arith, lt)) s.over e)
    (λ ge. absurd (over_ends v s.steps s.steps (omega arith) s.over (ap (λ z. z.outcome) (ended_later v j s.steps ge e) ∙ e)))
    (cases_lt s.steps j)

module _ (f g : Program) (regs : List ℕ) (m j : ℕ) (v : State) where
  pub ends_right : (first bound : ℕ) → FollowsTo f (suc m + j) first bound (slipped_run g regs m v) → (run v j).outcome ≡ Ended → EndsRight f (run v j)
  ends_right first bound r e =
      let n = suc m + j in
      let q = r.at n in
      let late = at_least n (omega arith) in
      let is : slipped_run g regs m v q ≡ run v j = slipped_behind g regs m v q (omega (arith, late)) ∙ ended_later v j (q - (m + 1)) (omega (arith, late)) e in
      ⊎_elim
      (λ o. absurd (over_ends v j j (omega arith) (subst (λ z. IsOver z.outcome) is o) e))
      (λ h. record { steps = n; ended = h.1.0 (ap (λ z. z.outcome) is ∙ e); halves = subst (Halves f (after_input f n)) is h.0 })
      (r.values n (omega arith)) where
        at_least : (k : ℕ) → k ≤ suc m + j → k ≤ r.at k
        at_least zero h = omega arith
        at_least (suc k) h = let a = at_least k (omega (arith, h)) in let g = r.grows k (omega (arith, h)) in omega (arith, a, g)

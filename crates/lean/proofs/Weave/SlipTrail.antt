-- A run with one slip, from a robust state: it is over soon behind the slip, or comes to the input's states.
use Rattle.std.proofs.Common.{◌≡◌, ℕ, zero, suc, ◌+◌, ◌*◌, ◌≤◌, ◌⊎◌, inl, inr, ⊎_elim, true, false, refl, sym, ap, ◌∙◌, subst, arith}
use Rattle.std.specs.Prelude.{◌-◌}
use Rattle.machine.specs.declared.outcome.Outcome.{Outcome}
use Rattle.machine.specs.declared.outcome.Outcome.TheVariants.{Ended, Fired, Trapped}
use Rattle.weave_core.specs.WeaveLaws.{Met}
use Rattle.weave_core.specs.World.{World, Going, Known, Ins, State, step, run}
use Rattle.lean.specs.Strayed.{IsOver, Stopped}
use Rattle.lean.specs.Undisturbed.{slip_steps}
use Rattle.lean.proofs.Weave.Carry.{run-last, run-none, run-more, one_run}
use Rattle.lean.proofs.Weave.Robust.{Robust, robust_plain, Slip, Calm}
use Rattle.lean.proofs.Weave.Trail.{Played, Meets, meets_none, meets_first, meets_later, meets_more, follows, over_stops, step_stopped}

-- a run that goes on went on before
pub went_on : (u : State) (n j : ℕ) → j ≤ n → (run u n).outcome ≡ Going → (run u j).outcome ≡ Going
went_on u n j h going = by (run u j).outcome refl where
  stays : (s : State) (k : ℕ) → (s.outcome ≡ Going → ⊥) → run s k ≡ s
  stays s zero not = run-none s
  stays s (suc k) not = let e : suc k ≡ k + 1 = omega arith in ap (run s) e ∙ run-last s k ∙ ap step (stays s k not) ∙ step_stopped s not

  stopped : ((run u j).outcome ≡ Going → ⊥) → ⊥
  stopped not =
      let e : j + (n - j) ≡ n = omega (arith, h) in
      not (ap (λ z. z.outcome) (sym (stays (run u j) (n - j) not) ∙ sym (run-more u j (n - j)) ∙ ap (run u) e) ∙ going)

  by : (o : Outcome) → (run u j).outcome ≡ o → (run u j).outcome ≡ Going
  by Going e = e
  by Ended e = absurd (stopped (λ g. absurd (let z : Ended ≡ Going = sym e ∙ g in cc)))
  by Fired e = absurd (stopped (λ g. absurd (let z : Fired ≡ Going = sym e ∙ g in cc)))
  by (Trapped k q) e = absurd (stopped (λ g. absurd (let z : Trapped k q ≡ Going = sym e ∙ g in cc)))

module _ (w : World) (bound price : ℕ) (some : 1 ≤ bound) where
  -- a plain run is played without changes
  pub plain : (u : State) → Played w (run u) 0
  plain u = record {
    made = λ j. 0;
    few = λ j. omega arith;
    goes = λ j. let e : suc j ≡ j + 1 = omega arith in inl (ap (run u) e ∙ run-last u j, omega arith);
  }

  -- a plain run from a robust state without a slip
  module _ (v : State) where
    pub runs_on : (n k : ℕ) (t : State) (m : ℕ) → Robust w bound price false n k t m v → suc (m + k * bound) * 2 ≤ n → Meets w (run v) 0 k t (suc m) bound
    runs_on n k t m r h =
        let none = nothing ((plain v).made 0) in
        meets_more w bound (run v) 0 k t _ (suc m) (omega (arith, none))
        (follows w bound price some (run v) 0 (λ z. absurd (omega (arith, z))) (plain v) (suc (m + k * bound)) n 0 k t m (subst (Robust w bound price false n k t m) (sym (run-none v)) r) h (omega (arith, none))) where
          nothing : (x : ℕ) → (0 - x) * price ≡ 0
          nothing x = let e : 0 - x ≡ 0 = omega arith in ap (λ z. z * price) e ∙ none price where
            none : (c : ℕ) → 0 * c ≡ 0
            none c = omega arith

  -- ---- a run with one slip
  -- y is the run from u0 up to its step z, and the run from v from there on
  module _ (u0 v : State) (y : ℕ → State) (z : ℕ) (before : (j : ℕ) → j ≤ z → y j ≡ run u0 j) (behind : (j : ℕ) → y (suc z + j) ≡ run v j) where
    next_run : (s : State) (j : ℕ) → run s (suc j) ≡ step (run s j)
    next_run s j = let e : suc j ≡ j + 1 = omega arith in ap (run s) e ∙ run-last s j

    -- from the slip on
    shifted : (k : ℕ) (t : State) (m : ℕ) → Meets w (run v) 0 k t (suc m) bound → Meets w y (suc z) k t (suc (suc z + m)) bound
    shifted k t m r = record {
      at = λ i. suc z + r.at i;
      later = λ i l. let e = r.later i l in omega (arith, e);
      grows = λ i l. let e = r.grows i l in omega (arith, e);
      within = λ i l. let e = r.within i l in omega (arith, e);
      values = λ i l. ⊎_elim (λ o. inl (subst (λ x. IsOver x.outcome) (sym (behind (r.at i))) o)) (λ q. inr (subst (λ x. Met w x (run t i)) (sym (behind (r.at i))) q)) (r.values i l);
    }

    -- a robust state behind the slip
    goes_on : (n k : ℕ) (t : State) (m : ℕ) → Robust w bound price false n k t m v → suc (m + k * bound) * 2 ≤ n → Meets w y (suc z) k t (suc (suc z + m)) bound
    goes_on n k t m r h = shifted k t m (runs_on v n k t m r h)

    module _ (i : Ins) (word : w.code (run u0 z).pc ≡ Known i) (slip : Slip w i (run u0 z) v) (calm : Calm w (run u0 z)) (goes : (j : ℕ) → j ≤ z → (run u0 j).outcome ≡ Going) where
      -- at the slip
      at_slip :
          (n k : ℕ) (t : State) (m : ℕ) → Robust w bound price true (suc n) (suc k) t m (run u0 z) → suc (m + price + suc k * bound) * 2 ≤ n
          → Stopped slip_steps v ⊎ Meets w y z (suc k) t (suc (suc z + (m + price))) bound
      unfolding Robust
      at_slip n k t m r h =
          ⊎_elim
          (λ o. inl o)
          (λ g. inr (⊎_elim (λ e. as_without e) (λ f. meets_later w bound y z (suc k) t _ (goes_on n (suc k) t (m + price) f h)) g))
          (r.1.1 refl i v word slip calm) where
            as_without : v ≡ step (run u0 z) → Meets w y z (suc k) t (suc (suc z + (m + price))) bound
            as_without e =
                ⊎_elim
                (λ o. absurd (calm.quiet 1 (omega arith) (subst (λ x. IsOver x.outcome) (sym (one_run (run u0 z))) o)))
                (λ g.
                let is = g.1 in
                ⊎_elim
                (λ a.
                meets_more w bound y z (suc k) t (suc (suc z + g.0)) (suc (suc z + (m + price))) (omega (arith, is))
                (meets_later w bound y z (suc k) t _ (goes_on n (suc k) t g.0 (subst (Robust w bound price false n (suc k) t g.0) (sym e) (robust_plain w bound price true n (suc k) t g.0 (step (run u0 z)) a)) (omega (arith, is, h)))))
                (λ a.
                let sum : suc k * bound ≡ bound + k * bound = omega arith in
                let there : y (suc z) ≡ v = (let one : suc z ≡ suc z + 0 = omega arith in ap y one) ∙ behind 0 ∙ run-none v in
                meets_first w bound y z k t (suc (suc z + (m + price))) (omega arith) (subst (λ x. Met w x t) (sym (there ∙ e)) a.0)
                (meets_more w bound y (suc z) k (step t) (suc (suc z + (g.0 + bound))) (suc (suc z + (m + price)) + bound) (omega (arith, is))
                (goes_on n k (step t) (g.0 + bound) (subst (Robust w bound price false n k (step t) (g.0 + bound)) (sym e) (robust_plain w bound price true n k (step t) (g.0 + bound) (step (run u0 z)) a.1)) (omega (arith, is, h, sum)))))
                g.2)
                r.0

      -- up to it
      pub slip_follows :
          (q j : ℕ) → j + q ≡ z → (n k : ℕ) (t : State) (m : ℕ) → Robust w bound price true n k t m (run u0 j) → q + suc (suc (m + price + k * bound) * 2) ≤ n
          → Stopped slip_steps v ⊎ Meets w y j k t (suc (suc j + (m + price))) bound
      unfolding Robust
      slip_follows q j e n zero t m r h = inr (meets_none w bound y j t (suc (suc j + (m + price))))
      slip_follows q j e zero (suc k) t m r h = absurd (omega (arith, h))
      slip_follows zero j e (suc n) (suc k) t m r h =
          let same : j ≡ z = omega (arith, e) in
          subst (λ x. Stopped slip_steps v ⊎ Meets w y x (suc k) t (suc (suc x + (m + price))) bound) (sym same)
          (at_slip n k t m (subst (λ x. Robust w bound price true (suc n) (suc k) t m (run u0 x)) same r) (omega (arith, h)))
      slip_follows (suc q) j e (suc n) (suc k) t m r h =
          ⊎_elim
          (λ o. absurd (over_stops (step (run u0 j)).outcome o (ap (λ x. x.outcome) (sym (next_run u0 j)) ∙ goes (suc j) (omega (arith, e)))))
          (λ g.
          let is = g.1 in
          let next : step (run u0 j) ≡ run u0 (suc j) = sym (next_run u0 j) in
          ⊎_elim
          (λ a.
          ⊎_elim
          (λ o. inl o)
          (λ r. inr (meets_more w bound y j (suc k) t (suc (suc (suc j) + (g.0 + price))) (suc (suc j + (m + price))) (omega (arith, is)) (meets_later w bound y j (suc k) t _ r)))
          (slip_follows q (suc j) (omega (arith, e)) n (suc k) t g.0 (subst (Robust w bound price true n (suc k) t g.0) next a) (omega (arith, is, h))))
          (λ a.
          let sum : suc k * bound ≡ bound + k * bound = omega arith in
          let here : step (run u0 j) ≡ y (suc j) = next ∙ sym (before (suc j) (omega (arith, e))) in
          ⊎_elim
          (λ o. inl o)
          (λ r.
          inr (meets_first w bound y j k t (suc (suc j + (m + price))) (omega arith) (subst (λ x. Met w x t) here a.0)
          (meets_more w bound y (suc j) k (step t) (suc (suc (suc j) + (g.0 + bound + price))) (suc (suc j + (m + price)) + bound) (omega (arith, is)) r)))
          (slip_follows q (suc j) (omega (arith, e)) n k (step t) (g.0 + bound) (subst (Robust w bound price true n k (step t) (g.0 + bound)) next a.1) (omega (arith, is, h, sum))))
          g.2)
          r.0

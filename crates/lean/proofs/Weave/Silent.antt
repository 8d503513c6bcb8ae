-- Any one instruction of the output that goes wrong: its kind says which promise speaks of it.
use Rattle.std.proofs.Common.{◌≡◌, ℕ, zero, suc, ◌+◌, ◌*◌, ◌^◌, ◌≤◌, ◌⊎◌, inl, inr, ⊎_elim, Bool, true, false, Some, List, [], refl, sym, ap, ◌∙◌, subst, arith}
use Rattle.std.specs.Prelude.{◌-◌, ◌↔◌}
use Rattle.std.proofs.lemmas.Bool.{cases_lt, false≢true}
use Rattle.rv_isa.specs.declared.class.Class.{Class}
use Rattle.rv_isa.specs.declared.class.Class.TheVariants as class
use Rattle.machine.specs.Program.{Program, AreStartRegs}
use Rattle.machine.specs.Table.{Ins}
use Rattle.qed_model.specs.declared.bounds.Bounds.{Bounds}
use Rattle.qed_model.specs.Promise.Changed.{changed_run, with_changes}
use Rattle.qed_model.specs.Promise.Faults.{FaultsFound}
use Rattle.qed_model.specs.Promise.Kept.{after_input, after_output, is_mapped, is_trapped, NotTrapped, Halves, Steady}
use Rattle.qed_model.specs.Promise.InStep.{SettlesWithin}
use Rattle.qed_model.specs.Promise.OwnSteps.{Covers, KeptInStep}
use Rattle.qed_model.specs.Weave.Sequences.{Block}
use Rattle.weave_core.specs.World.{Going, Ended, Known, next, next_pc, start, place, width_of, number, loaded, result, execute, State, set_reg, moved, step, run, class_of}
use Rattle.lockstep.specs.WrongOnce.{WrongOnce, results, stores, elsewhere, PlacesFound}
use Rattle.lean.specs.Strayed.{IsOver}
use Rattle.lean.specs.Slips.{WritesNothing, Slips, own, duplicates, others, idles, bound_as, Settles, NoSilentSlip, stops as has_stopped, settles as has_settled, follows as has_followed}
use Rattle.lean.specs.Undisturbed.{Undisturbed, GoesOn, slipped_run, FollowsTo, change_price}
use Rattle.lean.proofs.Weave.Carry.{run-last, run-more, run-none, step-class, step-compute, step-load, load_granted}
use Rattle.lean.proofs.Weave.DuplicateSlips.{slip_goes, slipped_before, slipped_behind}

-- ---- a skipped instruction whose result goes to x0
pub idle_same : (i : Ins) (u : State) → u.outcome ≡ Going → next u ≡ Known i → NotTrapped (step u) → WritesNothing i → moved u.regs (next_pc u) u ≡ step u
unfolding execute
idle_same i u going known calm h =
    ⊎_elim
    (λ f. sym (step-class u i class.Fence going known f))
    (λ r.
    ⊎_elim
    (λ c. sym (step-compute u i going known c ∙ ap (λ d. moved (set_reg d (result i.kind i u) u.regs) (next_pc u) u) r.1))
    (λ c. sym (step-load u i going known c (load_granted u i going known c calm) ∙ ap (λ d. moved (set_reg d (loaded i.kind (number u.memory (place i u) (width_of i.kind))) u.regs) (next_pc u) u) r.1))
    r.0)
    h

-- a run without changes
pub unchanged : (s : State) (j : ℕ) → changed_run s [] j ≡ run s j
unfolding changed_run with_changes
unchanged s zero = sym (run-none s)
unchanged s (suc j) = let e : suc j ≡ j + 1 = omega arith in ap step (unchanged s j) ∙ sym (ap (run s) e ∙ run-last s j)

module _
    (f g : Program) (reached : ℕ → Bool) (spans : List (ℕ × ℕ)) (base distance : ℕ) (entry : ℕ → ℕ) (blocks : List Block) (bounds : Bounds) (bound ends : ℕ)
    (kept : KeptInStep f g reached distance bounds.start bounds.piece) (faults : FaultsFound f g reached spans bounds bounds.start bounds.piece) (places : PlacesFound f g reached spans bounds bounds.start bounds.piece) (calm : Undisturbed f g reached base distance entry blocks bound ends)
    (big : 8 ≤ bounds.register) (wide : (b : ℕ) → bounds.word ≡ Some b → 8 ≤ b) where
  -- the bound is at least that of looking ahead
  enough : (c : Class) (b : ℕ) → bound_as c bounds ≡ Some b → 8 ≤ b
  enough class.Store b e = wide b e
  enough c b e = subst (λ z. 8 ≤ z) (some_same bounds.register b e) big where
    some_same : (x y : ℕ) → Some x ≡ Some y → x ≡ y
    some_same x y e = cc

  module _
      (regs : List ℕ) (m n b top : ℕ) (i : Ins) (v : State) (are : AreStartRegs regs) (going : (after_output g regs m).outcome ≡ Going) (known : next (after_output g regs m) ≡ Known i)
      (is : bound_as (class_of i.kind) bounds ≡ Some b) (covers : Covers f g reached bounds.start bounds.piece regs (m + 1 + b)) (none : (q : ℕ) → top ≤ q → is_mapped g q ≡ false) (low : top + 8 ≤ 2 ^ 64) (st : Steady f reached n) where
    abbrev first : ℕ
    first = 31 + bound + ends + change_price bound ends top

    abbrev u : State
    u = after_output g regs m

    -- the run without the slip is quiet
    quiet : (j : ℕ) → j ≤ m + 1 + b → IsOver (after_output g regs j).outcome → ⊥
    quiet j h o =
        let until = covers.until in
        let q = (kept regs are).quiet covers.steps j covers.steady (omega (arith, h, until)) in
        ⊎_elim (λ f. absurd (q.0 f)) (λ t. absurd (false≢true (sym q.1 ∙ t))) o

    goes_on : GoesOn g regs m
    goes_on k h o = let e = enough (class_of i.kind) b is in quiet (m + k) (omega (arith, h, e)) o

    next_is : step u ≡ after_output g regs (m + 1)
    next_is = sym (run-last (start g regs) m)

    calm_next : NotTrapped (step u)
    calm_next = by (is_trapped (step u).outcome) refl where
      by : (c : Bool) → is_trapped (step u).outcome ≡ c → is_trapped (step u).outcome ≡ false
      by true e = absurd (goes_on 1 (omega arith) (subst (λ z. IsOver z.outcome) next_is (inr e)))
      by false e = e

    -- of the register bound
    in_register : (c : Class) → class_of i.kind ≡ c → (bound_as c bounds ≡ Some bounds.register) → bounds.register ≡ b
    in_register c e k = some_same bounds.register b (sym k ∙ ap (λ z. bound_as z bounds) (sym e) ∙ is) where
      some_same : (x y : ℕ) → Some x ≡ Some y → x ≡ y
      some_same x y e = cc

    register_is : (class_of i.kind ≡ class.Compute) ⊎ (class_of i.kind ≡ class.Load) → bounds.register ≡ b
    register_is k = ⊎_elim (λ c. in_register class.Compute c refl) (λ c. in_register class.Load c refl) k

    abbrev Values : ℕ → State → Type 0
    Values k y = Halves f (after_input f k) y × ((y.outcome ≡ Ended) ↔ ((after_input f k).outcome ≡ Ended))

    -- the run without a slip comes to the input's states
    idle : step u ≡ v → FollowsTo f n first bound (slipped_run g regs m v)
    idle same =
        let r = calm.keeps regs [] n top are tt none low st in
        let few = none_few (change_price bound ends top) in
        record {
          at = r.at;
          grows = r.grows;
          within = λ k h. let a = r.within k h in omega (arith, a, few);
          values = λ k h.
              let e : changed_run (start g regs) [] (r.at k) ≡ slipped_run g regs m v (r.at k) = unchanged (start g regs) (r.at k) ∙ sym (plain (r.at k)) in
              ⊎_elim (λ o. inl (subst (λ z. IsOver z.outcome) e o)) (λ z. inr (subst (λ y. Values k y) e z)) (r.values k h);
        } where
          none_few : (p : ℕ) → 0 * p ≤ p
          none_few p = omega arith

          plain : (j : ℕ) → slipped_run g regs m v j ≡ run (start g regs) j
          plain j =
              ⊎_elim
              (λ lt. slipped_before g regs m v j (omega (arith, lt)))
              (λ ge.
              let e : m + 1 + (j - (m + 1)) ≡ j = omega (arith, ge) in
              slipped_behind g regs m v j (omega (arith, ge)) ∙ ap (λ z. run z (j - (m + 1))) (sym same ∙ next_is) ∙ sym (run-more (start g regs) (m + 1) (j - (m + 1))) ∙ ap (run (start g regs)) e)
              (cases_lt j (m + 1))

    -- one of the test's own
    own_settles : WrongOnce spans i u v → SettlesWithin spans 0 b (run v) (λ k. after_output g regs (m + 1 + k))
    own_settles (results wr h) =
        let e = register_is wr.writes in
        subst (λ z. SettlesWithin spans 0 z (run v) (λ k. after_output g regs (m + 1 + k))) e (faults.results regs m i v are going known wr h (subst (λ z. Covers f g reached bounds.start bounds.piece regs (m + 1 + z)) (sym e) covers))
    own_settles (stores so h) = faults.stores regs m b i v are going known so h (sym (ap (λ c. bound_as c bounds) so.stores) ∙ is) covers
    own_settles (elsewhere h) = places.found regs m b i v are going known h (sym (ap (λ c. bound_as c bounds) h.store.stores) ∙ is) covers

    by_kind : Slips g spans base distance i u v → Settles f g spans regs m n b first bound v
    by_kind (own h) = has_settled (own_settles h)
    by_kind (duplicates d) =
        has_followed (calm.slips regs m n top i v are going known (ap (λ z. z.outcome) (sym next_is) ∙ slip_goes g base distance i u v going known calm_next d) d none low st)
    by_kind (others o) = ⊎_elim (λ x. has_stopped x) (λ x. has_followed x) (calm.others regs m n top i v are going known o goes_on none low st)
    by_kind (idles k e) = has_followed (idle (sym (e ∙ idle_same i u going known calm_next k)))

  pub silent : NoSilentSlip f g reached spans base distance bounds bound ends
  silent = record { found = λ regs m n b top i v are going known s is covers none low st. by_kind regs m n b top i v are going known is covers none low st s }

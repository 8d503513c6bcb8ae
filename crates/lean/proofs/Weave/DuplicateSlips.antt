-- One instruction that writes into the duplicate half goes wrong: that is a change of the duplicate half.
use Rattle.std.proofs.Common.{◌≡◌, ℕ, suc, ◌+◌, ◌<◌, ◌≤◌, ◌⊎◌, inl, inr, ⊎_elim, Bool, true, false, cond, List, length, refl, sym, ap, ◌∙◌, subst, arith}
use Rattle.std.specs.Prelude.{◌-◌, nat_le, slice_index}
use Rattle.std.proofs.lemmas.Bool.{cases_lt, cases_eq, le-leb, leb-true}
use Rattle.rv_isa.specs.declared.class.Class.TheVariants as class
use Rattle.machine.specs.Table.{Ins}
use Rattle.qed_model.specs.Promise.Faults.{GivesAny, gives, skips}
use Rattle.qed_model.specs.Promise.Kept.{after_output, is_trapped, NotTrapped}
use Rattle.weave_core.specs.World.{World, Program, Going, memory_of, start, put, number, width_of, loaded, place, result, next_pc, State, reg, set_reg, moved, stored, Known, next, step, run, class_of}
use Rattle.lean.specs.Undisturbed.{IsDuplicateReg, InDuplicate, SlipsDuplicate, writes, stores, leaves, slipped_run}
use Rattle.lean.proofs.Weave.Carry.{flags-put, run-last, Standing, run-none, step-compute, step-load, step-store, load_granted, store_granted, width_le, slice_index-set_reg_other, length-set_reg}
use Rattle.lean.proofs.Weave.Robust.{Disturbed}
use Rattle.lean.proofs.Weave.Trail.{Played, put_cells, put_code}

-- the step of such an instruction goes on, if it does not trap
pub slip_goes : (g : Program) (base distance : ℕ) (i : Ins) (u v : State) → u.outcome ≡ Going → next u ≡ Known i → NotTrapped (step u) → SlipsDuplicate g base distance i u v → (step u).outcome ≡ Going
slip_goes g base distance i u v going known calm (writes k d h) =
    ⊎_elim
    (λ c. ap (λ z. z.outcome) (step-compute u i going known c) ∙ going)
    (λ c. ap (λ z. z.outcome) (step-load u i going known c (load_granted u i going known c calm)) ∙ going)
    k
slip_goes g base distance i u v going known calm (stores x a c here there e) = ap (λ z. z.outcome) (step-store u i going known c (store_granted u i going known c calm)) ∙ going
slip_goes g base distance i u v going known calm (leaves c here e) = ap (λ z. z.outcome) (step-store u i going known c (store_granted u i going known c calm)) ∙ going

-- a run with a slip up to it, and behind it
module _ (g : Program) (regs : List ℕ) (n : ℕ) (v : State) where
  pub slipped_before : (j : ℕ) → j ≤ n → slipped_run g regs n v j ≡ after_output g regs j
  slipped_before j h = ap (λ b. cond b (after_output g regs j) (run v (j - (n + 1)))) (le-leb j n h)

  pub slipped_behind : (j : ℕ) → n < j → slipped_run g regs n v j ≡ run v (j - (n + 1))
  slipped_behind j h = by (nat_le j n) refl where
    by : (b : Bool) → nat_le j n ≡ b → cond b (after_output g regs j) (run v (j - (n + 1))) ≡ run v (j - (n + 1))
    by true e = absurd (let k = leb-true j n e in omega (arith, h, k))
    by false e = refl

module _ (g : Program) (w : World) (output : memory_of g.segments ≡ w.output) where
  -- ---- one slip
  module _ (i : Ins) (u : State) (st : Standing w.code w.output u) (going : u.outcome ≡ Going) where
    -- registers that differ in such a register alone
    regs_disturb : (l k : List ℕ) (p : ℕ) → length l ≡ 32 → length k ≡ 32 → ((q : ℕ) → (IsDuplicateReg q → ⊥) → slice_index k q ≡ slice_index l q) → Disturbed w (moved l p u) (moved k p u)
    regs_disturb l k p ll lk same = record {
      before = going;
      going = going;
      pc = refl;
      long = ll;
      count = lk;
      low = λ q h. same q (λ d. ⊎_elim (λ e. absurd (omega (arith, e, h))) (λ r. let a = r.0 in absurd (omega (arith, a, h))) d);
      sign = same 16 (λ d. ⊎_elim (λ e. absurd (omega (arith, e))) (λ r. let a = r.0 in absurd (omega (arith, a))) d);
      thirty = same 30 (λ d. ⊎_elim (λ e. absurd (omega (arith, e))) (λ r. let a = r.1 in absurd (omega (arith, a))) d);
      last = same 31 (λ d. ⊎_elim (λ e. absurd (omega (arith, e))) (λ r. let a = r.1 in absurd (omega (arith, a))) d);
      code = λ a. refl;
      flags = λ q. refl;
      cells = λ q l o. refl;
    }

    other : (x q : ℕ) → IsDuplicateReg i.rd → (IsDuplicateReg q → ⊥) → slice_index (set_reg i.rd x u.regs) q ≡ reg u q
    other x q d n = slice_index-set_reg_other u.regs i.rd x q (λ e. n (subst IsDuplicateReg (sym e) d))

    gives_disturb : (y : ℕ) (v : State) → IsDuplicateReg i.rd → step u ≡ moved (set_reg i.rd y u.regs) (next_pc u) u → GivesAny i u v → Disturbed w (step u) v
    gives_disturb y v d is h = subst (λ z. Disturbed w z v) (sym is) (by h) where
      long : (x : ℕ) → length (set_reg i.rd x u.regs) ≡ 32
      long x = length-set_reg u.regs i.rd x ∙ st.flagged.regs

      by : GivesAny i u v → Disturbed w (moved (set_reg i.rd y u.regs) (next_pc u) u) v
      by (gives x e) = subst (Disturbed w (moved (set_reg i.rd y u.regs) (next_pc u) u)) (sym e) (regs_disturb (set_reg i.rd y u.regs) (set_reg i.rd x u.regs) (next_pc u) (long y) (long x) (λ q n. other x q d n ∙ sym (other y q d n)))
      by (skips e) = subst (Disturbed w (moved (set_reg i.rd y u.regs) (next_pc u) u)) (sym e) (regs_disturb (set_reg i.rd y u.regs) u.regs (next_pc u) (long y) st.flagged.regs (λ q n. sym (other y q d n)))

    -- memories that differ in the duplicate half alone
    stores_disturb :
        (a n x b k y p : ℕ) → n ≤ 8 → k ≤ 8 → InDuplicate g w.base w.distance a n → InDuplicate g w.base w.distance b k
        → Disturbed w (stored (put u.memory a n x) p u) (stored (put u.memory b k y) p u)
    stores_disturb a n x b k y p fa fb ha hb = record {
      before = going;
      going = going;
      pc = refl;
      long = st.flagged.regs;
      count = st.flagged.regs;
      low = λ q h. refl;
      sign = refl;
      thirty = refl;
      last = refl;
      code = λ q. put_code g w output u b k y q fb hb st ∙ sym (put_code g w output u a n x q fa ha st);
      flags = λ q. flags-put u.memory b k y q ∙ sym (flags-put u.memory a n x q);
      cells = λ q l o. put_cells g w output u.memory b k y q fb hb l o ∙ sym (put_cells g w output u.memory a n x q fa ha l o);
    }

    leaves_disturb : (a n x p : ℕ) → n ≤ 8 → InDuplicate g w.base w.distance a n → Disturbed w (stored (put u.memory a n x) p u) (moved u.regs p u)
    leaves_disturb a n x p fa ha = record {
      before = going;
      going = going;
      pc = refl;
      long = st.flagged.regs;
      count = st.flagged.regs;
      low = λ q h. refl;
      sign = refl;
      thirty = refl;
      last = refl;
      code = λ q. sym (put_code g w output u a n x q fa ha st);
      flags = λ q. sym (flags-put u.memory a n x q);
      cells = λ q l o. sym (put_cells g w output u.memory a n x q fa ha l o);
    }

    module _ (known : next u ≡ Known i) (goes : (step u).outcome ≡ Going) where
      -- it does not trap
      calm : NotTrapped (step u)
      calm = ap is_trapped goes

      -- another number, or none
      writes_disturb : (v : State) → (class_of i.kind ≡ class.Compute) ⊎ (class_of i.kind ≡ class.Load) → IsDuplicateReg i.rd → GivesAny i u v → Disturbed w (step u) v
      writes_disturb v k d h =
          ⊎_elim
          (λ c. gives_disturb (result i.kind i u) v d (step-compute u i going known c) h)
          (λ c. gives_disturb (loaded i.kind (number u.memory (place i u) (width_of i.kind))) v d (step-load u i going known c (load_granted u i going known c calm)) h)
          k

      pub slip_disturbs : (v : State) → SlipsDuplicate g w.base w.distance i u v → Disturbed w (step u) v
      slip_disturbs v (writes k d h) = writes_disturb v k d h
      slip_disturbs v (stores x a c here there e) =
          subst (λ z. Disturbed w z v) (sym (step-store u i going known c (store_granted u i going known c calm)))
          (subst (Disturbed w (stored (put u.memory (place i u) (width_of i.kind) (reg u i.rs2)) (next_pc u) u)) (sym e)
          (stores_disturb (place i u) (width_of i.kind) (reg u i.rs2) a (width_of i.kind) x (next_pc u) (width_le i.kind) (width_le i.kind) here there))
      slip_disturbs v (leaves c here e) =
          subst (λ z. Disturbed w z v) (sym (step-store u i going known c (store_granted u i going known c calm)))
          (subst (Disturbed w (stored (put u.memory (place i u) (width_of i.kind) (reg u i.rs2)) (next_pc u) u)) (sym e)
          (leaves_disturb (place i u) (width_of i.kind) (reg u i.rs2) (next_pc u) (width_le i.kind) here))

  -- ---- the run with it
  module _ (regs : List ℕ) (n : ℕ) (v : State) where
    abbrev y : ℕ → State
    y j = slipped_run g regs n v j

    before : (j : ℕ) → j ≤ n → y j ≡ after_output g regs j
    before j h = slipped_before g regs n v j h

    behind : (j : ℕ) → n < j → y j ≡ run v (j - (n + 1))
    behind j h = slipped_behind g regs n v j h

    -- by a change of the duplicate half
    module _ (d : Disturbed w (step (after_output g regs n)) v) where
      next_run : (s : State) (j : ℕ) → run s (suc j) ≡ step (run s j)
      next_run s j = let e : suc j ≡ j + 1 = omega arith in ap (run s) e ∙ run-last s j

      made : ℕ → ℕ
      made j = cond (nat_le j n) 0 1

      pub slip_plays : Played w (slipped_run g regs n v) 1
      unfolding made
      slip_plays = record { made = made; few = λ j. few (nat_le j n); goes = goes } where
        few : (b : Bool) → cond {A = ℕ} b 0 1 ≤ 1
        few true = omega arith
        few false = omega arith

        early : (j : ℕ) → j ≤ n → cond {A = ℕ} (nat_le j n) 0 1 ≡ 0
        early j h = ap (λ b. cond {A = ℕ} b 0 1) (le-leb j n h)

        late : (j : ℕ) → n < j → cond {A = ℕ} (nat_le j n) 0 1 ≡ 1
        late j h = by (nat_le j n) refl where
          by : (b : Bool) → nat_le j n ≡ b → cond {A = ℕ} b 0 1 ≡ 1
          by true e = absurd (let k = leb-true j n e in omega (arith, h, k))
          by false e = refl

        goes : (j : ℕ) → ((y (suc j) ≡ step (y j)) × (cond {A = ℕ} (nat_le j n) 0 1 ≤ cond {A = ℕ} (nat_le (suc j) n) 0 1)) ⊎ (Disturbed w (step (y j)) (y (suc j)) × (suc (cond {A = ℕ} (nat_le j n) 0 1) ≤ cond {A = ℕ} (nat_le (suc j) n) 0 1))
        goes j =
            ⊎_elim
            (λ lt.
            let e = early j (omega (arith, lt)) in
            inl (before (suc j) (omega (arith, lt)) ∙ next_run (start g regs) j ∙ ap step (sym (before j (omega (arith, lt)))), omega (arith, e)))
            (λ ge.
            ⊎_elim
            (λ same.
            let a = early j (omega (arith, same)) in
            let b = late (suc j) (omega (arith, same)) in
            let none : suc j - (n + 1) ≡ 0 = omega (arith, same) in
            let is : y (suc j) ≡ v = behind (suc j) (omega (arith, same)) ∙ ap (run v) none ∙ run-none v in
            inr (subst (Disturbed w (step (y j))) (sym is) (subst (λ z. Disturbed w (step z) v) (sym (before j (omega (arith, same)) ∙ ap (after_output g regs) same)) d), omega (arith, a, b)))
            (λ ne.
            let a = late j (omega (arith, ge, ne)) in
            let b = late (suc j) (omega (arith, ge)) in
            let one : suc j - (n + 1) ≡ suc (j - (n + 1)) = omega (arith, ge, ne) in
            inl (behind (suc j) (omega (arith, ge)) ∙ ap (run v) one ∙ next_run v (j - (n + 1)) ∙ ap step (sym (behind j (omega (arith, ge, ne)))), omega (arith, a, b)))
            (cases_eq j n))
            (cases_lt j n)

      pub slip_begins : slipped_run g regs n v 0 ≡ start g regs
      slip_begins = before 0 (omega arith) ∙ run-none (start g regs)

-- A store in both halves, behind guards of its address and value: what it does, and that its words are of the kinds.
use Rattle.std.proofs.Common.{◌≡◌, ℕ, zero, suc, ◌+◌, ◌%◌, ◌^◌, ◌≤◌, inl, inr, Bool, true, false, cond, List, [], ◌∷◌, ◌++◌, refl, sym, ap, ◌∙◌, subst, arith, append_assoc}
use Rattle.std.proofs.lemmas.Bool.{eqb-false}
use Rattle.std.specs.Prelude.{◌==◌, ◌||◌, pos, slice_index}
use Rattle.rv_isa.specs.declared.class.Class.TheVariants as class
use Rattle.rv_isa.proofs.RegsLaws.{slice_index-set_reg_same, slice_index-set_reg_other, length-set_reg}
use Rattle.qed_model.specs.Promise.Kept.{NotTrapped}
use Rattle.qed_model.specs.Weave.Sequences.{pair, Reads, guard, fired_check, LAST_ORIGINAL, PAIR_DISTANCE, DISTANCE, TEMPORARY, SPARE}
use Rattle.qed_model.specs.Weave.Lean.{guard_value, mirrored_store}
use Rattle.qed_model.specs.Weave.LeanCode.{store_part, store_steps}
use Rattle.machine.specs.Table.{Sub}
use Rattle.machine.proofs.Lemmas.{over_moved, known_at, walk_none, walk_on}
use Rattle.weave_core.specs.World.{Item, Plain, World, Quiet, Twice, Add, Beq, Ins, ins, set_reg, class_of, State, reg, moved, Known, next, step, run}
use Rattle.weave_core.specs.Blocks.{IsLowAs, FitsPiece}
use Rattle.weave_core.specs.Rows.{Sourced}
use Rattle.weave_core.specs.WeaveLaws.{GoesTo, Holds, Inside}
use Rattle.weave_core.specs.Lock.{guard_by}
use Rattle.weave_core.specs.Kinds.{Lockstep}
use Rattle.weave_core.specs.KindItems.{LockItems, LandItems, Straight}
use Rattle.weave_core.proofs.Rows.{At, Led, pair_value}
use Rattle.weave_core.proofs.Access.{store_granted, store_at, store_keeps, raised_store}
use Rattle.weave_core.proofs.Sets.{Sets, writes, writes_out, AllTemps, halved_writes, sets_compute, sets_equal, sets_on}
use Rattle.weave_core.proofs.Visit.{add_result, sub_result}
use Rattle.weave_core.proofs.KindWords.{UsesOnly, words_by, both_guarded, then_guarded, store_use, scratch_compute, scratch_branch, scratch_store, a_break, brk}
use Rattle.weave_core.proofs.KindItems.{items_then, items_none, items_one, second_before, pair_scratch}
use Rattle.weave_core.proofs.Landing.{guard_lands, straight_none, straight_one, straight_compute, straight_store, straight_second, straight_then, straight_lands, land_behind, land_then, land_check}

-- ---- what it does
module _ (w : World) (u s : State) (i : Ins) (rest : List Item) (fit : FitsPiece i) (k : class_of i.kind ≡ class.Store) (a : At w u (store_part i ++ rest) s s) (so : Sourced w s) (has : w.source s.pc ≡ Known i) (calm : NotTrapped (step s)) where
  low : IsLowAs class.Store i
  low = subst (λ c. IsLowAs c i) k fit.low

  goes_on : next s ≡ Known i
  goes_on = known_at w.source s i so.over has

  -- the base, and the base of the duplicate half
  abbrev base : ℕ
  base = reg s i.rs1

  abbrev above : ℕ
  above = (base + w.distance) % 2 ^ 64

  -- x30 and x31 behind the guard of the address
  abbrev set : List (ℕ × ℕ)
  set = (30, above) ∷ (31, base) ∷ []

  abbrev regs : List ℕ
  regs = writes set u.regs

  temps : AllTemps set
  temps = ((omega arith, λ h. omega arith), ((omega arith, λ h. omega arith), tt))

  halved : (p : ℕ) → Twice w (moved regs p u) s s
  halved p = halved_writes w u s s set p temps a.halved

  -- what is behind both guards
  abbrev stores : List Item
  stores = Plain i ∷ mirrored_store i ∷ rest

  -- through the guard of the address
  address : Sets w u 3 (guard_value i ++ stores) regs
  address =
      let o = a.over in
      let t = a.halved in
      let r1 = set_reg 30 above u.regs in
      let more = guard_value i ++ stores in
      let check : List Item = Plain (ins Beq 0 i.rs1 SPARE (pos 8)) ∷ fired_check ∷ more in
      let back : List Item = Plain (ins Sub SPARE TEMPORARY DISTANCE (pos 0)) ∷ check in
      let same = ap (λ l. Plain (ins Add TEMPORARY (pair i.rs1) DISTANCE (pos 0)) ∷ Plain (ins Sub SPARE TEMPORARY DISTANCE (pos 0)) ∷ Plain (ins Beq 0 i.rs1 SPARE (pos 8)) ∷ fired_check ∷ l) (append_assoc (guard_value i) (Plain i ∷ mirrored_store i ∷ []) rest) in
      let h = subst (Reads w.form.far w.code w.entry u.pc) same a.reads in
      let small = so.sized.regs i.rs1 in
      let top = w.layout.top in
      sets_on w u 1 2 back more r1 regs (sets_compute w u (ins Add TEMPORARY (pair i.rs1) DISTANCE (pos 0)) above back o h refl (λ e. absurd (cc)) (add_result u 30 (pair i.rs1) 14 base w.distance above (pair_value w u s s i.rs1 t low.1) t.distance refl)) (λ p1 h1.
      let x1 = moved r1 p1 u in
      let e30 : reg x1 30 ≡ above = slice_index-set_reg_same u.regs 30 above (omega arith) (omega (arith, t.output.regs)) in
      let e14 : reg x1 14 ≡ w.distance = slice_index-set_reg_other u.regs 30 above 14 (λ e. absurd (omega arith)) ∙ t.distance in
      sets_on w x1 1 1 check more regs regs (sets_compute w x1 (ins Sub SPARE TEMPORARY DISTANCE (pos 0)) base check (over_moved w.code u r1 p1 o) h1 refl (λ e. absurd (cc)) (sub_result x1 31 30 14 above w.distance base e30 e14 (omega (arith, small, top)))) (λ p2 h2.
      let x2 = moved regs p2 u in
      let e31 : reg x2 31 ≡ base = slice_index-set_reg_same r1 31 base (omega arith) (omega (arith, length-set_reg u.regs 30 above, t.output.regs)) in
      sets_equal w x2 i.rs1 31 more (over_moved w.code u regs p2 o) h2 ((halved p2).originals i.rs1 low.1 ∙ sym e31)))

  -- through that of the value
  abbrev value_steps : Bool → Bool → ℕ
  value_steps b c = cond (b || c) 0 1

  value :
      (b c : Bool) → (c ≡ false → 1 ≤ i.rs2) → (p : ℕ)
      → Reads w.form.far w.code w.entry p (cond b [] (cond c [] (Plain (ins Beq 0 i.rs2 (i.rs2 + PAIR_DISTANCE) (pos 8)) ∷ fired_check ∷ [])) ++ stores)
      → Sets w (moved regs p u) (value_steps b c) stores regs
  value true c one p h = record { pc = p; walk = walk_none (Quiet w) (moved regs p u); reads = h }
  value false true one p h = record { pc = p; walk = walk_none (Quiet w) (moved regs p u); reads = h }
  value false false one p h =
      let t = halved p in
      sets_equal w (moved regs p u) i.rs2 (i.rs2 + PAIR_DISTANCE) stores (over_moved w.code u regs p a.over) h (t.originals i.rs2 low.2 ∙ sym (t.pairs i.rs2 (one refl) low.2))

  abbrev extra : ℕ
  extra = value_steps (i.rs2 == i.rs1) (i.rs2 == 0)

  -- through both
  guards_row : Sets w u (3 + extra) stores regs
  guards_row = sets_on w u 3 extra (guard_value i ++ stores) stores regs regs address (value (i.rs2 == i.rs1) (i.rs2 == 0) (λ e. let z = eqb-false i.rs2 0 e in omega (arith, z)))

  steps_are : (b c : Bool) → 3 + value_steps b c + 2 ≡ cond (b || c) 5 6
  steps_are true c = omega arith
  steps_are false true = omega arith
  steps_are false false = omega arith

  -- through both stores
  pub store_row : Led w u 1 (store_steps i) rest (step s) (step s)
  store_row =
      let f = guards_row in
      let y = moved regs f.pc u in
      let going = so.over.going in
      let at : At w y stores s s = record { over = over_moved w.code u regs f.pc a.over; reads = f.reads; halved = halved f.pc } in
      let g = store_granted s i going goes_on k calm in
      let one = store_at w y s s i (mirrored_store i ∷ rest) at k low.1 low.2 going goes_on g in
      let kept = store_keeps w y s s i (mirrored_store i ∷ rest) at k low.1 low.2 going goes_on g in
      let e30 : reg y 30 ≡ above = slice_index-set_reg_other (set_reg 30 above u.regs) 31 base 30 (λ e. absurd (omega arith)) ∙ slice_index-set_reg_same u.regs 30 above (omega arith) (omega (arith, a.halved.output.regs)) in
      let two = raised_store w one.to (step s) s i rest one.at (ap (λ l. slice_index l 30) kept ∙ e30) k low.2 going goes_on calm in
      let both = walk_on (Quiet w) y one.to two.to one.steps two.steps one.walk two.walk in
      let few = steps_are (i.rs2 == i.rs1) (i.rs2 == 0) in
      record {
        steps = 3 + extra + (one.steps + two.steps);
        to = two.to;
        at_least = omega (arith, one.at_least, two.at_least);
        within = omega (arith, one.within, two.within, few);
        walk = walk_on (Quiet w) u y two.to (3 + extra) (one.steps + two.steps) f.walk both;
        at = two.at;
        cursor = two.cursor ∙ one.cursor ∙ writes_out set u.regs 15 (λ e. absurd (omega arith), (λ e. absurd (omega arith), tt));
        sign = two.sign ∙ one.sign ∙ writes_out set u.regs 16 (λ e. absurd (omega arith), (λ e. absurd (omega arith), tt));
      }

-- ---- the kinds of its words
module _ (far : Bool) (i j : Ins) (k : class_of i.kind ≡ class.Store) (k' : class_of j.kind ≡ class.Store) (mirror : Lockstep (j ∷ [])) (q : ℕ) (b : q ≤ LAST_ORIGINAL) where
  -- the guard of the value, and both stores
  abbrev valued : ℕ → List Item
  valued p = cond (q == p) [] (guard q) ++ (Plain i ∷ Plain j ∷ [])

  -- behind the comparison of the base
  abbrev checked : ℕ → List Item
  checked p = Plain (guard_by p SPARE) ∷ fired_check ∷ valued p

  straight_valued : (p : ℕ) → Straight far (valued p)
  straight_valued p = straight_then far (cond (q == p) [] (guard q)) (Plain i ∷ Plain j ∷ []) (straight_second far (q == p) q b) (straight_store far i (Plain j ∷ []) k (straight_store far j [] k' (straight_none far)))

  -- the duplicate half behind the rest
  with_mirror : (xs : List Item) → LockItems far (xs ++ (Plain i ∷ [])) → LockItems far (xs ++ (Plain i ∷ Plain j ∷ []))
  with_mirror xs h = subst (LockItems far) (append_assoc xs (Plain i ∷ []) (Plain j ∷ [])) (items_then far (xs ++ (Plain i ∷ [])) (Plain j ∷ []) h (items_one far j [] mirror (items_none far)))

  -- behind a base x0
  zero_valued : UsesOnly 0 q i [] → LockItems far (valued 0)
  zero_valued u = with_mirror (cond (q == 0) [] (guard q)) (λ e a. let two = second_before far e (q == 0) q (Plain i ∷ []) a in subst Lockstep (sym two.1) (both_guarded i [] 0 q (omega arith) b u))

  checked_items : (p : ℕ) → p ≤ LAST_ORIGINAL → UsesOnly p q i [] → LockItems far (checked p)
  checked_items zero h u = items_one far (guard_by 0 SPARE) (fired_check ∷ valued 0) (scratch_branch (guard_by 0 SPARE) refl (inl refl) (inr (omega arith)) refl) (items_one far brk (valued 0) a_break (zero_valued u))
  checked_items (suc p) h u =
      with_mirror (Plain (guard_by (suc p) SPARE) ∷ fired_check ∷ cond (q == suc p) [] (guard q)) (λ e a.
      let two = second_before far e (q == suc p) q (Plain i ∷ []) (a + 4 + 4) in
      subst Lockstep (sym (ap (λ l. words_by (suc p) SPARE ++ l) two.1)) (then_guarded i [] (suc p) SPARE q (omega arith) h (omega arith) b u))

  checked_lands : (p : ℕ) → p ≤ LAST_ORIGINAL → UsesOnly p q i [] → LandItems far (checked p)
  checked_lands zero h u = land_then far (Plain (guard_by 0 SPARE) ∷ fired_check ∷ []) (valued 0) (land_check far (guard_by 0 SPARE) refl refl) (zero_valued u) (straight_lands far (valued 0) (straight_valued 0))
  checked_lands (suc p) h u =
      straight_lands far (checked (suc p))
      (straight_one far (guard_by (suc p) SPARE) class.Branch (fired_check ∷ valued (suc p)) refl (λ c a. guard_lands c a (suc p) SPARE (omega arith) h (omega arith))
      (straight_one far brk class.Break (valued (suc p)) refl (λ c a. tt) (straight_valued (suc p))))

module _ (far : Bool) (i : Ins) (fit : FitsPiece i) (k : class_of i.kind ≡ class.Store) where
  names : IsLowAs class.Store i
  names = subst (λ c. IsLowAs c i) k fit.low

  -- in the duplicate half
  abbrev shadow : Ins
  shadow = ins i.kind 0 TEMPORARY (pair i.rs2) i.imm

  mirrors : Lockstep (shadow ∷ [])
  mirrors = scratch_store shadow k (inr (omega arith)) (pair_scratch i.rs2)

  -- the words of the address
  abbrev up : Ins
  up = ins Add TEMPORARY (pair i.rs1) DISTANCE (pos 0)

  abbrev down : Ins
  down = ins Sub SPARE TEMPORARY DISTANCE (pos 0)

  abbrev rest : List Item
  rest = checked far i shadow k k mirrors i.rs2 names.2 i.rs1

  pub store_items : LockItems far (store_part i)
  store_items =
      items_one far up (Plain down ∷ rest) (scratch_compute up refl (pair_scratch i.rs1) (inr (omega arith)))
      (items_one far down rest (scratch_compute down refl (inr (omega arith)) (inr (omega arith)))
      (checked_items far i shadow k k mirrors i.rs2 names.2 i.rs1 names.1 (store_use i k names.1 names.2)))

  -- it leads to where no register is closed; with the base x0 no guard stands there, but a branch like any other
  pub store_lands : LandItems far (store_part i)
  store_lands =
      land_behind far (Plain up ∷ Plain down ∷ []) rest (straight_compute far up (Plain down ∷ []) refl (straight_compute far down [] refl (straight_none far)))
      (checked_lands far i shadow k k mirrors i.rs2 names.2 i.rs1 names.1 (store_use i k names.1 names.2))

-- A piece under changes: the original half has the input's values before it and behind it.
use Rattle.std.proofs.Common.{◌≡◌, ℕ, zero, suc, ◌+◌, ◌*◌, ◌%◌, ◌^◌, ◌<◌, ◌≤◌, ◌⊎◌, inl, inr, ⊎_elim, Bool, true, false, cond, List, [], ◌∷◌, ◌++◌, length, is_some, refl, sym, ap, ◌∙◌, subst, arith, append_assoc, length-append}
use Rattle.std.specs.Prelude.{◌==◌, ◌-◌, pos, nat_lt, slice_index}
use Rattle.std.proofs.lemmas.Bool.{and_parts, false≢true, false_from_ne_true}
use Rattle.rv_isa.specs.declared.class.Class.TheVariants as class
use Rattle.machine.specs.declared.outcome.Cause.TheVariants as cause
use Rattle.machine.specs.Table.{ins, Ins, Auipc, Beq, Add, Sub}
use Rattle.machine.specs.Operands.{is_auipc}
use Rattle.qed_model.specs.Promise.Kept.{is_trapped, NotTrapped, IsSteady}
use Rattle.qed_model.specs.Weave.Forms.{mirror_of}
use Rattle.qed_model.specs.Weave.Lean.{is_break, cost, guard_value, mirrored_store}
use Rattle.qed_model.specs.Weave.LeanCode.{is_store, store_part, both_parts, parts_with, piece}
use Rattle.qed_model.specs.Weave.Sequences.{Reads, original, original_as, guard, fired_check, pair, each_part, LAST_ORIGINAL, DISTANCE, TEMPORARY, SPARE}
use Rattle.weave_core.specs.Blocks.{IsLowAs, FitsPiece, AllFit}
use Rattle.weave_core.specs.Rows.{Sourced}
use Rattle.weave_core.specs.World.{World, Item, Plain, Constant, get, byte_at, byte_of, offset, grants, number, put, width_of, loaded, wrap, State, reg, set_reg, moved, stored, trapped, imm, place, result, next_pc, execute, Known, next, step, run, target, Class, class_of, HasAt}
use Rattle.lean.specs.Strayed.{IsOver, Stopped}
use Rattle.lean.specs.Undisturbed.{slip_steps}
use Rattle.lean.proofs.Weave.Chain.{cost_append, no_break}
use Rattle.lean.proofs.Weave.Costs.{guard_most}
use Rattle.lean.proofs.Weave.Carry.{steady_none, Keep, keep_append, keep_guard, keep_mirror, one_run, slice_index-set_reg_other, slice_index-set_reg_same, step-class, Over, known_at, run-more, auipc_is, IsBodyWord, body_computes, body_loads, body_stores, body_fences, body_word, pc_four, Standing, standing_step, step-compute, step-load, step-store, get-put_outside, byte_at-put_outside, same_number, byte_after, grants-weaker, some-flags, untouched, allows-flags, auipc_step, result_alike, step-fence, load_granted, store_granted, mapped_in, raised_place, spared, source_run, width_le, add_result, sub_result, has_front, has_rest}
use Rattle.lean.proofs.Weave.Half.{is_spare, but, but_other, Half, Into, Holding, IntoHolding, half_over, half_spare, half_moved, half_original, holding_keeps, spare_pair}
use Rattle.lean.proofs.Weave.Robust.{With, Lasts, leads_keep, half_lasts, into_lasts, half_leads, leads_word, leads_original, leads_none, leads_more, half_met, words_last, leads_compute, Begun, begun_lasts, begins, ends_begun, Onto, steady_first, steady_join, steady_calm, holding_lasts, leads_compare, computes as steps_to, compare_step, firing_over, Calm, Slip, IsOwn, Before_words, Slides, Recovers, EveryOf, mends, mends_own, mends_gives, Constant_recovers, constant_own, slip_gives, slip_elim, same_word, every_plain}

-- no store
abbrev Bare : Ins → Type 0
Bare i = class_of i.kind ≡ class.Store → ⊥

-- run by one step
run-step : (s : State) (n : ℕ) → run s (suc n) ≡ run (step s) n
unfolding run
run-step s n = refl

-- and by three
run-three : (s : State) → run s 3 ≡ step (step (step s))
unfolding run
run-three s = refl

-- ---- the words of one instruction
module _ (w : World) where
  -- behind the first of some instructions
  record Next (s : State) (is : List Ins) : Type 0 where
    pub sourced : Sourced w (step s)
    pub pc : (step s).pc ≡ s.pc + 4
    pub has : HasAt w.source (step s).pc is

  next_of : (s : State) (i : Ins) (is : List Ins) → FitsPiece i → Sourced w s → HasAt w.source s.pc (i ∷ is) → NotTrapped (step s) → Next s is
  next_of s i is fit so h calm =
      let p = source_run w (i ∷ []) 1 s (omega arith) (fit, tt) so (h.0, tt) (subst NotTrapped (sym (one_run s)) calm) in
      let there : (step s).pc ≡ s.pc + 4 = ap (λ y. y.pc) (sym (one_run s)) ∙ p.pc ∙ four s.pc in
      record { sourced = subst (Sourced w) (one_run s) p.sourced; pc = there; has = subst (λ a. HasAt w.source a is) (sym there) h.1 } where
        four : (n : ℕ) → n + 4 * 1 ≡ n + 4
        four n = omega arith

  module _ (x : ℕ) (i : Ins) (u s : State) (rest : List Item) (fit : FitsPiece i) (a : Half w x s u) (has : w.source s.pc ≡ Known i) (calm : NotTrapped (step s)) where
    known : next s ≡ Known i
    known = known_at w.source s i a.sourced.over has

    abbrev Done : Type 0
    Done = Into w x (step s) rest (step u)

    over : Over w.code u
    over = half_over w x s u a

    -- an original register set in both
    sets : (r v p : ℕ) → r ≤ LAST_ORIGINAL → step s ≡ moved (set_reg r v s.regs) (next_pc s) s → Half w x (step s) (moved (set_reg r v u.regs) p u)
    sets r v p h e = subst (λ t. Half w x t (moved (set_reg r v u.regs) p u)) (sym e) (half_original w x s u r v p (next_pc s) h a (subst (Sourced w) e (next_of s i [] fit a.sourced (has, tt) calm).sourced))

    -- by one step
    by_step :
        (r v : ℕ) → step u ≡ moved (set_reg r v u.regs) (next_pc u) u → r ≤ LAST_ORIGINAL → step s ≡ moved (set_reg r v s.regs) (next_pc s) s → Reads false w.code w.entry u.pc (Plain i ∷ rest)
        → Done
    by_step r v eu h es reads =
        let e : step u ≡ moved (set_reg r v u.regs) (u.pc + 4) u = eu ∙ ap (λ p. moved (set_reg r v u.regs) p u) (pc_four w u i reads.0) in
        subst (Into w x (step s) rest) (sym e) (sets r v (u.pc + 4) h es, reads.1)

    computes : class_of i.kind ≡ class.Compute → is_auipc i.kind ≡ false → Reads false w.code w.entry u.pc (Plain i ∷ rest) → Done
    computes k other r =
        let l : IsLowAs class.Compute i = subst (λ c. IsLowAs c i) k fit.low in
        let same = result_alike i.kind i i u s other refl (a.originals i.rs1 l.1) (a.originals i.rs2 l.2) in
        by_step i.rd (result i.kind i s) (step-compute u i a.going (known_at w.code u i over r.0) k ∙ ap (λ v. moved (set_reg i.rd v u.regs) (next_pc u) u) same) l.0 (step-compute s i a.sourced.over.going known k) r

    fences : class_of i.kind ≡ class.Fence → Reads false w.code w.entry u.pc (Plain i ∷ rest) → Done
    fences k r = by_step 0 0 (step-fence w u i a.going (known_at w.code u i over r.0) k) (omega arith) (step-fence w s i a.sourced.over.going known k) r

    loads : class_of i.kind ≡ class.Load → Reads false w.code w.entry u.pc (Plain i ∷ rest) → Done
    loads k r =
        let l : IsLowAs class.Load i = subst (λ c. IsLowAs c i) k fit.low in
        let g = load_granted s i a.sourced.over.going known k calm in
        let n = width_of i.kind in
        let at : place i u ≡ place i s = ap (λ z. (z + imm i) % 2 ^ 64) (a.originals i.rs1 l.1) in
        let ok0 : grants (λ f. f.read) u.memory (place i s) n ≡ true = grants-weaker (λ f. f.read) s.memory u.memory (place i s) n (λ q e. allows-flags _ (get u.memory q) (get w.output q) (a.standing.flagged.flags q) ∙ w.layout.reads q (sym (allows-flags _ (get s.memory q) (get w.input q) (a.sourced.flagged.flags q)) ∙ e)) g in
        let ok : grants (λ f. f.read) u.memory (place i u) n ≡ true = rw at ok0 in
        let same : number u.memory (place i u) n ≡ number s.memory (place i s) n = ap (λ z. number u.memory z n) at ∙ same_number u.memory s.memory (place i s) n (λ j h. a.bytes (wrap (place i s + j)) (mapped_in w (λ f. f.read) s (place i s) n j a.sourced.flagged g h)) in
        by_step i.rd (loaded i.kind (number s.memory (place i s) n)) (step-load u i a.going (known_at w.code u i over r.0) k ok ∙ ap (λ z. moved (set_reg i.rd (loaded i.kind z) u.regs) (next_pc u) u) same) l.0 (step-load s i a.sourced.over.going known k g) r

  -- a store
  module _ (x : ℕ) (i : Ins) (s : State) (rest : List Item) (fit : FitsPiece i) (so : Sourced w s) (has : w.source s.pc ≡ Known i) (calm : NotTrapped (step s)) (k : class_of i.kind ≡ class.Store) where
    low : IsLowAs class.Store i
    low = subst (λ c. IsLowAs c i) k fit.low

    known_s : next s ≡ Known i
    known_s = known_at w.source s i so.over has

    granted : grants (λ f. f.write) s.memory (place i s) (width_of i.kind) ≡ true
    granted = store_granted s i so.over.going known_s k calm

    abbrev at : ℕ
    at = place i s

    abbrev width : ℕ
    width = width_of i.kind

    abbrev value : ℕ
    value = reg s i.rs2

    step_is : step s ≡ stored (put s.memory at width value) (next_pc s) s
    step_is = step-store s i so.over.going known_s k granted

    -- the original one
    stores : (u : State) → Half w x s u → Reads false w.code w.entry u.pc (Plain i ∷ mirrored_store i ∷ rest) → (step u ≡ stored (put u.memory at width value) (u.pc + 4) u) × Into w x (step s) (mirrored_store i ∷ rest) (step u)
    stores u a r = (is, (half, subst (λ p. Reads false w.code w.entry p (mirrored_store i ∷ rest)) (sym (ap (λ y. y.pc) is)) r.1)) where
      same_place : place i u ≡ at
      same_place = ap (λ z. (z + imm i) % 2 ^ 64) (a.originals i.rs1 low.1)

      may : grants (λ f. f.write) u.memory at width ≡ true
      may = grants-weaker (λ f. f.write) s.memory u.memory at width (λ q e. allows-flags _ (get u.memory q) (get w.output q) (a.standing.flagged.flags q) ∙ w.layout.writes q (sym (allows-flags _ (get s.memory q) (get w.input q) (so.flagged.flags q)) ∙ e)) granted

      is : step u ≡ stored (put u.memory at width value) (u.pc + 4) u
      is =
          step-store u i a.going (known_at w.code u i (half_over w x s u a) r.0) k (rw same_place may) ∙ ap (λ p. stored (put u.memory p width (reg u i.rs2)) (next_pc u) u) same_place
          ∙ ap (λ v. stored (put u.memory at width v) (next_pc u) u) (a.originals i.rs2 low.2) ∙ ap (λ p. stored (put u.memory at width value) p u) (pc_four w u i r.0)

      unmapped : (q : ℕ) → w.base + 2 * w.distance ≤ q → is_some (get w.input q) ≡ false
      unmapped q h = false_from_ne_true _ (λ e. let z = w.layout.high q e in omega (arith, z, h))

      half : Half w x (step s) (step u)
      half = subst (Half w x (step s)) (sym is) (record {
        going = a.going;
        standing = subst (Standing w.code w.output) is (standing_step w.code w.output w.output_fixed u a.standing);
        sourced = (next_of s i [] fit so (has, tt) calm).sourced;
        sign = a.sign;
        distance = a.distance;
        originals = λ q l. a.originals q l ∙ sym (ap (λ y. reg y q) step_is);
        bytes = λ q e.
            byte_after u.memory at width value q (some-flags _ _ (a.standing.flagged.flags q) ∙ w.layout.mapped q e) ∙ ap (cond (nat_lt (offset at q) width) (byte_of value (offset at q))) (a.bytes q e)
            ∙ sym (byte_after s.memory at width value q (some-flags _ _ (so.flagged.flags q) ∙ e)) ∙ sym (ap (λ y. byte_at y.memory q) step_is);
        fixed = λ q h l. get-put_outside u.memory at width value q (untouched (λ f. f.write) s.memory at width q (omega arith) l (width_le i.kind) granted (some-flags _ _ (so.flagged.flags q) ∙ unmapped q h)) ∙ a.fixed q h l;
      })

    -- the mirrored one, whatever it stores
    mirrors : (t u : State) → Half w x t u → reg u TEMPORARY ≡ (reg s i.rs1 + w.distance) % 2 ^ 64 → Reads false w.code w.entry u.pc (mirrored_store i ∷ rest) → IsOver (step u).outcome ⊎ Into w x t rest (step u)
    unfolding execute
    mirrors t u a base r = by (grants (λ f. f.write) u.memory (place j u) width) (step-class u j class.Store a.going (known_at w.code u j (half_over w x t u a) r.0) k) where
      j : Ins
      j = ins i.kind 0 TEMPORARY (pair i.rs2) i.imm

      there : place (ins i.kind 0 TEMPORARY (pair i.rs2) i.imm) u ≡ wrap (at + w.distance)
      there = raised_place w u s i (ins i.kind 0 TEMPORARY (pair i.rs2) i.imm) base refl refl

      by : (b : Bool) → step u ≡ cond b (stored (put u.memory (place (ins i.kind 0 TEMPORARY (pair i.rs2) i.imm) u) width (reg u (pair i.rs2))) (next_pc u) u) (trapped (cause.Store (place (ins i.kind 0 TEMPORARY (pair i.rs2) i.imm) u)) u) → IsOver (step u).outcome ⊎ Into w x t rest (step u)
      by false e = inl (inr (ap (λ y. is_trapped y.outcome) e))
      by true e =
          let v = reg u (pair i.rs2) in
          let is : step u ≡ stored (put u.memory (wrap (at + w.distance)) width v) (u.pc + 4) u = e ∙ ap (λ p. stored (put u.memory p width v) (next_pc u) u) there ∙ ap (λ p. stored (put u.memory (wrap (at + w.distance)) width v) p u) (pc_four w u (ins i.kind 0 TEMPORARY (pair i.rs2) i.imm) r.0) in
          let low_q : (q : ℕ) → is_some (get w.input q) ≡ true → q < w.base + w.distance = λ q e. w.layout.high q e in
          let top = w.layout.top in
          inr (
            subst (Half w x t) (sym is) (record {
              going = a.going;
              standing = subst (Standing w.code w.output) is (standing_step w.code w.output w.output_fixed u a.standing);
              sourced = a.sourced;
              sign = a.sign;
              distance = a.distance;
              originals = a.originals;
              bytes = λ q e. byte_at-put_outside u.memory (wrap (at + w.distance)) width v q (spared w s at width (λ f. f.write) so.flagged granted q (let h = low_q q e in omega (arith, h, top)) (inl (low_q q e))) ∙ a.bytes q e;
              fixed = λ q h l. get-put_outside u.memory (wrap (at + w.distance)) width v q (spared w s at width (λ f. f.write) so.flagged granted q l (inr h)) ∙ a.fixed q h l;
            }),
            subst (λ p. Reads false w.code w.entry p rest) (sym (ap (λ y. y.pc) is)) r.1,
          )

  -- ---- several instructions
  -- none of them stores
  abbrev AllBare : List Ins → Type 0
  AllBare [] = Unit {0}
  AllBare (i ∷ is) = Bare i × AllBare is

  -- their mirror parts
  mirrors_keep : (other : Bool) (is : List Ins) (p : ℕ) → AllFit is → AllBare is → Keep is_spare false (each_part (mirror_of other) is p)
  mirrors_keep other [] p f b = tt
  mirrors_keep other (i ∷ is) p f b =
      keep_append is_spare false (mirror_of other i p) (each_part (mirror_of other) is (p + 4))
      (keep_mirror is_spare false spare_pair refl refl other i p f.0 (λ k. absurd (b.0 k)))
      (mirrors_keep other is (p + 4) f.1 b.1)

  -- instructions in two lists
  fit_front : (xs ys : List Ins) → AllFit (xs ++ ys) → AllFit xs × AllFit ys
  fit_front [] ys f = (tt, f)
  fit_front (x ∷ xs) ys f = let r = fit_front xs ys f.1 in ((f.0, r.0), r.1)

  bare_push : (is : List Ins) (i : Ins) → AllBare is → Bare i → AllBare (is ++ i ∷ [])
  bare_push [] i b n = (n, tt)
  bare_push (j ∷ is) i b n = (b.0, bare_push is i b.1 n)

-- which instructions store
bare_of : (i : Ins) → is_store (class_of i.kind) ≡ false → Bare i
bare_of i e k = false≢true (sym e ∙ ap is_store k)

is_store_class : (c : Class) → is_store c ≡ true → c ≡ class.Store
is_store_class class.Store e = refl
is_store_class c e = absurd (false≢true e)

-- the original part of an instruction without a store has at most two steps
original_few : (i : Ins) (at : ℕ) → Bare i → cost (original i at) ≤ 2
original_few i at bare = by (is_auipc i.kind) (class_of i.kind) bare where
  one : (b : Bool) → cond {A = ℕ} b 0 1 ≤ 1
  one true = omega arith
  one false = omega arith

  by : (b : Bool) (k : Class) → (k ≡ class.Store → ⊥) → cost (cond b (Constant i.rd (target i at) ∷ []) (original_as k i at)) ≤ 2
  by true k n = omega arith
  by false class.Load n = let g = guard_most i.rs1 in let e = cost_append (guard i.rs1) (Plain i ∷ []) in let o = one (is_break i.kind) in omega (arith, g, e, o)
  by false class.Store n = absurd (n refl)
  by false k n = let o = one (is_break i.kind) in omega (arith, o)

-- that of a store
value_few : (i : Ins) → cost (guard_value i) ≤ 1
value_few i = by (i.rs2 == i.rs1) where
  by : (b : Bool) → cost (cond b [] (guard i.rs2)) ≤ 1
  by true = omega arith
  by false = guard_most i.rs2

store_cost : (i : Ins) → class_of i.kind ≡ class.Store → cost (store_part i) ≡ 5 + cost (guard_value i)
store_cost i k = let e = cost_append (guard_value i) (Plain i ∷ mirrored_store i ∷ []) in omega (arith, e, two) where
  two : cost (Plain i ∷ mirrored_store i ∷ []) ≡ 2
  two = ap (λ b. cond {A = ℕ} b 0 1 + (cond {A = ℕ} b 0 1 + 0)) (no_break i.kind class.Store k (λ e. absurd (cc)))

module _ (w : World) (bound price : ℕ) (slip : Bool) where
  -- what follows one instruction, and n of them, if `most` steps are left
  abbrev pub Onward : ℕ → ℕ → ℕ → State → (State → Type 0) → Type 0
  Onward N K most s Q = (K' : ℕ) → suc K' ≤ K → IsSteady w.reached s 1 → Onto w bound price slip N K' (step s) most Q

  abbrev pub Follows : ℕ → ℕ → ℕ → ℕ → ℕ → State → List Item → Type 0
  Follows x N K n most s rest = (K' : ℕ) → K' + n ≤ K → IsSteady w.reached s n → Onto w bound price slip N K' (run s n) most (Into w x (run s n) rest)

  -- ---- words
  -- a word that makes the input's next state, for any K
  pub makes :
      (x N K : ℕ) (s : State) (P Q : State → Type 0) (few many : ℕ) → 1 ≤ many → suc few ≤ many + bound → Lasts w bound price P → ((u : State) → Q u → Half w x (step s) u)
      → (IsSteady w.reached s 1 → (u : State) → P u → Q (step u)) → (slip ≡ true → Recovers w bound price (IsSteady w.reached s) (step s) N K (With w bound price many P)) → Onward N K few s Q
      → Onto w bound price slip N K s many P
  makes x N zero s P Q few many some le lasts half goes mend on = leads_none w bound price slip N s (With w bound price many P)
  makes x N (suc K) s P Q few many some le lasts half goes mend on =
      leads_original w bound price slip N K s P Q few many some le lasts
      (λ st u b. let q = goes st u b in inr (half_met w bound price x (step s) (step u) (half (step u) q), q))
      mend
      (λ st. on K (omega arith) st)

  -- ---- the original part of an instruction without a store
  module _
      (x : ℕ) (i : Ins) (s : State) (rest : List Item) (N K few extra : ℕ) (le : few ≤ extra + bound) (fit : FitsPiece i) (so : Sourced w s) (has : w.source s.pc ≡ Known i)
      (on : Onward N K few s (Into w x (step s) rest)) where
    auipc : i.kind ≡ Auipc → i.rd ≤ LAST_ORIGINAL → Onto w bound price slip N K s (2 + extra) (Into w x s (Constant i.rd (target i s.pc) ∷ rest))
    auipc k h =
        leads_word w bound price slip _ _ N K (Into w x s (Constant i.rd v ∷ rest)) Middle (1 + extra) (2 + extra) (omega arith) (into_lasts w bound price x s (Constant i.rd v ∷ rest))
        (λ u b.
        inr (begins w bound price i.rd v rest (Half w x (step s)) u (half_over w x s u b.0) b.0.standing.flagged.regs (omega (arith, h)) b.1
        (λ p. sets w x i u s rest fit b.0 has calm i.rd v p h is)))
        (λ on. own.0)
        (makes x N K s Middle (Into w x (step s) rest) few (1 + extra) (omega arith) (omega (arith, le))
        (begun_lasts w bound price i.rd v rest (Half w x (step s)) (inl (omega (arith, h))) (half_lasts w bound price x (step s)))
        (λ u q. q.0)
        (λ st u g. ends_begun w bound price i.rd v rest (Half w x (step s)) u (omega arith) g) (λ on. own.1) on) where
          v : ℕ
          v = target i s.pc

          Middle : State → Type 0
          Middle = Begun w bound price i.rd v rest (Half w x (step s))

          own : Constant_recovers w bound price (IsSteady w.reached s) (step s) N K i.rd v (Half w x s) (Half w x (step s)) rest extra (2 + extra)
          own = constant_own w bound price (IsSteady w.reached s) (step s) N K i.rd v (Half w x s) (Half w x (step s)) rest extra (2 + extra) h

          is : step s ≡ moved (set_reg i.rd v s.regs) (next_pc s) s
          is = auipc_step w s i k so.over.going (known_at w.source s i so.over has)

          calm : NotTrapped (step s)
          calm = ap (λ z. is_trapped z.outcome) is ∙ ap is_trapped so.over.going

    -- an instruction that is its own original part
    word :
        (k : Class) → class_of i.kind ≡ k → (k ≡ class.Break → ⊥) → IsOwn w i → (IsSteady w.reached s 1 → (u : State) → Into w x s (Plain i ∷ rest) u → Into w x (step s) rest (step u))
        → Onto w bound price slip N K s (cost (Plain i ∷ []) + extra) (Into w x s (Plain i ∷ rest))
    word k e ne own goes =
        let one : 1 ≡ cost (Plain i ∷ []) = ap (λ b. cond {A = ℕ} b 0 1 + 0) (sym (no_break i.kind k e ne)) in
        subst (λ n. Onto w bound price slip N K s (n + extra) (Into w x s (Plain i ∷ rest))) one
        (makes x N K s (Into w x s (Plain i ∷ rest)) (Into w x (step s) rest) few (1 + extra) (omega arith) (omega (arith, le)) (into_lasts w bound price x s (Plain i ∷ rest))
        (λ u q. q.0) goes (λ is. mends_own w bound price (IsSteady w.reached s) (step s) N K (With w bound price (1 + extra) (Into w x s (Plain i ∷ rest))) (λ m u d. (i, d.0.1.0, own))) on)

    -- behind its guard
    guarded : class_of i.kind ≡ class.Load → Onto w bound price slip N K s (cost (guard i.rs1 ++ (Plain i ∷ [])) + extra) (Into w x s ((guard i.rs1 ++ (Plain i ∷ [])) ++ rest))
    guarded k =
        let sum = cost_append (guard i.rs1) (Plain i ∷ []) in
        let sums : cost (guard i.rs1) + (cost (Plain i ∷ []) + extra) ≡ cost (guard i.rs1 ++ (Plain i ∷ [])) + extra = omega (arith, sum) in
        subst (λ l. Onto w bound price slip N K s (cost (guard i.rs1 ++ (Plain i ∷ [])) + extra) (Into w x s l)) (sym (append_assoc (guard i.rs1) (Plain i ∷ []) rest))
        (subst (λ n. Onto w bound price slip N K s n (Into w x s (guard i.rs1 ++ Plain i ∷ rest))) sums
        (half_leads w bound price slip (guard i.rs1) (keep_guard is_spare false i.rs1) N K x s s (Plain i ∷ rest) (cost (Plain i ∷ []) + extra)
        (word class.Load k (λ e. absurd (cc)) (inl (inr k, (subst (λ c. IsLowAs c i) k fit.low).0)) (λ st u b. loads w x i u s rest fit b.0 has (steady_calm w.reached s st) k b.1))))

    original_leads : Bare i → Onto w bound price slip N K s (cost (original i s.pc) + extra) (Into w x s (original i s.pc ++ rest))
    original_leads bare = by (is_auipc i.kind) refl where
      body : is_auipc i.kind ≡ false → IsBodyWord i → Onto w bound price slip N K s (cost (original_as (class_of i.kind) i s.pc) + extra) (Into w x s (original_as (class_of i.kind) i s.pc ++ rest))
      body n (body_computes k) = rw k (word class.Compute k (λ e. absurd (cc)) (inl (inl k, (subst (λ c. IsLowAs c i) k fit.low).0)) (λ st u b. computes w x i u s rest fit b.0 has (steady_calm w.reached s st) k n b.1))
      body n (body_loads k) = rw k (guarded k)
      body n (body_stores k) = absurd (bare k)
      body n (body_fences k) = rw k (word class.Fence k (λ e. absurd (cc)) (inr (inr k)) (λ st u b. fences w x i u s rest fit b.0 has (steady_calm w.reached s st) k b.1))

      by :
          (b : Bool) → is_auipc i.kind ≡ b
          → Onto w bound price slip N K s (cost (cond b (Constant i.rd (target i s.pc) ∷ []) (original_as (class_of i.kind) i s.pc)) + extra)
          (Into w x s (cond b (Constant i.rd (target i s.pc) ∷ []) (original_as (class_of i.kind) i s.pc) ++ rest))
      by true e = let l : IsLowAs class.Compute i = subst (λ c. IsLowAs (class_of c) i) (auipc_is i.kind e) fit.low in auipc (auipc_is i.kind e) l.0
      by false e = body e (body_word i fit)

  -- ---- a store
  module _
      (x : ℕ) (i : Ins) (s : State) (rest : List Item) (N K few extra : ℕ) (le : 1 + few ≤ extra + bound) (fit : FitsPiece i) (so : Sourced w s) (has : w.source s.pc ≡ Known i)
      (k : class_of i.kind ≡ class.Store) (on : Onward N K few s (Into w x (step s) rest)) where
    abbrev up : ℕ
    up = (reg s i.rs1 + w.distance) % 2 ^ 64

    abbrev stores_to : List Item
    stores_to = Plain i ∷ mirrored_store i ∷ rest

    abbrev Added : State → Type 0
    Added u = Half w x s u × (reg u TEMPORARY < 2 ^ 64)

    added_lasts : Lasts w bound price Added
    added_lasts u v b d = (half_lasts w bound price x s u v b.0 d, subst (λ z. z < 2 ^ 64) (sym d.thirty) b.1)

    abbrev back : ℕ → ℕ
    back y = (y + (2 ^ 64 - w.distance)) % 2 ^ 64

    abbrev Lowered : State → Type 0
    Lowered u = Added u × (reg u SPARE ≡ back (reg u TEMPORARY))

    lowered_lasts : Lasts w bound price Lowered
    lowered_lasts u v b d = (added_lasts u v b.0 d, d.last ∙ b.1 ∙ ap back (sym d.thirty))

    -- a slip of the mirrored store is a change behind it
    mirror_slides :
        IsSteady w.reached s 1 → Slides w bound price (With w bound price (1 + few) (IntoHolding w x (step s) TEMPORARY up (mirrored_store i ∷ rest))) (With w bound price few (Into w x (step s) rest))
    mirror_slides st m u d j v known sl c =
        let b = d.0 in
        let h = d.1 in
        let twin = ins i.kind 0 TEMPORARY (pair i.rs2) i.imm in
        slip_elim w twin u v (Stopped slip_steps v ⊎ ((v ≡ step u) ⊎ With w bound price few (Into w x (step s) rest) (m + price) v))
        (λ y e is. ⊎_elim (λ z. absurd (cc)) (λ z. absurd (cc)) e)
        (λ e. absurd (cc))
        (λ dis.
        ⊎_elim
        (λ o. absurd (c.quiet 1 (omega arith) (subst (λ y. IsOver y.outcome) (sym (one_run u)) o)))
        (λ q. inr (inr (into_lasts w bound price x (step s) rest (step u) v q dis, omega (arith, h))))
        (mirrors w x i s rest fit so has (steady_calm w.reached s st) k (step s) u b.0.0 b.0.1 b.1))
        (λ e. ⊎_elim (λ z. absurd (cc)) (λ y. ⊎_elim (λ z. absurd (cc)) (λ z. absurd (cc)) y) e)
        (subst (λ z. Slip w z u v) (sym (same_word w u.pc twin j b.1.0 known)) sl)

    -- both stores
    both_stores : Onto w bound price slip N K s (1 + extra) (IntoHolding w x s TEMPORARY up stores_to)
    both_stores =
        makes x N K s (IntoHolding w x s TEMPORARY up stores_to) Stored (1 + few) (1 + extra) (omega arith) (omega (arith, le))
        (words_last w bound price (Holding w x s TEMPORARY up) stores_to (holding_lasts w bound price x s up)) (λ u q. q.0.0)
        (λ st u b. let one = stores w x i s rest fit so has (steady_calm w.reached s st) k u b.0.0 b.1 in ((one.1.0, ap (λ y. reg y TEMPORARY) one.0 ∙ b.0.1), one.1.1))
        (λ is.
        mends_own w bound price (IsSteady w.reached s) (step s) N K (With w bound price (1 + extra) (IntoHolding w x s TEMPORARY up stores_to))
        (λ m u d. (i, d.0.1.0, inr (inl (k, (subst (λ c. IsLowAs c i) k fit.low).1)))))
        (λ K' h st.
        leads_word w bound price slip _ _ N K' Stored (Into w x (step s) rest) few (1 + few) (omega arith)
        (words_last w bound price (Holding w x (step s) TEMPORARY up) (mirrored_store i ∷ rest) (holding_lasts w bound price x (step s) up))
        (λ u b. mirrors w x i s rest fit so has (steady_calm w.reached s st) k (step s) u b.0.0 b.0.1 b.1)
        (λ is.
        mends w bound price (IsSteady w.reached (step s)) (step (step s)) N K' (With w bound price (1 + few) Stored) (With w bound price few (Into w x (step s) rest)) (mirror_slides st)
        (every_plain w bound price slip (IsSteady w.reached (step s)) (step (step s)) N K' (With w bound price few (Into w x (step s) rest)) (on K' h st)))
        (on K' h st)) where
          Stored : State → Type 0
          Stored = IntoHolding w x (step s) TEMPORARY up (mirrored_store i ∷ rest)

    -- behind the guard of its value
    valued : Onto w bound price slip N K s (cost (guard_value i) + (1 + extra)) (IntoHolding w x s TEMPORARY up (guard_value i ++ stores_to))
    valued =
        leads_keep w bound price slip (but TEMPORARY) false (Holding w x s TEMPORARY up) (holding_keeps w x s TEMPORARY up refl) (holding_lasts w bound price x s up)
        (λ u r y p a e. (half_spare w x s u r y p (and_parts _ _ e).0 a.0, but_other w u.regs TEMPORARY r y e ∙ a.1)) N K s stores_to (1 + extra) both_stores (guard_value i)
        (by (i.rs2 == i.rs1)) where
          by : (b : Bool) → Keep (but TEMPORARY) false (cond b [] (guard i.rs2))
          by true = tt
          by false = keep_guard (but TEMPORARY) false i.rs2

    -- the guard of its address: x30 below 2^64, and x31 by it
    abbrev adds : Ins
    adds = ins Add TEMPORARY (pair i.rs1) DISTANCE (pos 0)

    abbrev subs : Ins
    subs = ins Sub SPARE TEMPORARY DISTANCE (pos 0)

    sums : (u : State) (p : ℕ) → Half w x s u → Added (moved (set_reg TEMPORARY (result Add adds u) u.regs) p u)
    sums u p a =
        let v = result Add adds u in
        let long = a.standing.flagged.regs in
        let is : v ≡ (reg u (pair i.rs1) + reg u DISTANCE) % 2 ^ 64 = add_result u TEMPORARY (pair i.rs1) DISTANCE (reg u (pair i.rs1)) (reg u DISTANCE) _ refl refl refl in
        let same : slice_index (set_reg TEMPORARY v u.regs) TEMPORARY ≡ v = slice_index-set_reg_same u.regs TEMPORARY v (omega arith) (omega (arith, long)) in
        (half_spare w x s u TEMPORARY v p refl a, omega (arith, same, is))

    lowers : (u : State) (p : ℕ) → Added u → Lowered (moved (set_reg SPARE (result Sub subs u) u.regs) p u)
    lowers u p a =
        let v = result Sub subs u in
        let long = a.0.standing.flagged.regs in
        let other : slice_index (set_reg SPARE v u.regs) TEMPORARY ≡ reg u TEMPORARY = slice_index-set_reg_other u.regs SPARE v TEMPORARY (λ e. absurd (omega (arith, e))) in (
          (half_spare w x s u SPARE v p refl a.0, subst (λ z. z < 2 ^ 64) (sym other) a.1),
          slice_index-set_reg_same u.regs SPARE v (omega arith) (omega (arith, long))
              ∙ sub_result u SPARE TEMPORARY DISTANCE (reg u TEMPORARY) w.distance (back (reg u TEMPORARY)) refl a.0.distance refl ∙ ap back (sym other),
        )

    -- behind its comparison x30 has the address of the original in the other half
    raised : (u : State) → Lowered u → reg u i.rs1 ≡ reg u SPARE → reg u TEMPORARY ≡ up
    raised u b e =
        let l : IsLowAs class.Store i = subst (λ c. IsLowAs c i) k fit.low in
        let top = w.layout.top in
        lift (reg u TEMPORARY) w.distance (reg s i.rs1) (omega (arith, top)) b.0.1 (sym (b.0.0.originals i.rs1 l.1) ∙ e ∙ b.1) where
          lift : (y d r : ℕ) → d < 2 ^ 64 → y < 2 ^ 64 → r ≡ (y + (2 ^ 64 - d)) % 2 ^ 64 → y ≡ (r + d) % 2 ^ 64
          lift y d r h g e = omega (arith, h, g, e)

    abbrev check : List Item
    check = Plain (ins Beq 0 i.rs1 SPARE (pos 8)) ∷ fired_check ∷ guard_value i ++ stores_to

    abbrev minus : List Item
    minus = Plain subs ∷ check

    -- where the run without a slip of the subtraction passes the comparison, x30 is right already
    right : (u : State) → Added u → Reads false w.code w.entry u.pc minus → Calm w u → reg u TEMPORARY ≡ up
    right u a r c =
        let v = result Sub subs u in
        let y = moved (set_reg SPARE v u.regs) (u.pc + 4) u in
        let o = half_over w x s u a.0 in
        let is : step u ≡ y = steps_to w subs u o r.0 refl in
        let b : Lowered y = lowers u (u.pc + 4) a in
        let same : reg y TEMPORARY ≡ reg u TEMPORARY = slice_index-set_reg_other u.regs SPARE v TEMPORARY (λ e. absurd (omega (arith, e))) in
        ⊎_elim
        (λ f.
        let three : run u 3 ≡ step (step y) = run-three u ∙ ap (λ z. step (step z)) is in
        absurd (c.quiet 3 (omega arith) (subst (λ z. IsOver z.outcome) (sym three) (firing_over w (step y) f.0))))
        (λ g. sym same ∙ raised y b g.1)
        (compare_step w y i.rs1 SPARE (half_over w x s y b.0.0) r.1.0 r.1.1.0)

    -- from its first word
    addressed : Onto w bound price slip N K s (3 + (cost (guard_value i) + (1 + extra))) (Into w x s (store_part i ++ rest))
    addressed =
        subst (λ l. Onto w bound price slip N K s (3 + n) (Into w x s (Plain adds ∷ Plain subs ∷ Plain (ins Beq 0 i.rs1 SPARE (pos 8)) ∷ fired_check ∷ l)))
        (sym (append_assoc (guard_value i) (Plain i ∷ mirrored_store i ∷ []) rest))
        (leads_compute w bound price slip S t N K adds (Half w x s) Added minus (2 + n) (3 + n) (omega arith) refl (half_lasts w bound price x s) (λ u a. half_over w x s u a) sums
        (λ is. mends_gives w bound price S t N K adds (Half w x s) Added minus (2 + n) (3 + n) (inl refl) (omega arith) any_sum (every_plain w bound price slip S t N K (With w bound price (2 + n) (Before_words w bound price Added minus)) lowered))
        lowered) where
          n : ℕ
          n = cost (guard_value i) + (1 + extra)

          S : ℕ → Type 0
          S = IsSteady w.reached s

          t : State
          t = step s

          H : State → Type 0
          H = Holding w x s TEMPORARY up

          any_sum : (u : State) (y p : ℕ) → Half w x s u → 14 ≤ TEMPORARY → y < 2 ^ 64 → Calm w u → w.code u.pc ≡ Known adds → Added (moved (set_reg TEMPORARY y u.regs) p u)
          any_sum u y p a h l c known =
              let long = a.standing.flagged.regs in
              let same : slice_index (set_reg TEMPORARY y u.regs) TEMPORARY ≡ y = slice_index-set_reg_same u.regs TEMPORARY y (omega arith) (omega (arith, long)) in
              (half_spare w x s u TEMPORARY y p refl a, omega (arith, same, l))

          -- behind any difference
          held : EveryOf w bound price false S t N K (With w bound price (1 + n) (Before_words w bound price H check))
          held =
              leads_compare w bound price false N K s i.rs1 SPARE H H (guard_value i ++ stores_to) n (1 + n) (omega arith) (holding_lasts w bound price x s up) (λ u b. half_over w x s u b.0)
              (λ u p b e. (half_moved w x s u p b.0, b.1))
              (every_plain w bound price slip S t N K (With w bound price n (Before_words w bound price H (guard_value i ++ stores_to))) valued)

          slides : Slides w bound price (With w bound price (2 + n) (Before_words w bound price Added minus)) (With w bound price (1 + n) (Before_words w bound price H check))
          slides m u d j v known sl c =
              let h = d.1 in
              let g = slip_gives w subs u v (inl refl) (subst (λ z. Slip w z u v) (sym (same_word w u.pc subs j d.0.1.0 known)) sl) in
              let other : slice_index (set_reg SPARE g.1.0 u.regs) TEMPORARY ≡ reg u TEMPORARY = slice_index-set_reg_other u.regs SPARE g.1.0 TEMPORARY (λ e. absurd (omega (arith, e))) in
              inr (inr (subst (Before_words w bound price H check) (sym g.1.2) ((half_spare w x s u SPARE g.1.0 (u.pc + 4) refl d.0.0.0, other ∙ right u d.0.0 d.0.1 c), d.0.1.1), omega (arith, h)))

          lowered : Onto w bound price slip N K s (2 + n) (Before_words w bound price Added minus)
          lowered =
              leads_compute w bound price slip S t N K subs Added Lowered check (1 + n) (2 + n) (omega arith) refl added_lasts (λ u a. half_over w x s u a.0) lowers
              (λ is. mends w bound price S t N K (With w bound price (2 + n) (Before_words w bound price Added minus)) (With w bound price (1 + n) (Before_words w bound price H check)) slides held)
              (leads_compare w bound price slip N K s i.rs1 SPARE Lowered H (guard_value i ++ stores_to) n (1 + n) (omega arith) lowered_lasts (λ u b. half_over w x s u b.0.0)
              (λ u p b e. (half_moved w x s u p b.0.0, raised u b e))
              valued)

  -- ---- enough steps
  -- for all that stands there; or n instructions stand there, and the first gives the bound anew
  abbrev Enough : ℕ → ℕ → ℕ → Type 0
  Enough n need many = (need ≤ many) ⊎ ((1 ≤ n) × (e : ℕ) × (5 + e ≤ many) × (need ≤ e + bound))

  enough_as : (n n' need need' many : ℕ) → (1 ≤ n → 1 ≤ n') → need' ≤ need → Enough n need many → Enough n' need' many
  enough_as n n' need need' many h g e = ⊎_elim (λ a. inl (omega (arith, a, g))) (λ b. inr (h b.0, b.1, b.2, let z = b.3 in omega (arith, z, g))) e

  -- the original part of an instruction without a store
  bare_ready :
      (x : ℕ) (i : Ins) (s : State) (rest : List Item) (N K few many : ℕ) → Enough 1 (cost (original i s.pc) + few) many → FitsPiece i → Sourced w s → w.source s.pc ≡ Known i → Bare i
      → Onward N K few s (Into w x (step s) rest) → Onto w bound price slip N K s many (Into w x s (original i s.pc ++ rest))
  bare_ready x i s rest N K few many enough fit so has bare on =
      let n = cost (original i s.pc) in
      let two = original_few i s.pc bare in
      let by : (e : ℕ) → few ≤ e + bound → n + e ≤ many → Onto w bound price slip N K s many (Into w x s (original i s.pc ++ rest)) =
      λ e le h. leads_more w bound price slip N K s (Into w x s (original i s.pc ++ rest)) (n + e) many h (original_leads x i s rest N K few e le fit so has on bare) in
      ⊎_elim (λ h. by few (omega arith) h) (λ b. let h = b.2 in let g = b.3 in by b.1 (omega (arith, g)) (omega (arith, two, h))) enough

  -- a store
  store_ready :
      (x : ℕ) (i : Ins) (s : State) (rest : List Item) (N K few many : ℕ) → Enough 1 (cost (store_part i) + few) many → FitsPiece i → Sourced w s → w.source s.pc ≡ Known i
      → class_of i.kind ≡ class.Store → Onward N K few s (Into w x (step s) rest) → Onto w bound price slip N K s many (Into w x s (store_part i ++ rest))
  store_ready x i s rest N K few many enough fit so has k on =
      let n = cost (guard_value i) in
      let one = value_few i in
      let all = store_cost i k in
      let by : (e : ℕ) → 1 + few ≤ e + bound → 3 + (n + (1 + e)) ≤ many → Onto w bound price slip N K s many (Into w x s (store_part i ++ rest)) =
      λ e le h. leads_more w bound price slip N K s (Into w x s (store_part i ++ rest)) (3 + (n + (1 + e))) many h (addressed x i s rest N K few e le fit so has k on) in
      ⊎_elim (λ h. by (1 + few) (omega arith) (omega (arith, h, all))) (λ b. let h = b.2 in let g = b.3 in by b.1 (omega (arith, g, all)) (omega (arith, one, h))) enough

  -- ---- several instructions without a store
  -- their original parts
  originals_ready :
      (x : ℕ) (is : List Ins) (s : State) (rest : List Item) (N K most many : ℕ) → Enough (length is) (cost (each_part original is s.pc) + most) many → AllFit is → AllBare w is → Sourced w s
      → HasAt w.source s.pc is → Follows x N K (length is) most s rest → Onto w bound price slip N K s many (Into w x s (each_part original is s.pc ++ rest))
  unfolding run
  originals_ready x [] s rest N K most many enough f b so h on =
      leads_more w bound price slip N K s (Into w x s rest) most many
      (⊎_elim (λ e. omega (arith, e)) (λ e. absurd (let z = e.0 in omega (arith, z))) enough)
      (on K (omega arith) (steady_none w.reached s so.over.going))
  originals_ready x (i ∷ is) s rest N K most many enough f b so h on =
      let sum = cost_append (original i s.pc) (each_part original is (s.pc + 4)) in
      let few = cost (each_part original is (s.pc + 4)) + most in
      subst (λ l. Onto w bound price slip N K s many (Into w x s l)) (sym (append_assoc (original i s.pc) (each_part original is (s.pc + 4)) rest))
      (bare_ready x i s (each_part original is (s.pc + 4) ++ rest) N K few many
      (enough_as (suc (length is)) 1 _ (cost (original i s.pc) + few) many (λ one. omega arith) (omega (arith, sum)) enough) f.0 so h.0 b.0
      (λ K' le st.
      let k = next_of w s i is f.0 so h (steady_calm w.reached s st) in
      subst (λ p. Onto w bound price slip N K' (step s) (cost (each_part original is p) + most) (Into w x (step s) (each_part original is p ++ rest))) k.pc
      (originals_ready x is (step s) rest N K' most (cost (each_part original is (step s).pc) + most) (inl (omega arith)) f.1 b.1 k.sourced k.has
      (λ K'' le' st'. on K'' (omega (arith, le, le')) (steady_first w.reached s (length is) st st')))))

  -- both parts
  both_ready :
      (other : Bool) (x : ℕ) (is : List Ins) (s : State) (rest : List Item) (N K most many : ℕ) → Enough (length is) (cost (both_parts other is s.pc) + most) many → AllFit is → AllBare w is
      → Sourced w s → HasAt w.source s.pc is → Follows x N K (length is) most s rest → Onto w bound price slip N K s many (Into w x s (both_parts other is s.pc ++ rest))
  both_ready other x is s rest N K most many enough f b so h on =
      let mirrors = each_part (mirror_of other) is s.pc in
      let sum = cost_append (each_part original is s.pc) mirrors in
      subst (λ l. Onto w bound price slip N K s many (Into w x s l)) (sym (append_assoc (each_part original is s.pc) mirrors rest))
      (originals_ready x is s (mirrors ++ rest) N K (cost mirrors + most) many
      (enough_as (length is) (length is) _ (cost (each_part original is s.pc) + (cost mirrors + most)) many (λ one. one) (omega (arith, sum)) enough) f b so h
      (λ K' le st. half_leads w bound price slip mirrors (mirrors_keep w other is s.pc f b) N K' x (run s (length is)) (run s (length is)) rest most (on K' le st)))

  -- ---- a piece
  -- steps before a store that are enough for what stands before it, and for what begins with it
  split_enough :
      (begun is : List Ins) (front need many : ℕ) → (length begun ≡ 0 → front ≡ 0) → Enough (length begun + suc (length is)) (front + need) many
      → (mid : ℕ) × Enough (length begun) (front + mid) many × Enough 1 need mid
  split_enough [] is front need many none enough =
      let z = none refl in
      (many, inl (omega (arith, z)), enough_as _ 1 (front + need) need many (λ one. omega arith) (omega arith) enough)
  split_enough (j ∷ begun) is front need many none enough =
      (need, enough_as _ (suc (length begun)) (front + need) (front + need) many (λ one. omega arith) (omega arith) enough, inl (omega arith))

  no_parts : (other : Bool) (is : List Ins) (p : ℕ) → length is ≡ 0 → cost (both_parts other is p) ≡ 0
  no_parts other [] p e = refl
  no_parts other (i ∷ is) p e = absurd (omega (arith, e))

  -- with some before them that do not store
  with_ready :
      (other : Bool) (x : ℕ) (is begun : List Ins) (s : State) (rest : List Item) (N K most many : ℕ)
      → Enough (length begun + length is) (cost (parts_with other begun s.pc is) + most) many → AllFit (begun ++ is) → AllBare w begun → Sourced w s → HasAt w.source s.pc (begun ++ is)
      → Follows x N K (length begun + length is) most s rest → Onto w bound price slip N K s many (Into w x s (parts_with other begun s.pc is ++ rest))
  with_ready other x [] begun s rest N K most many enough f b so h on =
      let none : length begun + 0 ≡ length begun = omega arith in
      both_ready other x begun s rest N K most many (subst (λ n. Enough n (cost (both_parts other begun s.pc) + most) many) none enough)
      (fit_front w begun [] f).0 b so (has_front w.source s.pc begun [] h) (subst (λ n. Follows x N K n most s rest) none on)
  with_ready other x (i ∷ is) begun s rest N K most many enough f b so h on =
      by (is_store (class_of i.kind)) refl enough
      (λ t L. with_ready other x is [] t rest N L most (cost (parts_with other [] t.pc is) + most) (inl (omega arith)))
      (with_ready other x is (begun ++ i ∷ []) s rest N K most many) where
        n : ℕ
        n = length begun

        front : List Item
        front = both_parts other begun s.pc

        behind : List Item
        behind = parts_with other [] (s.pc + 4 * n + 4) is

        -- the steps from the store on
        need : ℕ
        need = cost (store_part i) + (cost behind + most)

        Again : Type 0
        Again =
            (t : State) (L : ℕ) → AllFit is → Unit {0} → Sourced w t → HasAt w.source t.pc is → Follows x N L (length {A = Ins} [] + length is) most t rest
            → Onto w bound price slip N L t (cost (parts_with other [] t.pc is) + most) (Into w x t (parts_with other [] t.pc is ++ rest))

        -- what follows a store: the steps of the first n instructions, of the store and of those behind it
        joins : (L : ℕ) → L + 1 + n ≤ K → IsSteady w.reached s n → IsSteady w.reached (run s n) 1 → Follows x N L (length {A = Ins} [] + length is) most (step (run s n)) rest
        joins L le st st1 K' h st2 =
            let t = run s n in
            let none : length {A = Ins} [] + length is ≡ length is = omega arith in
            let ends : run s (n + suc (length is)) ≡ run (step t) (length {A = Ins} [] + length is) =
            run-more s n (suc (length is)) ∙ run-step t (length is) ∙ ap (run (step t)) (sym none) in
            subst (λ z. Onto w bound price slip N K' z most (Into w x z rest)) ends
            (on K' (omega (arith, le, h)) (steady_join w.reached s n (suc (length is)) st (steady_first w.reached t (length is) st1 (subst (IsSteady w.reached (step t)) none st2))))

        -- a store
        on_store :
            class_of i.kind ≡ class.Store → Again → Enough (n + suc (length is)) (cost front + need) many
            → Onto w bound price slip N K s many (Into w x s (front ++ (store_part i ++ (behind ++ rest))))
        on_store k again enough =
            let split = split_enough begun is (cost front) need many (no_parts other begun s.pc) enough in
            let fits = fit_front w begun (i ∷ is) f in
            both_ready other x begun s (store_part i ++ (behind ++ rest)) N K split.0 many split.1 fits.0 b so (has_front w.source s.pc begun (i ∷ is) h)
            (λ K1 le st.
            let t = run s n in
            let p = source_run w begun n s (omega arith) fits.0 so (has_front w.source s.pc begun (i ∷ is) h) st.no_trap in
            let has : HasAt w.source t.pc (i ∷ is) = subst (λ a. HasAt w.source a (i ∷ is)) (sym p.pc) (has_rest w.source s.pc begun (i ∷ is) h) in
            store_ready x i t (behind ++ rest) N K1 (cost behind + most) split.0 split.2 fits.1.0 p.sourced has.0 k
            (λ K2 le1 st1.
            let k2 = next_of w t i is fits.1.0 p.sourced has (steady_calm w.reached t st1) in
            let there : (step t).pc ≡ s.pc + 4 * n + 4 = k2.pc ∙ ap (λ z. z + 4) p.pc in
            subst (λ a. Onto w bound price slip N K2 (step t) (cost (parts_with other [] a is) + most) (Into w x (step t) (parts_with other [] a is ++ rest))) there
            (again (step t) K2 fits.1.1 tt k2.sourced k2.has (joins K2 (omega (arith, le, le1)) st st1))))

        by :
            (c : Bool) → is_store (class_of i.kind) ≡ c
            → Enough (n + suc (length is)) (cost (cond c (front ++ (store_part i ++ behind)) (parts_with other (begun ++ i ∷ []) s.pc is)) + most) many → Again
            → (Enough (length (begun ++ i ∷ []) + length is) (cost (parts_with other (begun ++ i ∷ []) s.pc is) + most) many → AllFit ((begun ++ i ∷ []) ++ is) → AllBare w (begun ++ i ∷ [])
            → Sourced w s → HasAt w.source s.pc ((begun ++ i ∷ []) ++ is) → Follows x N K (length (begun ++ i ∷ []) + length is) most s rest
            → Onto w bound price slip N K s many (Into w x s (parts_with other (begun ++ i ∷ []) s.pc is ++ rest)))
            → Onto w bound price slip N K s many (Into w x s (cond c (front ++ (store_part i ++ behind)) (parts_with other (begun ++ i ∷ []) s.pc is) ++ rest))
        by true e enough again push =
            let one = cost_append front (store_part i ++ behind) in
            let two = cost_append (store_part i) behind in
            subst (λ l. Onto w bound price slip N K s many (Into w x s l)) (sym (append_assoc front (store_part i ++ behind) rest ∙ ap (λ l. front ++ l) (append_assoc (store_part i) behind rest)))
            (on_store (is_store_class (class_of i.kind) e) again (enough_as _ (n + suc (length is)) _ (cost front + need) many (λ some. some) (omega (arith, one, two)) enough))
        by false e enough again push =
            let pushed = append_assoc begun (i ∷ []) is in
            let sum = length-append begun (i ∷ []) in
            let count : n + suc (length is) ≡ length (begun ++ i ∷ []) + length is = omega (arith, sum) in
            push (subst (λ m. Enough m (cost (parts_with other (begun ++ i ∷ []) s.pc is) + most) many) count enough)
            (subst AllFit (sym pushed) f) (bare_push w begun i b (bare_of i e)) so (subst (HasAt w.source s.pc) (sym pushed) h)
            (subst (λ m. Follows x N K m most s rest) count on)

  -- before its first instruction five steps and `e` are enough, since the instruction gives the bound anew
  pub piece_leads :
      (other : Bool) (x : ℕ) (is : List Ins) (s : State) (rest : List Item) (N K most e : ℕ) → 1 ≤ length is → AllFit is → Sourced w s → HasAt w.source s.pc is
      → cost (piece other is s.pc) + most ≤ e + bound → Follows x N K (length is) most s rest → Onto w bound price slip N K s (5 + e) (Into w x s (piece other is s.pc ++ rest))
  piece_leads other x is s rest N K most e some fit so h le on =
      let none : length is ≡ length {A = Ins} [] + length is = omega arith in
      with_ready other x is [] s rest N K most (5 + e) (inr (omega (arith, some), e, omega arith, le)) fit tt so h (subst (λ n. Follows x N K n most s rest) none on)

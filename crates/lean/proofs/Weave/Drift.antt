-- Words that keep x14, x15 and the signature and go on, or skip a word: the run gets behind them all, or is over.
use Rattle.std.proofs.Common.{◌≡◌, ℕ, zero, suc, ◌+◌, ◌*◌, ◌%◌, ◌^◌, ◌≤◌, ◌⊎◌, inl, inr, Bool, true, false, cond, not, List, [], ◌∷◌, ◌++◌, length, refl, sym, ap, ◌∙◌, subst, arith}
use Rattle.std.specs.Prelude.{◌==◌, ◌&&◌, slice_index}
use Rattle.std.proofs.lemmas.Bool.{ne_eqb, false≢true}
use Rattle.rv_isa.specs.declared.class.Class.TheVariants as class
use Rattle.machine.specs.declared.outcome.Cause.{Cause}
use Rattle.machine.specs.declared.outcome.Cause.TheVariants as cause
use Rattle.machine.specs.Table.{ins, Ins}
use Rattle.qed_model.specs.Promise.Kept.{is_trapped}
use Rattle.qed_model.specs.Weave.Forms.{mirror_of}
use Rattle.qed_model.specs.Weave.Placed.{sum_of_sizes}
use Rattle.qed_model.specs.Weave.Lean.{cost, check_distance, guard_value, mirrored_store}
use Rattle.qed_model.specs.Weave.LeanCode.{is_store, store_part, both_parts, parts_with, piece}
use Rattle.qed_model.specs.Weave.Sequences.{Reads, guard, guards_of, links, original, original_as, each_part, LAST_ORIGINAL, PAIR_DISTANCE, DISTANCE, CURSOR, SIGNATURE, TEMPORARY, pair}
use Rattle.machine.specs.Operands.{is_auipc}
use Rattle.weave_core.specs.Blocks.{IsLowAs, FitsPiece, AllFit}
use Rattle.weave_core.specs.World.{World, Item, Plain, Constant, Going, grants, number, put, width_of, loaded, State, reg, moved, stored, trapped, place, result, next_pc, execute, Known, next, step, target, Class, class_of, set_reg}
use Rattle.lean.specs.Strayed.{IsOver}
use Rattle.lean.proofs.Weave.Piece.{store_class}
pub use Rattle.lean.proofs.Weave.Carry.{keeps, keeps_as, Keep, keep_append, keep_guard, keep_guards, keep_guards_of, keep_way, keep_distance, keep_mirror, size_cost, Carried, carry, carry_from, Comes, comes_none, comes_over, comes_one, comes_more, comes_behind, comes_on}
pub use Rattle.lean.proofs.Weave.Carry.{auipc_is, IsBodyWord, body_computes, body_loads, body_stores, body_fences, body_word, operates_class, jumped_to, pc_four, Standing, standing_step, one_run, WeaveIn, go_walk, go_most, branch_passed, step-break, sets_compute, writes, writes_out, writes_long, standing_run, flagged_moved, standing_at, sized_step, sets_equal, sign_walk, step-class, Over, known_at, run-more, over_moved, difference, run-none, each_kind, slice_index-set_reg_other, slice_index-set_reg_same, slice_index-set_reg_zero, length-set_reg}

-- ---- the words
-- not x14, x15 or x16
abbrev pub is_other : ℕ → Bool
is_other r = not (r == 14) && (not (r == 15) && not (r == 16))

abbrev pub drifts : Ins → Bool
drifts i = keeps is_other true i

abbrev pub Drifts : List Item → Type 0
Drifts xs = Keep is_other true xs

pub drifts_append : (xs ys : List Item) → Drifts xs → Drifts ys → Drifts (xs ++ ys)
drifts_append xs ys h k = keep_append is_other true xs ys h k

-- a register below x14, or a pair
other_low : (r : ℕ) → r ≤ LAST_ORIGINAL → is_other r ≡ true
other_low r h = rw (ne_eqb r 14 (λ e. absurd (omega (arith, h, e))), ne_eqb r 15 (λ e. absurd (omega (arith, h, e))), ne_eqb r 16 (λ e. absurd (omega (arith, h, e)))) refl

other_pair : (r : ℕ) → is_other (pair r) ≡ true
other_pair zero = refl
other_pair (suc r) = rw (ne_eqb (suc r + PAIR_DISTANCE) 14 (λ e. absurd (omega (arith, e))), ne_eqb (suc r + PAIR_DISTANCE) 15 (λ e. absurd (omega (arith, e))), ne_eqb (suc r + PAIR_DISTANCE) 16 (λ e. absurd (omega (arith, e)))) refl

pub drifts_links : (i : Ins) (at : ℕ) → i.rd ≤ LAST_ORIGINAL → Drifts (links i at)
drifts_links i at h = by (i.rd == 0) where
  by : (b : Bool) → Drifts (cond b [] (Constant i.rd ((at + 4) % 2 ^ 64) ∷ Constant (pair i.rd) ((at + 4) % 2 ^ 64) ∷ []))
  by true = tt
  by false = (other_low i.rd h, (other_pair i.rd, tt))

-- ---- the parts of a piece
writes_as : (i : Ins) (k : Class) → class_of i.kind ≡ k → keeps_as is_other true k i ≡ true → drifts i ≡ true
writes_as i k e d = subst (λ c. keeps_as is_other true c i ≡ true) (sym e) d

one : (i : Ins) → drifts i ≡ true → Drifts (Plain i ∷ [])
one i d = (inl d, tt)

drifts_original : (i : Ins) (at : ℕ) → FitsPiece i → Drifts (original i at)
drifts_original i at f = by (is_auipc i.kind) refl where
  body : IsBodyWord i → Drifts (original_as (class_of i.kind) i at)
  body (body_computes k) = let l : IsLowAs class.Compute i = subst (λ c. IsLowAs c i) k f.low in rw k (one i (writes_as i class.Compute k (other_low i.rd l.0)))
  body (body_loads k) = let l : IsLowAs class.Load i = subst (λ c. IsLowAs c i) k f.low in rw k (drifts_append (guard i.rs1) (Plain i ∷ []) (keep_guard is_other true i.rs1) (one i (writes_as i class.Load k (other_low i.rd l.0))))
  body (body_stores k) = rw k (drifts_append (guards_of i) (Plain i ∷ []) (keep_guards_of is_other true i) (one i (writes_as i class.Store k refl)))
  body (body_fences k) = rw k (one i (writes_as i class.Fence k refl))

  by : (b : Bool) → is_auipc i.kind ≡ b → Drifts (cond b (Constant i.rd (target i at) ∷ []) (original_as (class_of i.kind) i at))
  by true e = let l : IsLowAs class.Compute i = subst (λ c. IsLowAs (class_of c) i) (auipc_is i.kind e) f.low in (other_low i.rd l.0, tt)
  by false e = body (body_word i f)

drifts_mirror : (other : Bool) (i : Ins) (at : ℕ) → FitsPiece i → Drifts (mirror_of other i at)
drifts_mirror other i at f = keep_mirror is_other true other_pair refl refl other i at f (λ k. refl)

drifts_each : (part : Ins → ℕ → List Item) → ((i : Ins) (at : ℕ) → FitsPiece i → Drifts (part i at)) → (is : List Ins) (at : ℕ) → AllFit is → Drifts (each_part part is at)
drifts_each part h [] at f = tt
drifts_each part h (i ∷ is) at f = drifts_append (part i at) (each_part part is (at + 4)) (h i at f.0) (drifts_each part h is (at + 4) f.1)

drifts_both : (other : Bool) (is : List Ins) (at : ℕ) → AllFit is → Drifts (both_parts other is at)
drifts_both other is at f = drifts_append (each_part original is at) (each_part (mirror_of other) is at) (drifts_each original drifts_original is at f) (drifts_each (mirror_of other) (drifts_mirror other) is at f)

drifts_store : (i : Ins) → class_of i.kind ≡ class.Store → Drifts (store_part i)
drifts_store i k =
    let stores : drifts (ins i.kind 0 TEMPORARY (pair i.rs2) i.imm) ≡ true = subst (λ c. keeps_as is_other true c (ins i.kind 0 TEMPORARY (pair i.rs2) i.imm) ≡ true) (sym k) refl in
    (inl refl, (inl refl, (inr (refl, refl, tt), (inl refl, drifts_append (guard_value i) (Plain i ∷ mirrored_store i ∷ []) (by (i.rs2 == i.rs1)) (inl (writes_as i class.Store k refl), (inl stores, tt)))))) where
      by : (b : Bool) → Drifts (cond b [] (guard i.rs2))
      by true = tt
      by false = keep_guard is_other true i.rs2

fit_push : (is : List Ins) (i : Ins) → AllFit is → FitsPiece i → AllFit (is ++ i ∷ [])
fit_push [] i f g = (g, tt)
fit_push (j ∷ is) i f g = (f.0, fit_push is i f.1 g)

drifts_with : (other : Bool) (is begun : List Ins) (at : ℕ) → AllFit begun → AllFit is → Drifts (parts_with other begun at is)
drifts_with other [] begun at f g = drifts_both other begun at f
drifts_with other (i ∷ is) begun at f g = by (is_store (class_of i.kind)) refl (drifts_with other is [] (at + 4 * length begun + 4) tt g.1) (drifts_with other is (begun ++ i ∷ []) at (fit_push begun i f g.0) g.1) where
  by :
      (b : Bool) → is_store (class_of i.kind) ≡ b → Drifts (parts_with other [] (at + 4 * length begun + 4) is) → Drifts (parts_with other (begun ++ i ∷ []) at is)
      → Drifts (cond b (both_parts other begun at ++ (store_part i ++ parts_with other [] (at + 4 * length begun + 4) is)) (parts_with other (begun ++ i ∷ []) at is))
  by true e rest more = drifts_append (both_parts other begun at) (store_part i ++ parts_with other [] (at + 4 * length begun + 4) is) (drifts_both other begun at f) (drifts_append (store_part i) (parts_with other [] (at + 4 * length begun + 4) is) (drifts_store i (store_class (class_of i.kind) e)) rest)
  by false e rest more = more

pub drifts_piece : (other : Bool) (is : List Ins) (at : ℕ) → AllFit is → Drifts (piece other is at)
drifts_piece other is at f = drifts_with other is [] at tt f

-- ---- parts of leaves
pub drifts_distance : (d : ℕ) → Drifts (check_distance d)
drifts_distance d = keep_distance is_other true other_pair refl refl d

module _ (w : World) where
  -- a state that goes on, over the code, with a signature and numbers in x15 and x14
  pub record Drifting (x : ℕ × ℕ × ℕ) (u : State) : Type 0 where
    pub going : u.outcome ≡ Going
    pub standing : Standing w.code w.output u
    pub sign : reg u SIGNATURE ≡ x.0
    pub cursor : reg u CURSOR ≡ x.1
    pub distance : reg u DISTANCE ≡ x.2

  -- before such words
  abbrev pub Before : ℕ × ℕ × ℕ → List Item → State → Type 0
  Before sign xs y = Drifting sign y × Reads false w.code w.entry y.pc xs

  pub over_of : (sign : ℕ × ℕ × ℕ) (u : State) → Drifting sign u → Over w.code u
  over_of sign u a = record { going = a.going; code = a.standing.code }

  -- ---- one word
  -- to other registers, at a pc
  goes_to :
      (sign : ℕ × ℕ × ℕ) (u : State) (i : Ins) (regs : List ℕ) → Drifting sign u → w.code u.pc ≡ Known i → step u ≡ moved regs (next_pc u) u
      → (slice_index regs 14 ≡ reg u DISTANCE) × (slice_index regs 15 ≡ reg u CURSOR) × (slice_index regs 16 ≡ reg u SIGNATURE)
      → Drifting sign (step u) × ((step u).pc ≡ u.pc + 4)
  goes_to sign u i regs a h e kept =
      (record { going = ap (λ s. s.outcome) e ∙ a.going; standing = standing_step w.code w.output w.output_fixed u a.standing; sign = ap (λ s. reg s SIGNATURE) e ∙ kept.2 ∙ a.sign; cursor = ap (λ s. reg s CURSOR) e ∙ kept.1 ∙ a.cursor; distance = ap (λ s. reg s DISTANCE) e ∙ kept.0 ∙ a.distance }, ap (λ s. s.pc) e ∙ pc_four w u i h)

  word_step : (sign : ℕ × ℕ × ℕ) (u : State) (i : Ins) → Drifting sign u → w.code u.pc ≡ Known i → drifts i ≡ true → IsOver (step u).outcome ⊎ (Drifting sign (step u) × ((step u).pc ≡ u.pc + 4))
  unfolding execute
  word_step sign u i a h d = by (class_of i.kind) refl d where
    known : next u ≡ Known i
    known = known_at w.code u i (over_of sign u a) h

    does : (k : Class) → class_of i.kind ≡ k → step u ≡ execute k i u
    does k e = step-class u i k a.going known e

    apart : (q : ℕ) → is_other q ≡ false → is_other i.rd ≡ true → q ≡ i.rd → ⊥
    apart q z n e = false≢true (sym z ∙ subst (λ r. is_other r ≡ true) (sym e) n)

    -- none is changed
    kept :
        (v : ℕ) → is_other i.rd ≡ true
        → (slice_index (set_reg i.rd v u.regs) 14 ≡ reg u DISTANCE) × (slice_index (set_reg i.rd v u.regs) 15 ≡ reg u CURSOR) × (slice_index (set_reg i.rd v u.regs) 16 ≡ reg u SIGNATURE)
    kept v n = (slice_index-set_reg_other u.regs i.rd v 14 (apart 14 refl n), slice_index-set_reg_other u.regs i.rd v 15 (apart 15 refl n), slice_index-set_reg_other u.regs i.rd v 16 (apart 16 refl n))

    loads : (b : Bool) (v : ℕ) (c : Cause) → is_other i.rd ≡ true → step u ≡ cond b (moved (set_reg i.rd v u.regs) (next_pc u) u) (trapped c u) → IsOver (step u).outcome ⊎ (Drifting sign (step u) × ((step u).pc ≡ u.pc + 4))
    loads true v c n e = inr (goes_to sign u i (set_reg i.rd v u.regs) a h e (kept v n))
    loads false v c n e = inl (inr (ap (λ s. is_trapped s.outcome) e))

    stores : (b : Bool) (n v : ℕ) (c : Cause) → step u ≡ cond b (stored (put u.memory (place i u) n v) (next_pc u) u) (trapped c u) → IsOver (step u).outcome ⊎ (Drifting sign (step u) × ((step u).pc ≡ u.pc + 4))
    stores true n v c e = inr (record { going = ap (λ s. s.outcome) e ∙ a.going; standing = standing_step w.code w.output w.output_fixed u a.standing; sign = ap (λ s. reg s SIGNATURE) e ∙ a.sign; cursor = ap (λ s. reg s CURSOR) e ∙ a.cursor; distance = ap (λ s. reg s DISTANCE) e ∙ a.distance }, ap (λ s. s.pc) e ∙ pc_four w u i h)
    stores false n v c e = inl (inr (ap (λ s. is_trapped s.outcome) e))

    by : (k : Class) → class_of i.kind ≡ k → keeps_as is_other true k i ≡ true → IsOver (step u).outcome ⊎ (Drifting sign (step u) × ((step u).pc ≡ u.pc + 4))
    by class.Compute e d = inr (goes_to sign u i (set_reg i.rd (result i.kind i u) u.regs) a h (does class.Compute e) (kept (result i.kind i u) d))
    by class.Load e d = loads (grants (λ f. f.read) u.memory (place i u) (width_of i.kind)) (loaded i.kind (number u.memory (place i u) (width_of i.kind))) (cause.Load (place i u)) d (does class.Load e)
    by class.Store e d = stores (grants (λ f. f.write) u.memory (place i u) (width_of i.kind)) (width_of i.kind) (reg u i.rs2) (cause.Store (place i u)) (does class.Store e)
    by class.Fence e d = inr (goes_to sign u i u.regs a h (does class.Fence e) (refl, refl, refl))
    by class.Break e d = inl (inl (ap (λ s. s.outcome) (does class.Break e)))
    by k e d = absurd (cc)

  -- ---- the laws
  drift_keeps : (x : ℕ × ℕ × ℕ) → Carried w is_other true (Drifting x)
  drift_keeps x = record {
    over = λ u a. over_of x u a;
    word = λ u i a h d. word_step x u i a h d;
    goes = λ u p a. record { going = a.going; standing = record { code = a.standing.code; flagged = flagged_moved w.output u p a.standing.flagged }; sign = a.sign; cursor = a.cursor; distance = a.distance };
  }

  pub drift : (xs : List Item) → Drifts xs → (x : ℕ × ℕ × ℕ) (u : State) (rest : List Item) → Drifting x u → Reads false w.code w.entry u.pc (xs ++ rest) → Comes (Before x rest) u (cost xs)
  drift xs d x u rest a r = carry w is_other true (Drifting x) (drift_keeps x) xs d u rest a r

  -- from any word of them, or behind them
  pub drift_from :
      (xs : List Item) → Drifts xs → (k p : ℕ) (x : ℕ × ℕ × ℕ) (u : State) (rest : List Item) → 4 * k ≤ sum_of_sizes false xs → Drifting x u → u.pc ≡ p + 4 * k → Reads false w.code w.entry p (xs ++ rest)
      → Comes (Before x rest) u (cost xs)
  drift_from xs d k p x u rest h a at r = carry_from w is_other true (Drifting x) (drift_keeps x) xs d k p u rest h a at r

-- What words do if the original half alone has the input's values, whatever else the state has.
use Rattle.std.proofs.Common.{◌≡◌, ℕ, zero, suc, ◌+◌, ◌*◌, ◌^◌, ◌<◌, ◌≤◌, ◌⊎◌, inl, inr, ⊎_elim, Bool, true, false, cond, not, List, length, is_some, refl, sym, ap, ◌∙◌, subst, arith}
use Rattle.std.specs.Prelude.{◌==◌, ◌&&◌, ◌||◌, nat_le, slice_index}
use Rattle.std.proofs.lemmas.Bool.{and_parts, or_cases, eqb-true, eq-eqb, leb-true, cases_eq, false≢true, not-true, and_from, or_right, le-leb, ne_eqb}
use Rattle.rv_isa.specs.declared.class.Class.TheVariants as class
use Rattle.machine.specs.declared.outcome.Cause.TheVariants as cause
use Rattle.machine.specs.declared.outcome.Cause.{Cause}
use Rattle.machine.specs.Table.{Ins}
use Rattle.qed_model.specs.Promise.Kept.{is_trapped}
use Rattle.qed_model.specs.Weave.Sequences.{Reads, LAST_ORIGINAL, DISTANCE, SIGNATURE, pair}
use Rattle.weave_core.specs.Rows.{Sourced}
use Rattle.weave_core.specs.World.{World, Item, Going, get, byte_at, grants, number, width_of, loaded, State, reg, set_reg, moved, trapped, place, result, next_pc, execute, Known, step, Class, class_of}
use Rattle.lean.specs.Strayed.{IsOver}
use Rattle.lean.proofs.Weave.Carry.{keeps, keeps_as, Carried, slice_index-set_reg_other, slice_index-set_reg_same, slice_index-set_reg_zero, length-set_reg, step-class, Over, known_at, pc_four, Standing}

-- ---- registers
-- x0, x15, and x17 to x31
abbrev pub is_spare : ℕ → Bool
is_spare r = (r == 0) || (nat_le 15 r && not (r == 16))

pub spare_apart : (d q : ℕ) → is_spare d ≡ true → 1 ≤ q → (q ≤ 14) ⊎ (q ≡ 16) → q ≡ d → ⊥
spare_apart d q e one low same =
    ⊎_elim
    (λ z. let n = eqb-true d 0 z in omega (arith, one, same, n))
    (λ h.
    let x = and_parts _ _ h in
    let above = leb-true 15 d x.0 in
    ⊎_elim (λ l. omega (arith, l, same, above)) (λ s. false≢true (sym (not-true (d == 16) x.1) ∙ ap (λ n. n == 16) (sym same ∙ s))) low)
    (or_cases (d == 0) _ e)

-- a write of such a register leaves the others
pub spare_out : (l : List ℕ) (d v q : ℕ) → is_spare d ≡ true → (q ≤ 14) ⊎ (q ≡ 16) → slice_index (set_reg d v l) q ≡ slice_index l q
spare_out l d v q e low =
    ⊎_elim
    (λ z. rw z (slice_index-set_reg_zero l d v))
    (λ nz. slice_index-set_reg_other l d v q (λ same. spare_apart d q e (omega (arith, nz)) low same))
    (cases_eq q 0)

-- pairs are among them
pub spare_pair : (r : ℕ) → is_spare (pair r) ≡ true
spare_pair zero = refl
spare_pair (suc r) = or_right (suc r + 16 == 0) _ (and_from _ _ (le-leb 15 (suc r + 16) (omega arith)) (ap not (ne_eqb (suc r + 16) 16 (λ e. absurd (omega (arith, e))))))

-- a register set in two lists
pub set_alike : (us ss : List ℕ) (r v q : ℕ) → length us ≡ 32 → length ss ≡ 32 → r < 32 → slice_index us q ≡ slice_index ss q → slice_index (set_reg r v us) q ≡ slice_index (set_reg r v ss) q
set_alike us ss zero v q lu ls h e = e
set_alike us ss (suc k) v q lu ls h e =
    ⊎_elim
    (λ same. ap (slice_index (set_reg (suc k) v us)) same ∙ slice_index-set_reg_same us (suc k) v (omega arith) (omega (arith, lu, h)) ∙ sym (ap (slice_index (set_reg (suc k) v ss)) same ∙ slice_index-set_reg_same ss (suc k) v (omega arith) (omega (arith, ls, h))))
    (λ ne. slice_index-set_reg_other us (suc k) v q ne ∙ e ∙ sym (slice_index-set_reg_other ss (suc k) v q ne))
    (cases_eq q (suc k))

-- such registers but one
abbrev pub but : ℕ → ℕ → Bool
but r d = is_spare d && not (d == r)

module _ (w : World) where
  -- u goes on over the code, with a signature; x14 and the original half are those of the input's state s
  pub record Half (x : ℕ) (s u : State) : Type 0 where
    pub going : u.outcome ≡ Going
    pub standing : Standing w.code w.output u
    pub sourced : Sourced w s
    pub sign : reg u SIGNATURE ≡ x
    pub distance : reg u DISTANCE ≡ w.distance
    pub originals : (r : ℕ) → r ≤ LAST_ORIGINAL → reg u r ≡ reg s r
    pub bytes : (q : ℕ) → is_some (get w.input q) ≡ true → byte_at u.memory q ≡ byte_at s.memory q
    -- the table and the new code
    pub fixed : (q : ℕ) → w.base + 2 * w.distance ≤ q → q < 2 ^ 64 → get u.memory q ≡ get w.output q

  -- and some items stand next
  abbrev pub Into : ℕ → State → List Item → State → Type 0
  Into x s rest y = Half x s y × Reads false w.code w.entry y.pc rest

  pub half_over : (x : ℕ) (s u : State) → Half x s u → Over w.code u
  half_over x s u a = record { going = a.going; code = a.standing.code }

  -- other registers from x15 on
  pub half_regs : (x z : ℕ) (s u : State) (regs : List ℕ) (p : ℕ) → Half x s u → length regs ≡ 32 → ((q : ℕ) → q ≤ 14 → slice_index regs q ≡ reg u q) → slice_index regs 16 ≡ z → Half z s (moved regs p u)
  half_regs x z s u regs p a long same sign = record {
    going = a.going;
    standing = record { code = a.standing.code; flagged = record { flags = a.standing.flagged.flags; regs = long; zero_reg = same 0 (omega arith) ∙ a.standing.flagged.zero_reg } };
    sourced = a.sourced;
    sign = sign;
    distance = same 14 (omega arith) ∙ a.distance;
    originals = λ q h. same q (omega (arith, h)) ∙ a.originals q h;
    bytes = a.bytes;
    fixed = a.fixed;
  }

  -- one of them
  pub half_spare : (x : ℕ) (s u : State) (d v p : ℕ) → is_spare d ≡ true → Half x s u → Half x s (moved (set_reg d v u.regs) p u)
  half_spare x s u d v p e a = half_regs x x s u (set_reg d v u.regs) p a (length-set_reg u.regs d v ∙ a.standing.flagged.regs) (λ q h. spare_out u.regs d v q e (inl h)) (spare_out u.regs d v 16 e (inr refl) ∙ a.sign)

  pub half_moved : (x : ℕ) (s u : State) (p : ℕ) → Half x s u → Half x s (moved u.regs p u)
  half_moved x s u p a = half_regs x x s u u.regs p a a.standing.flagged.regs (λ q h. refl) a.sign

  -- an original in both
  pub half_original : (x : ℕ) (s u : State) (r v p p' : ℕ) → r ≤ LAST_ORIGINAL → Half x s u → Sourced w (moved (set_reg r v s.regs) p' s) → Half x (moved (set_reg r v s.regs) p' s) (moved (set_reg r v u.regs) p u)
  half_original x s u r v p p' h a so = record {
    going = a.going;
    standing = record { code = a.standing.code; flagged = record { flags = a.standing.flagged.flags; regs = length-set_reg u.regs r v ∙ a.standing.flagged.regs; zero_reg = slice_index-set_reg_zero u.regs r v ∙ a.standing.flagged.zero_reg } };
    sourced = so;
    sign = slice_index-set_reg_other u.regs r v 16 (λ e. absurd (omega (arith, h, e))) ∙ a.sign;
    distance = slice_index-set_reg_other u.regs r v 14 (λ e. absurd (omega (arith, h, e))) ∙ a.distance;
    originals = λ q l. set_alike u.regs s.regs r v q a.standing.flagged.regs a.sourced.flagged.regs (omega (arith, h)) (a.originals q l);
    bytes = a.bytes;
    fixed = a.fixed;
  }

  -- the input's state at another pc
  pub half_view : (z : ℕ) (s t u : State) (p : ℕ) → Half z s u → t ≡ moved s.regs p s → Sourced w t → Half z t u
  half_view z s t u p h e so = record {
    going = h.going;
    standing = h.standing;
    sourced = so;
    sign = h.sign;
    distance = h.distance;
    originals = λ q m. h.originals q m ∙ sym (ap (λ y. reg y q) e);
    bytes = λ q m. h.bytes q m ∙ sym (ap (λ y. byte_at y.memory q) e);
    fixed = h.fixed;
  }

  -- ---- words that write no register below x15, and not x16
  -- such a word sets one register, or nothing, if the run is not over
  pub record Sets (free : ℕ → Bool) (u : State) : Type 0 where
    pub rd : ℕ
    pub value : ℕ
    pub may : free rd ≡ true
    pub ends : step u ≡ moved (set_reg rd value u.regs) (u.pc + 4) u

  pub spare_step : (free : ℕ → Bool) (u : State) (i : Ins) → free 0 ≡ true → Over w.code u → w.code u.pc ≡ Known i → keeps free false i ≡ true → IsOver (step u).outcome ⊎ Sets free u
  unfolding execute
  spare_step free u i none o h d = by (class_of i.kind) refl d where
    does : (k : Class) → class_of i.kind ≡ k → step u ≡ execute k i u
    does k e = step-class u i k o.going (known_at w.code u i o h) e

    sets : (r v : ℕ) → free r ≡ true → step u ≡ moved (set_reg r v u.regs) (next_pc u) u → Sets free u
    sets r v may e = record { rd = r; value = v; may = may; ends = e ∙ ap (λ p. moved (set_reg r v u.regs) p u) (pc_four w u i h) }

    loads : (b : Bool) (v : ℕ) (c : Cause) → free i.rd ≡ true → step u ≡ cond b (moved (set_reg i.rd v u.regs) (next_pc u) u) (trapped c u) → IsOver (step u).outcome ⊎ Sets free u
    loads true v c may e = inr (sets i.rd v may e)
    loads false v c may e = inl (inr (ap (λ s. is_trapped s.outcome) e))

    by : (k : Class) → class_of i.kind ≡ k → keeps_as free false k i ≡ true → IsOver (step u).outcome ⊎ Sets free u
    by class.Compute e d = inr (sets i.rd (result i.kind i u) d (does class.Compute e))
    by class.Load e d = loads (grants (λ f. f.read) u.memory (place i u) (width_of i.kind)) (loaded i.kind (number u.memory (place i u) (width_of i.kind))) (cause.Load (place i u)) d (does class.Load e)
    by class.Store e d = absurd (cc)
    by class.Fence e d = inr (sets 0 0 none (does class.Fence e))
    by class.Break e d = inl (inl (ap (λ s. s.outcome) (does class.Break e)))
    by k e d = absurd (cc)

  pub half_keeps : (x : ℕ) (s : State) → Carried w is_spare false (Half x s)
  half_keeps x s = record {
    over = λ u a. half_over x s u a;
    word = λ u i a h d. ⊎_elim (λ o. inl o) (λ z. inr (subst (Half x s) (sym z.ends) (half_spare x s u z.rd z.value (u.pc + 4) z.may a), ap (λ y. y.pc) z.ends)) (spare_step is_spare u i refl (half_over x s u a) h d);
    goes = λ u p a. half_moved x s u p a;
  }

  -- with a number in one of these registers, which the words do not write
  abbrev pub Holding : ℕ → State → ℕ → ℕ → State → Type 0
  Holding x s r n u = Half x s u × (reg u r ≡ n)

  pub holding_set : (x : ℕ) (s u : State) (r v n p : ℕ) → is_spare r ≡ true → 1 ≤ r → r < 32 → Half x s u → v ≡ n → Holding x s r n (moved (set_reg r v u.regs) p u)
  holding_set x s u r v n p spare one few h e =
      let long = h.standing.flagged.regs in
      (half_spare x s u r v p spare h, slice_index-set_reg_same u.regs r v one (omega (arith, long, few)) ∙ e)

  pub but_other : (l : List ℕ) (r d v : ℕ) → but r d ≡ true → slice_index (set_reg d v l) r ≡ slice_index l r
  but_other l r d v e = slice_index-set_reg_other l d v r (λ same. false≢true (sym (not-true (d == r) (and_parts _ _ e).1) ∙ ap (λ n. n == r) (sym same) ∙ same_is r)) where
    same_is : (n : ℕ) → (n == n) ≡ true
    same_is n = eq-eqb n n refl

  pub holding_keeps : (x : ℕ) (s : State) (r n : ℕ) → but r 0 ≡ true → Carried w (but r) false (Holding x s r n)
  holding_keeps x s r n some = record {
    over = λ u a. half_over x s u a.0;
    word = λ u i a h d.
        ⊎_elim
        (λ o. inl o)
        (λ z. inr (subst (Holding x s r n) (sym z.ends) (half_spare x s u z.rd z.value (u.pc + 4) (and_parts _ _ z.may).0 a.0, but_other u.regs r z.rd z.value z.may ∙ a.1), ap (λ y. y.pc) z.ends))
        (spare_step (but r) u i some (half_over x s u a.0) h d);
    goes = λ u p a. (half_moved x s u p a.0, a.1);
  }

  abbrev pub IntoHolding : ℕ → State → ℕ → ℕ → List Item → State → Type 0
  IntoHolding x s r n rest y = Holding x s r n y × Reads false w.code w.entry y.pc rest

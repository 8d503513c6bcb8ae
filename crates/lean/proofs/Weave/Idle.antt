-- A run with changes of x30 and x31 while their values wait for no use: at each step it is the run without these
-- changes but for such values.
use Rattle.std.proofs.Common.{◌≡◌, ℕ, zero, suc, ◌+◌, ◌*◌, ◌%◌, ◌^◌, ◌/◌, ◌<◌, ◌≤◌, ◌⊎◌, inl, inr, ⊎_elim, Bool, true, false, cond, List, [], ◌∷◌, length, Option, Some, refl, sym, ap, ◌∙◌, subst, arith}
use Rattle.std.specs.Prelude.{◌==◌, slice_index, is_some}
use Rattle.std.proofs.lemmas.Bool.{cases_eq, cases_lt, false≢true, eqb-true}
use Rattle.std.proofs.lemmas.List.{get_or_past}
use Rattle.rv_isa.specs.declared.class.Class.{Class}
use Rattle.rv_isa.specs.declared.class.Class.TheVariants as class
use Rattle.rv_isa.specs.Ins.{named_register}
use Rattle.rv_isa.specs.Kind.{writes_rd, reads_rs1, reads_rs2}
use Rattle.rv_isa.specs.Operation.{ReadsRegister}
use Rattle.machine.specs.declared.outcome.Cause.TheVariants as cause
use Rattle.machine.specs.declared.outcome.Outcome.{Outcome}
use Rattle.machine.specs.declared.outcome.Outcome.TheVariants.{Going, Ended, Fired, Trapped}
use Rattle.machine.specs.declared.place.Place.{Place}
use Rattle.machine.specs.declared.place.Place.TheVariants.{Reg, Word}
use Rattle.machine.specs.Memory.{grants, number, put, get, byte_at}
use Rattle.machine.specs.Program.{Program}
use Rattle.machine.specs.Struck.{struck}
use Rattle.machine.specs.Table.{Format, R, row_of, Lui, Auipc}
use Rattle.machine.specs.Values.{width_of, loaded, holds}
use Rattle.machine.specs.Step.{State, Ins, Kind, Fetched, Refused, Unknown, Known, class_of, reg, set_reg, moved, stopped, stored, trapped, jumped, operand, computed_value, result, imm, target, place, next_pc, execute, act, next, step, step_at}
use Rattle.qed_model.specs.declared.change.Change.{Change}
use Rattle.qed_model.specs.Promise.Changed.{changed, changed_as, with_changes, changed_run}
use Rattle.qed_model.specs.Promise.Kept.{after_input, Halves}
use Rattle.lean.specs.Strayed.{IsOver}
use Rattle.lean.specs.Undisturbed.{IsDuplicate, AllDuplicate, Sets, IsIdle, IsTemporary, IsIdlePlace, AllMay, FollowsTo}
use Rattle.lean.proofs.Weave.Carry.{known_same, slice_index-set_reg_other, slice_index-set_reg_same, length-set_reg, step-class, each_kind}
use Rattle.lean.proofs.Weave.Trail.{changed_stopped, step_stopped}

-- a field that is read names its register, but for x0
names : (b : Bool) (r : ℕ) → b ≡ true → 0 < r → named_register b r ≡ Some r
names true zero e h = absurd (omega (arith, h))
names true (suc r) e h = refl
names false r e h = absurd (false≢true e)

-- ---- what an instruction computes
-- only format R has a register as second operand
abbrev is_R : Format → Bool
is_R R = true
is_R _ = false

implied : (a b : Bool) → cond a b true ≡ true → a ≡ true → b ≡ true
implied true b e h = e
implied false b e h = absurd (cc)

reads_second : (k : Kind) → is_R (row_of k).format ≡ true → reads_rs2 class.Compute k ≡ true
reads_second k = implied _ _ (each_kind (λ k. cond (is_R (row_of k).format) (reads_rs2 class.Compute k) true) refl k)

operand_same : (f : Format) (i : Ins) (us vs : List ℕ) → (is_R f ≡ true → slice_index vs i.rs2 ≡ slice_index us i.rs2) → operand f i vs ≡ operand f i us
operand_same R i us vs h = h refl
operand_same f i us vs h = refl

-- it goes by the registers that are read
computed_same :
    (k : Kind) (i : Ins) (pc : ℕ) (us vs : List ℕ) → (reads_rs1 class.Compute k ≡ true → slice_index vs i.rs1 ≡ slice_index us i.rs1) → operand (row_of k).format i vs ≡ operand (row_of k).format i us
    → computed_value k i pc vs ≡ computed_value k i pc us
unfolding computed_value
computed_same Lui i pc us vs a b = refl
computed_same Auipc i pc us vs a b = refl
computed_same k i pc us vs a b = rw (a refl, b) refl

-- a register that is set to one number in two lists
set_both : (us vs : List ℕ) (d x : ℕ) → length vs ≡ length us → slice_index vs 0 ≡ slice_index us 0 → slice_index (set_reg d x vs) d ≡ slice_index (set_reg d x us) d
set_both us vs zero x count z = z
set_both us vs (suc d) x count z =
    ⊎_elim
    (λ inside. slice_index-set_reg_same vs (suc d) x (omega arith) (omega (arith, inside, count)) ∙ sym (slice_index-set_reg_same us (suc d) x (omega arith) inside))
    (λ past. get_or_past (set_reg (suc d) x vs) (suc d) 0 (let e = length-set_reg vs (suc d) x in omega (arith, past, count, e)) ∙ sym (get_or_past (set_reg (suc d) x us) (suc d) 0 (let e = length-set_reg us (suc d) x in omega (arith, past, e))))
    (cases_lt (suc d) (length us))

-- what stands at the pc is done
step-act : (s : State) (f : Fetched) → s.outcome ≡ Going → next s ≡ f → step s ≡ act f s
unfolding step
step-act s f g n = ap (λ o. step_at o s) g ∙ ap (λ f. act f s) n

-- x30 and x31 are none of the others
temporary_high : (r : ℕ) → IsTemporary r → 30 ≤ r
temporary_high r t = ⊎_elim (λ e. omega (arith, e)) (λ e. omega (arith, e)) t

module _ (states : ℕ → State) where
  -- ---- registers that wait for no use
  -- at an instruction that does not set it, it waits for none one step later too
  idle_next : (r n : ℕ) → (Sets r (states n) → ⊥) → IsIdle states r n → IsIdle states r (suc n)
  idle_next r n unset h k i going known reads =
      let e : suc n + k ≡ n + suc k = omega arith in
      let s = h (suc k) i (subst (λ m. (states m).outcome ≡ Going) e going) (subst (λ m. next (states m) ≡ Known i) e known) reads in
      behind s.0 s.1 s.2 where
        behind : (j : ℕ) → j < suc k → Sets r (states (n + j)) → (j : ℕ) × (j < k) × Sets r (states (suc n + j))
        behind zero l t = let e : n + 0 ≡ n = omega arith in absurd (unset (subst (λ m. Sets r (states m)) e t))
        behind (suc j) l t = let e : n + suc j ≡ suc n + j = omega arith in (j, omega (arith, l), subst (λ m. Sets r (states m)) e t)

  -- nor does it in a run that has stopped
  idle_stopped : (r n : ℕ) → ((k : ℕ) → (states (n + k)).outcome ≡ Going → ⊥) → IsIdle states r n
  idle_stopped r n over k i going known reads = absurd (over k going)

  -- what the next instruction reads waits for a use
  idle_unread : (r n : ℕ) (i : Ins) → (states n).outcome ≡ Going → next (states n) ≡ Known i → ReadsRegister i r → IsIdle states r n → ⊥
  idle_unread r n i going known reads h =
      let e : n ≡ n + 0 = omega arith in
      let s = h 0 i (subst (λ m. (states m).outcome ≡ Going) e going) (subst (λ m. next (states m) ≡ Known i) e known) reads in
      let few = s.1 in
      absurd (omega (arith, few))

  -- ---- states that are one but for these
  record Like (n : ℕ) (u v : State) : Type 0 where
    same : v ≡ moved v.regs u.pc u
    count : length v.regs ≡ length u.regs
    regs : (r : ℕ) → (reg v r ≡ reg u r) ⊎ (IsTemporary r × IsIdle states r n)

  like_self : (n : ℕ) (u : State) → Like n u u
  like_self n u = record { same = refl; count = refl; regs = λ r. inl refl }

  -- other registers are equal
  like_low : (n r : ℕ) (u v : State) → Like n u v → r < 30 → reg v r ≡ reg u r
  like_low n r u v l h = ⊎_elim (λ e. e) (λ w. let t = temporary_high r w.0 in absurd (omega (arith, h, t))) (l.regs r)

  -- the other state may be written by its registers
  like_by : (n : ℕ) (u v : State) (P : State → Type 0) → Like n u v → (Like n u (moved v.regs u.pc u) → P (moved v.regs u.pc u)) → P v
  like_by n u v P l h = subst P (sym l.same) (h (record { same = refl; count = l.count; regs = l.regs }))

  -- both get the same number in a register
  like_set :
      (n m d x p : ℕ) (u v : State) → Like n u v → ((r : ℕ) → (r ≡ d → ⊥) → IsIdle states r n → IsIdle states r m)
      → Like m (moved (set_reg d x u.regs) p u) (moved (set_reg d x v.regs) p v)
  like_set n m d x p u v l on = record {
    same = ap (moved (set_reg d x v.regs) p) l.same;
    count = length-set_reg v.regs d x ∙ l.count ∙ sym (length-set_reg u.regs d x);
    regs = λ r.
        ⊎_elim
        (λ e. inl (subst (λ k. slice_index (set_reg d x v.regs) k ≡ slice_index (set_reg d x u.regs) k) (sym e) (set_both u.regs v.regs d x l.count (like_low n 0 u v l (omega arith)))))
        (λ ne. ⊎_elim (λ e. inl (slice_index-set_reg_other v.regs d x r ne ∙ e ∙ sym (slice_index-set_reg_other u.regs d x r ne))) (λ w. inr (w.0, on r ne w.1)) (l.regs r))
        (cases_eq r d);
  }

  -- both keep their registers
  like_kept :
      (n m : ℕ) (u v s t : State) → Like n u v → s.regs ≡ u.regs → t.regs ≡ v.regs → t ≡ moved t.regs s.pc s → ((r : ℕ) → IsIdle states r n → IsIdle states r m)
      → Like m s t
  like_kept n m u v s t l a b same on = record {
    same = same;
    count = ap length b ∙ l.count ∙ sym (ap length a);
    regs = λ r. ⊎_elim (λ e. inl (ap (λ z. slice_index z r) b ∙ e ∙ sym (ap (λ z. slice_index z r) a))) (λ w. inr (w.0, on r w.1)) (l.regs r);
  }

  -- ---- one step
  module _ (n : ℕ) (vs : List ℕ) (l : Like n (states n) (moved vs (states n).pc (states n))) (over : (t : State) → step (states n) ≡ t → (t.outcome ≡ Going → ⊥) → (k : ℕ) → (states (suc n + k)).outcome ≡ Going → ⊥) where
    abbrev u : State
    u = states n

    abbrev v : State
    v = moved vs u.pc u

    -- both stop
    like_stops : (o : Outcome) → step u ≡ stopped o u → (o ≡ Going → ⊥) → Like (suc n) (stopped o u) (stopped o v)
    like_stops o s ends = like_kept n (suc n) u v (stopped o u) (stopped o v) l refl refl refl (λ r h. idle_stopped r (suc n) (over (stopped o u) s ends))

    -- both go by one test
    by_test : (b : Bool) (s t s' t' : State) → step u ≡ cond b s s' → (step u ≡ s → Like (suc n) s t) → (step u ≡ s' → Like (suc n) s' t') → Like (suc n) (cond b s s') (cond b t t')
    by_test true s t s' t' e a b = a e
    by_test false s t s' t' e a b = b e

    -- at an instruction
    module _ (i : Ins) (going : u.outcome ≡ Going) (known : next u ≡ Known i) where
      -- a register that it reads
      read_same : (r : ℕ) → (0 < r → ReadsRegister i r) → slice_index vs r ≡ reg u r
      read_same r h = ⊎_elim (λ e. e) (λ w. absurd (idle_unread r n i going known (h (let t = temporary_high r w.0 in omega (arith, t))) w.1)) (l.regs r)

      first_same : (c : Class) → class_of i.kind ≡ c → reads_rs1 c i.kind ≡ true → slice_index vs i.rs1 ≡ reg u i.rs1
      first_same c k e = read_same i.rs1 (λ p. inl (names _ i.rs1 (ap (λ z. reads_rs1 z i.kind) k ∙ e) p))

      second_same : (c : Class) → class_of i.kind ≡ c → reads_rs2 c i.kind ≡ true → slice_index vs i.rs2 ≡ reg u i.rs2
      second_same c k e = read_same i.rs2 (λ p. inr (names _ i.rs2 (ap (λ z. reads_rs2 z i.kind) k ∙ e) p))

      -- it sets no register but rd
      sets_rd : (r : ℕ) → Sets r u → (r ≡ i.rd) × (writes_rd (class_of i.kind) ≡ true)
      sets_rd r s = let e : s.ins ≡ i = known_same (sym s.known ∙ known) in (sym s.rd ∙ ap (λ z. z.rd) e, ap (λ z. writes_rd (class_of z.kind)) (sym e) ∙ s.sets)

      -- it gives rd a number
      like_gives : (x p : ℕ) → Like (suc n) (moved (set_reg i.rd x u.regs) p u) (moved (set_reg i.rd x vs) p v)
      like_gives x p = like_set n (suc n) i.rd x p u v l (λ r ne. idle_next r n (λ s. ne (sets_rd r s).0))

      -- it sets none
      like_goes : (c : Class) → class_of i.kind ≡ c → writes_rd c ≡ false → (s t : State) → s.regs ≡ u.regs → t.regs ≡ vs → t ≡ moved t.regs s.pc s → Like (suc n) s t
      like_goes c k free s t a b same = like_kept n (suc n) u v s t l a b same (λ r. idle_next r n (λ z. false≢true (sym free ∙ ap writes_rd (sym k) ∙ (sets_rd r z).1)))

      -- it jumps
      like_jumps : (us ts : List ℕ) (p : ℕ) → step u ≡ jumped us p u → Like (suc n) (moved us p u) (moved ts p v) → Like (suc n) (jumped us p u) (jumped ts p v)
      unfolding jumped
      like_jumps us ts p s h = by_test (p % 4 == 0) (moved us p u) (moved ts p v) (trapped (cause.Target p) u) (trapped (cause.Target p) v) s (λ e. h) (λ e. like_stops (Trapped (cause.Target p) u.pc) e (λ z. absurd (cc)))

      computes : class_of i.kind ≡ class.Compute → Like (suc n) (execute class.Compute i u) (execute class.Compute i v)
      unfolding execute
      computes k =
          let same : result i.kind i v ≡ result i.kind i u =
          computed_same i.kind i u.pc u.regs vs (first_same class.Compute k) (operand_same (row_of i.kind).format i u.regs vs (λ e. second_same class.Compute k (reads_second i.kind e))) in
          subst (λ x. Like (suc n) (moved (set_reg i.rd (result i.kind i u) u.regs) (next_pc u) u) (moved (set_reg i.rd x vs) (next_pc u) v)) (sym same) (like_gives (result i.kind i u) (next_pc u))

      loads : class_of i.kind ≡ class.Load → Like (suc n) (execute class.Load i u) (execute class.Load i v)
      unfolding execute
      loads k =
          let a = place i u in
          let x = loaded i.kind (number u.memory a (width_of i.kind)) in
          let e = first_same class.Load k refl in
          rw e
          (by_test (grants (λ f. f.read) u.memory a (width_of i.kind)) (moved (set_reg i.rd x u.regs) (next_pc u) u) (moved (set_reg i.rd x vs) (next_pc u) v) (trapped (cause.Load a) u) (trapped (cause.Load a) v)
          (step-class u i class.Load going known k) (λ s. like_gives x (next_pc u)) (λ s. like_stops (Trapped (cause.Load a) u.pc) s (λ z. absurd (cc))))

      stores : class_of i.kind ≡ class.Store → Like (suc n) (execute class.Store i u) (execute class.Store i v)
      unfolding execute
      stores k =
          let a = place i u in
          let m = put u.memory a (width_of i.kind) (reg u i.rs2) in
          rw (first_same class.Store k refl, second_same class.Store k refl)
          (by_test (grants (λ f. f.write) u.memory a (width_of i.kind)) (stored m (next_pc u) u) (stored m (next_pc u) v) (trapped (cause.Store a) u) (trapped (cause.Store a) v)
          (step-class u i class.Store going known k) (λ s. like_goes class.Store k refl (stored m (next_pc u) u) (stored m (next_pc u) v) refl refl refl) (λ s. like_stops (Trapped (cause.Store a) u.pc) s (λ z. absurd (cc))))

      branches : class_of i.kind ≡ class.Branch → Like (suc n) (execute class.Branch i u) (execute class.Branch i v)
      unfolding execute
      branches k =
          rw (first_same class.Branch k refl, second_same class.Branch k refl)
          (by_test (holds i.kind (reg u i.rs1) (reg u i.rs2)) (jumped u.regs (target i u.pc) u) (jumped vs (target i u.pc) v) (moved u.regs (next_pc u) u) (moved vs (next_pc u) v)
          (step-class u i class.Branch going known k)
          (λ s. like_jumps u.regs vs (target i u.pc) s (like_goes class.Branch k refl (moved u.regs (target i u.pc) u) (moved vs (target i u.pc) v) refl refl refl))
          (λ s. like_goes class.Branch k refl (moved u.regs (next_pc u) u) (moved vs (next_pc u) v) refl refl refl))

      jumps : class_of i.kind ≡ class.Jump → Like (suc n) (execute class.Jump i u) (execute class.Jump i v)
      unfolding execute
      jumps k = like_jumps (set_reg i.rd (next_pc u) u.regs) (set_reg i.rd (next_pc u) vs) (target i u.pc) (step-class u i class.Jump going known k) (like_gives (next_pc u) (target i u.pc))

      leaps : class_of i.kind ≡ class.JumpReg → Like (suc n) (execute class.JumpReg i u) (execute class.JumpReg i v)
      unfolding execute
      leaps k =
          let p = (reg u i.rs1 + imm i) % 2 ^ 64 / 2 * 2 in
          rw (first_same class.JumpReg k refl)
          (like_jumps (set_reg i.rd (next_pc u) u.regs) (set_reg i.rd (next_pc u) vs) p (step-class u i class.JumpReg going known k) (like_gives (next_pc u) p))

      executes : (c : Class) → class_of i.kind ≡ c → Like (suc n) (execute c i u) (execute c i v)
      unfolding execute
      executes class.Compute k = computes k
      executes class.Fence k = like_goes class.Fence k refl (moved u.regs (next_pc u) u) (moved vs (next_pc u) v) refl refl refl
      executes class.Load k = loads k
      executes class.Store k = stores k
      executes class.Branch k = branches k
      executes class.Jump k = jumps k
      executes class.JumpReg k = leaps k
      executes class.End k = like_stops Ended (step-class u i class.End going known k) (λ z. absurd (cc))
      executes class.Break k = like_stops Fired (step-class u i class.Break going known k) (λ z. absurd (cc))
      executes class.Illegal k = like_stops (Trapped (cause.Word 0) u.pc) (step-class u i class.Illegal going known k) (λ z. absurd (cc))

    acts : (f : Fetched) → u.outcome ≡ Going → next u ≡ f → Like (suc n) (act f u) (act f v)
    acts Refused g e = like_stops (Trapped cause.Fetch u.pc) (step-act u Refused g e) (λ z. absurd (cc))
    acts (Unknown w) g e = like_stops (Trapped (cause.Word w) u.pc) (step-act u (Unknown w) g e) (λ z. absurd (cc))
    acts (Known i) g e = executes i g e (class_of i.kind) refl

    like_literal : Like (suc n) (step u) (step v)
    like_literal = by u.outcome refl where
      stay : (u.outcome ≡ Going → ⊥) → Like (suc n) (step u) (step v)
      stay ends =
          let a = step_stopped u ends in
          let b = step_stopped v ends in
          subst (λ z. Like (suc n) z (step v)) (sym a) (subst (λ z. Like (suc n) u z) (sym b) (like_kept n (suc n) u v u v l refl refl refl (λ r h. idle_stopped r (suc n) (over u a ends))))

      by : (o : Outcome) → u.outcome ≡ o → Like (suc n) (step u) (step v)
      by Going g = subst (λ z. Like (suc n) z (step v)) (sym (step-act u (next u) g refl)) (subst (λ z. Like (suc n) (act (next u) u) z) (sym (step-act v (next u) g refl)) (acts (next u) g refl))
      by Ended e = stay (λ g. let z : Ended ≡ Going = sym e ∙ g in absurd (cc))
      by Fired e = stay (λ g. let z : Fired ≡ Going = sym e ∙ g in absurd (cc))
      by (Trapped c p) e = stay (λ g. let z : Trapped c p ≡ Going = sym e ∙ g in absurd (cc))

  like_step : (n : ℕ) (v : State) → Like n (states n) v → ((t : State) → step (states n) ≡ t → (t.outcome ≡ Going → ⊥) → (k : ℕ) → (states (suc n + k)).outcome ≡ Going → ⊥) → Like (suc n) (step (states n)) (step v)
  like_step n v l over = like_by n (states n) v (λ z. Like (suc n) (step (states n)) (step z)) l (λ h. like_literal n v.regs h over)

  -- ---- one change
  -- a change of both
  like_struck : (n : ℕ) (p : Place) (x : ℕ) (u v : State) → Like n u v → Like n (struck p x u) (struck p x v)
  unfolding struck
  like_struck n (Reg r) x u v l =
      like_by n u v (λ z. Like n (moved (set_reg r x u.regs) u.pc u) (moved (set_reg r x z.regs) z.pc z)) l (λ h. like_set n n r x u.pc u (moved v.regs u.pc u) h (λ q ne i. i))
  like_struck n (Word a) x u v l =
      like_by n u v (λ z. Like n (stored (put u.memory a 8 x) u.pc u) (stored (put z.memory a 8 x) z.pc z)) l
      (λ h. like_kept n n u (moved v.regs u.pc u) (stored (put u.memory a 8 x) u.pc u) (stored (put u.memory a 8 x) u.pc (moved v.regs u.pc u)) h refl refl refl (λ q i. i))

  like_changed : (n : ℕ) (c : Change) (u v : State) → Like n u v → Like n (changed c u) (changed c v)
  like_changed n c u v l = subst (λ o. Like n (changed c u) (changed_as o c v)) (sym (ap (λ z. z.outcome) l.same)) (by u.outcome) where
    by : (o : Outcome) → Like n (changed_as o c u) (changed_as o c v)
    by Going = like_struck n c.place c.value u v l
    by Ended = l
    by Fired = l
    by (Trapped k p) = l

  -- a change of one, of a register that waits for no use
  like_idle : (n : ℕ) (p : Place) (x : ℕ) (u v : State) → IsIdlePlace states n p → Like n u v → Like n (struck p x u) v
  unfolding struck
  like_idle n (Reg r) x u v i l = record {
    same = l.same;
    count = l.count ∙ sym (length-set_reg u.regs r x);
    regs = λ q. ⊎_elim (λ e. inr (subst (λ z. IsTemporary z × IsIdle states z n) (sym e) i)) (λ ne. ⊎_elim (λ e. inl (e ∙ sym (slice_index-set_reg_other u.regs r x q ne))) (λ w. inr w) (l.regs q)) (cases_eq q r);
  }
  like_idle n (Word a) x u v i l = absurd i

  like_one : (n : ℕ) (c : Change) (u v : State) → IsIdlePlace states n c.place → Like n u v → Like n (changed c u) v
  like_one n c u v i l = by u.outcome where
    by : (o : Outcome) → Like n (changed_as o c u) v
    by Going = like_idle n c.place c.value u v i l
    by Ended = l
    by Fired = l
    by (Trapped k p) = l

-- ---- the changes of the duplicate half alone
module _ (g : Program) (base distance : ℕ) (states : ℕ → State) where
  abbrev May : Change → Type 0
  May c = IsDuplicate g base distance c.place ⊎ IsIdlePlace states c.step c.place

  keep : (c : Change) → May c → List Change → List Change
  keep c (inl d) cs = c ∷ cs
  keep c (inr i) cs = cs

  pub of_duplicates : (cs : List Change) → AllMay g base distance states cs → List Change
  of_duplicates [] may = []
  of_duplicates (c ∷ cs) may = keep c may.0 (of_duplicates cs may.1)

  pub all_duplicate : (cs : List Change) (may : AllMay g base distance states cs) → AllDuplicate g base distance (of_duplicates cs may)
  unfolding of_duplicates keep
  all_duplicate [] may = tt
  all_duplicate (c ∷ cs) may = by may.0 (of_duplicates cs may.1) (all_duplicate cs may.1) where
    by : (m : May c) (ds : List Change) → AllDuplicate g base distance ds → AllDuplicate g base distance (keep c m ds)
    by (inl d) ds a = (d, a)
    by (inr i) ds a = a

  pub fewer : (cs : List Change) (may : AllMay g base distance states cs) → length (of_duplicates cs may) ≤ length cs
  unfolding of_duplicates keep
  fewer [] may = omega arith
  fewer (c ∷ cs) may = by may.0 (of_duplicates cs may.1) (fewer cs may.1) where
    by : (m : May c) (ds : List Change) → length ds ≤ length cs → length (keep c m ds) ≤ suc (length cs)
    by (inl d) ds h = omega (arith, h)
    by (inr i) ds h = omega (arith, h)

  -- those of one step
  like_changes : (cs : List Change) (may : AllMay g base distance states cs) (n : ℕ) (u v : State) → Like states n u v → Like states n (with_changes cs n u) (with_changes (of_duplicates cs may) n v)
  unfolding with_changes of_duplicates keep
  like_changes [] may n u v l = l
  like_changes (c ∷ cs) may n u v l = by may.0 (of_duplicates cs may.1) (λ s t k. like_changes cs may.1 n s t k) where
    both : (b : Bool) → Like states n (cond b (changed c u) u) (cond b (changed c v) v)
    both true = like_changed states n c u v l
    both false = l

    one : (b : Bool) → (b ≡ true → IsIdlePlace states n c.place) → Like states n (cond b (changed c u) u) v
    one true i = like_one states n c u v (i refl) l
    one false i = l

    by :
        (m : May c) (ds : List Change) → ((s t : State) → Like states n s t → Like states n (with_changes cs n s) (with_changes ds n t))
        → Like states n (with_changes cs n (cond (c.step == n) (changed c u) u)) (with_changes (keep c m ds) n v)
    by (inl d) ds again = again (cond (c.step == n) (changed c u) u) (cond (c.step == n) (changed c v) v) (both (c.step == n))
    by (inr i) ds again = again (cond (c.step == n) (changed c u) u) v (one (c.step == n) (λ e. subst (λ k. IsIdlePlace states k c.place) (eqb-true c.step n e) i))

-- ---- a run that has stopped
with_stopped : (cs : List Change) (n : ℕ) (u : State) → (u.outcome ≡ Going → ⊥) → with_changes cs n u ≡ u
unfolding with_changes
with_stopped [] n u h = refl
with_stopped (c ∷ cs) n u h = ap (with_changes cs n) (one (c.step == n)) ∙ with_stopped cs n u h where
  one : (b : Bool) → cond b (changed c u) u ≡ u
  one true = changed_stopped u.outcome c u h
  one false = refl

module _ (s : State) (cs : List Change) where
  -- no change follows the step that stops it
  next_stopped : (n : ℕ) → ((step (changed_run s cs n)).outcome ≡ Going → ⊥) → (changed_run s cs (suc n)).outcome ≡ Going → ⊥
  unfolding changed_run
  next_stopped n h g = h (ap (λ z. z.outcome) (sym (with_stopped cs (suc n) (step (changed_run s cs n)) h)) ∙ g)

  stays_stopped : (n k : ℕ) → ((changed_run s cs n).outcome ≡ Going → ⊥) → (changed_run s cs (n + k)).outcome ≡ Going → ⊥
  stays_stopped n zero h g = let e : n + 0 ≡ n = omega arith in h (subst (λ m. (changed_run s cs m).outcome ≡ Going) e g)
  stays_stopped n (suc k) h g =
      let e : n + suc k ≡ suc (n + k) = omega arith in
      let before = stays_stopped n k h in
      next_stopped (n + k) (λ z. before (ap (λ y. y.outcome) (sym (step_stopped (changed_run s cs (n + k)) before)) ∙ z)) (subst (λ m. (changed_run s cs m).outcome ≡ Going) e g)

  -- ---- both runs
  module _ (g : Program) (base distance : ℕ) (may : AllMay g base distance (changed_run s cs) cs) where
    abbrev fewer_changes : List Change
    fewer_changes = of_duplicates g base distance (changed_run s cs) cs may

    like_runs : (n : ℕ) → Like (changed_run s cs) n (changed_run s cs n) (changed_run s fewer_changes n)
    unfolding changed_run
    like_runs zero = like_changes g base distance (changed_run s cs) cs may 0 s s (like_self (changed_run s cs) 0 s)
    like_runs (suc n) =
        like_changes g base distance (changed_run s cs) cs may (suc n) (step (changed_run s cs n)) (step (changed_run s fewer_changes n))
        (like_step (changed_run s cs) n (changed_run s fewer_changes n) (like_runs n) (λ t e ends k. stays_stopped (suc n) k (next_stopped n (λ z. ends (ap (λ y. y.outcome) (sym e) ∙ z)))))

    outcome_same : (n : ℕ) → (changed_run s fewer_changes n).outcome ≡ (changed_run s cs n).outcome
    outcome_same n = ap (λ z. z.outcome) (like_runs n).same

    -- the original half is the same
    halves_same : (f : Program) (t : State) (n : ℕ) → Halves f t (changed_run s fewer_changes n) → Halves f t (changed_run s cs n)
    halves_same f t n h =
        let l = like_runs n in
        let m = ap (λ z. z.memory) l.same in
        record {
          regs = λ r a b. sym (like_low (changed_run s cs) n r (changed_run s cs n) (changed_run s fewer_changes n) l (omega (arith, b))) ∙ h.regs r a b;
          mapped = λ q e. subst (λ z. is_some (get z q) ≡ true) m (h.mapped q e);
          bytes = λ q e. ap (λ z. byte_at z q) (sym m) ∙ h.bytes q e;
        }

    -- so it comes to the input's states if the run with fewer changes does
    pub follows_like : (f : Program) (k few many bound : ℕ) → few ≤ many → FollowsTo f k few bound (changed_run s fewer_changes) → FollowsTo f k many bound (changed_run s cs)
    follows_like f k few many bound le r = record {
      at = r.at;
      grows = r.grows;
      within = λ j h. let a = r.within j h in omega (arith, a, le);
      values = λ j h.
          let e = outcome_same (r.at j) in
          ⊎_elim
          (λ o. inl (subst IsOver e o))
          (λ z. inr (halves_same f (after_input f j) (r.at j) z.0, (λ y. z.1.0 (e ∙ y), λ y. sym e ∙ z.1.1 y)))
          (r.values j h);
    }

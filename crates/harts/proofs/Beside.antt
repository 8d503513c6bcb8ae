-- One hart's step and changes, in a memory that has more than the bytes of its own file.
use Rattle.std.proofs.Common.{◌≡◌, ℕ, ◌+◌, ◌*◌, ◌/◌, ◌%◌, ◌^◌, ◌<◌, ⊎_elim, Bool, true, false, cond, ◌&&◌, List, [], ◌∷◌, Option, Some, None, is_some, refl, sym, ap, ◌∙◌, subst, arith}
use Rattle.std.specs.Prelude.{◌==◌, nat_lt}
use Rattle.std.specs.Option.{option_map}
use Rattle.std.proofs.lemmas.Bool.{false≢true, cases_lt}
use Rattle.rv_isa.specs.declared.class.Class.TheVariants as class
use Rattle.machine.specs.declared.outcome.Cause.{Cause}
use Rattle.machine.specs.declared.outcome.Cause.TheVariants as cause
use Rattle.machine.specs.declared.outcome.Outcome.{Outcome}
use Rattle.machine.specs.declared.outcome.Outcome.TheVariants.{Going, Ended, Fired}
use Rattle.machine.specs.declared.place.Place.{Place}
use Rattle.machine.specs.declared.place.Place.TheVariants.{Reg, Word}
use Rattle.qed_model.specs.declared.change.Change.{Change}
use Rattle.machine.specs.Table.{decode_of, Ins}
use Rattle.machine.specs.Memory.{Flags, Cell, Memory, allows, grants, number, byte_in, put, offset, wrap, byte_of, with_byte, get}
use Rattle.machine.specs.Values.{holds, width_of, loaded}
use Rattle.machine.specs.Step.{State, reg, moved, stopped, stored, trapped, jumped, imm, place, result, next_pc, execute, in_range, Fetched, Refused, Unknown, Known, known_or, fetched_at, act, next, step_at, step, Class, class_of, set_reg}
use Rattle.machine.specs.Struck.{struck}
use Rattle.qed_model.specs.Promise.Changed.{changed, changed_as, with_changes}
use Rattle.machine.specs.Program.{Program}
use Rattle.qed_model.specs.Promise.Kept.{is_mapped, NotTrapped}
use Rattle.harts.specs.Harts.{state_of, hart_of}
use Rattle.harts.specs.Together.{LiesIn, AllLieIn}
use Rattle.machine.proofs.Lemmas.{get-put, get-put_outside, grants_at, grants_from, same_number, wrap_offset, byte_of_cell}
use Rattle.qed_model.proofs.Lemmas.{some_of_allows}

-- the hart of a state with another memory
abbrev pub beside : Memory → State → State
beside m s = state_of (hart_of s) m

-- a memory m has the cells of the file g as s has them; s, a memory of g alone, has no others
pub record Holds (g : Program) (s m : Memory) : Type 0 where
  pub cells : (q : ℕ) → is_mapped g q ≡ true → get m q ≡ get s q
  pub mapped : (q : ℕ) → is_some (get s q) ≡ is_mapped g q

-- v is the hart of t with another memory, which has the cells of g as t has them, and all others as m has them
pub record Does (g : Program) (m : Memory) (t v : State) : Type 0 where
  pub is : v ≡ beside v.memory t
  pub holds : Holds g t.memory v.memory
  pub others : (q : ℕ) → q < 2 ^ 64 → is_mapped g q ≡ false → get v.memory q ≡ get m q

-- ---- cells
-- a byte with another value maps and unmaps nothing
mapped_with : (f : Cell → Cell) (o : Option Cell) → is_some (option_map f o) ≡ is_some o
mapped_with f None = refl
mapped_with f (Some c) = refl

module _ (g : Program) (s m : Memory) (h : Holds g s m) where
  -- a write to both memories
  pub holds_put : (a n x : ℕ) → Holds g (put s a n x) (put m a n x)
  holds_put a n x = record {
    cells = λ q o. get-put m a n x q ∙ ap (option_map (λ c. with_byte (cond (nat_lt (offset a q) n) (byte_of x (offset a q)) c.byte) c)) (h.cells q o) ∙ sym (get-put s a n x q);
    mapped = λ q. ap is_some (get-put s a n x q) ∙ mapped_with _ (get s q) ∙ h.mapped q;
  }

  -- an access granted alone touches only the file's own cells
  pub granted_own : (need : Flags → Bool) (a n : ℕ) → grants need s a n ≡ true → (k : ℕ) → k < n → is_mapped g (wrap (a + k)) ≡ true
  granted_own need a n ok k l = sym (h.mapped (wrap (a + k))) ∙ some_of_allows need (get s (wrap (a + k))) (grants_at need s a n k ok l)

  -- a cell of a granted access is equal in both memories
  granted_cell : (need : Flags → Bool) (a n : ℕ) → grants need s a n ≡ true → (k : ℕ) → k < n → get m (wrap (a + k)) ≡ get s (wrap (a + k))
  granted_cell need a n ok k l = h.cells (wrap (a + k)) (granted_own need a n ok k l)

  -- an access granted alone is granted beside
  pub granted_beside : (need : Flags → Bool) (a n : ℕ) → grants need s a n ≡ true → grants need m a n ≡ true
  granted_beside need a n ok = grants_from need m a n (λ i l. ap (allows need) (granted_cell need a n ok i l) ∙ grants_at need s a n i ok l)

  -- the number read beside is the number read alone
  pub number_beside : (need : Flags → Bool) (a n : ℕ) → grants need s a n ≡ true → number m a n ≡ number s a n
  number_beside need a n ok = same_number m s a n (λ i l. byte_of_cell m (wrap (a + i)) ∙ ap byte_in (granted_cell need a n ok i l) ∙ sym (byte_of_cell s (wrap (a + i))))

  -- an instruction fetched alone is fetched beside
  pub fetched_beside : (ranges : List (ℕ × ℕ)) (a : ℕ) → (fetched_at s ranges a ≡ Refused → ⊥) → fetched_at m ranges a ≡ fetched_at s ranges a
  unfolding fetched_at
  fetched_beside ranges a some = tests (a % 4 == 0) (in_range a ranges) (grants (λ f. f.execute) s a 4) (grants (λ f. f.execute) m a 4) (number s a 4) (number m a 4) (λ ok. (granted_beside (λ f. f.execute) a 4 ok, number_beside (λ f. f.execute) a 4 ok)) some where
    tests : (c r ok ok' : Bool) (x y : ℕ) → (ok ≡ true → (ok' ≡ true) × (y ≡ x)) → (cond (c && (r && ok)) (known_or x (decode_of x)) Refused ≡ Refused → ⊥) → cond (c && (r && ok')) (known_or y (decode_of y)) Refused ≡ cond (c && (r && ok)) (known_or x (decode_of x)) Refused
    tests true true true ok' x y e n = ap (λ b. cond b (known_or y (decode_of y)) Refused) (e refl).0 ∙ ap (λ z. known_or z (decode_of z)) (e refl).1
    tests true true false ok' x y e n = absurd (n refl)
    tests true false ok ok' x y e n = refl
    tests false r ok ok' x y e n = refl

-- a write to the file's own cells leaves the others
pub others_put : (g : Program) (m : Memory) (a n x : ℕ) → a < 2 ^ 64 → ((k : ℕ) → k < n → is_mapped g (wrap (a + k)) ≡ true) → (q : ℕ) → q < 2 ^ 64 → is_mapped g q ≡ false → get (put m a n x) q ≡ get m q
others_put g m a n x la own q lq out =
    get-put_outside m a n x q (⊎_elim (λ l. absurd (false≢true (sym out ∙ subst (λ k. is_mapped g k ≡ true) (wrap_offset a q la lq) (own (offset a q) l)))) (λ l. l) (cases_lt (offset a q) n))

-- ---- the effect on a state, alone and beside the memory
module _ (g : Program) where
  -- the effect on equal states
  does_at : (m : Memory) (t t' v v' : State) → t ≡ t' → v ≡ v' → Does g m t' v' → Does g m t v
  does_at m t t' v v' a b d = subst (λ x. Does g m x v) (sym a) (subst (λ x. Does g m t' x) (sym b) d)

  -- an effect that leaves the memory
  plain : (s t v : State) (m : Memory) → Holds g s.memory m → t.memory ≡ s.memory → v ≡ beside m t → Does g m t v
  plain s t v m h same e = record {
    is = e ∙ ap (λ x. beside x t) (sym (ap (λ x. x.memory) e));
    holds = record {
      cells = λ q o. ap (λ x. get x.memory q) e ∙ h.cells q o ∙ ap (λ x. get x q) (sym same);
      mapped = λ q. ap (λ x. is_some (get x q)) same ∙ h.mapped q;
    };
    others = λ q l o. ap (λ x. get x.memory q) e;
  }

  -- one effect after another
  pub does_then : (f : State → State) (m : Memory) (t v : State) → Does g m t v → ((k : Memory) → Holds g t.memory k → Does g k (f t) (f (beside k t))) → Does g m (f t) (f v)
  does_then f m t v d then =
      let r = then v.memory d.holds in
      does_at m (f t) (f t) (f v) (f (beside v.memory t)) refl (ap f d.is) (record { is = r.is; holds = r.holds; others = λ q l o. r.others q l o ∙ d.others q l o })

  -- either of two states
  cond_beside : (b : Bool) (m : Memory) (x y : State) → cond b (beside m x) (beside m y) ≡ beside m (cond b x y)
  cond_beside true m x y = refl
  cond_beside false m x y = refl

  cond_memory : (b : Bool) (x y : State) (m : Memory) → x.memory ≡ m → y.memory ≡ m → (cond b x y).memory ≡ m
  cond_memory true x y m p q = p
  cond_memory false x y m p q = q

  -- a jump
  jumped_beside : (m : Memory) (regs : List ℕ) (t : ℕ) (s : State) → jumped regs t (beside m s) ≡ beside m (jumped regs t s)
  unfolding jumped
  jumped_beside m regs t s = cond_beside (t % 4 == 0) m (moved regs t s) (trapped (cause.Target t) s)

  jumped_memory : (regs : List ℕ) (t : ℕ) (s : State) → (jumped regs t s).memory ≡ s.memory
  unfolding jumped
  jumped_memory regs t s = cond_memory (t % 4 == 0) (moved regs t s) (trapped (cause.Target t) s) s.memory refl refl

  does_jump : (regs : List ℕ) (t : ℕ) (s : State) (m : Memory) → Holds g s.memory m → Does g m (jumped regs t s) (jumped regs t (beside m s))
  does_jump regs t s m h = plain s (jumped regs t s) (jumped regs t (beside m s)) m h (jumped_memory regs t s) (jumped_beside m regs t s)

  -- a step that does not trap was granted its access
  granted_if : (b : Bool) (x : State) (c : Cause) (s : State) → NotTrapped (cond b x (trapped c s)) → b ≡ true
  granted_if true x c s n = refl
  granted_if false x c s n = absurd (false≢true (sym n))

  -- ---- one instruction
  does_load : (i : Ins) (s : State) (m : Memory) → Holds g s.memory m → NotTrapped (execute class.Load i s) → Does g m (execute class.Load i s) (execute class.Load i (beside m s))
  unfolding execute
  does_load i s m h n =
      let a : ℕ = place i s in
      let w : ℕ = width_of i.kind in
      let x : Memory → State = λ k. moved (set_reg i.rd (loaded i.kind (number k a w)) s.regs) (next_pc s) s in
      let stop : State = trapped (cause.Load a) s in
      let ok : grants (λ f. f.read) s.memory a w ≡ true = granted_if (grants (λ f. f.read) s.memory a w) (x s.memory) (cause.Load a) s n in
      does_at m
      (cond (grants (λ f. f.read) s.memory a w) (x s.memory) stop) (x s.memory)
      (cond (grants (λ f. f.read) m a w) (beside m (x m)) (beside m stop)) (beside m (x m))
      (ap (λ b. cond b (x s.memory) stop) ok)
      (ap (λ b. cond b (beside m (x m)) (beside m stop)) (granted_beside g s.memory m h (λ f. f.read) a w ok))
      (plain s (x s.memory) (beside m (x m)) m h refl (ap (λ z. beside m (moved (set_reg i.rd (loaded i.kind z) s.regs) (next_pc s) s)) (number_beside g s.memory m h (λ f. f.read) a w ok)))

  does_store : (i : Ins) (s : State) (m : Memory) → Holds g s.memory m → NotTrapped (execute class.Store i s) → Does g m (execute class.Store i s) (execute class.Store i (beside m s))
  unfolding execute
  does_store i s m h n =
      let a : ℕ = place i s in
      let w : ℕ = width_of i.kind in
      let x : Memory → State = λ k. stored (put k a w (reg s i.rs2)) (next_pc s) s in
      let stop : State = trapped (cause.Store a) s in
      let ok : grants (λ f. f.write) s.memory a w ≡ true = granted_if (grants (λ f. f.write) s.memory a w) (x s.memory) (cause.Store a) s n in
      does_at m
      (cond (grants (λ f. f.write) s.memory a w) (x s.memory) stop) (x s.memory)
      (cond (grants (λ f. f.write) m a w) (x m) (beside m stop)) (x m)
      (ap (λ b. cond b (x s.memory) stop) ok)
      (ap (λ b. cond b (x m) (beside m stop)) (granted_beside g s.memory m h (λ f. f.write) a w ok))
      (record { is = refl; holds = holds_put g s.memory m h a w (reg s i.rs2); others = others_put g m a w (reg s i.rs2) (omega arith) (granted_own g s.memory m h (λ f. f.write) a w ok) })

  does_class : (k : Class) (i : Ins) (s : State) (m : Memory) → Holds g s.memory m → NotTrapped (execute k i s) → Does g m (execute k i s) (execute k i (beside m s))
  unfolding execute
  does_class class.Compute i s m h n = plain s (moved (set_reg i.rd (result i.kind i s) s.regs) (next_pc s) s) (moved (set_reg i.rd (result i.kind i (beside m s)) s.regs) (next_pc s) (beside m s)) m h refl refl
  does_class class.Fence i s m h n = plain s (moved s.regs (next_pc s) s) (moved s.regs (next_pc s) (beside m s)) m h refl refl
  does_class class.Load i s m h n = does_load i s m h n
  does_class class.Store i s m h n = does_store i s m h n
  does_class class.Branch i s m h n =
      let t : ℕ = (s.pc + imm i) % 2 ^ 64 in
      let b : Bool = holds i.kind (reg s i.rs1) (reg s i.rs2) in
      let on : State = moved s.regs (next_pc s) s in
      plain s (cond b (jumped s.regs t s) on) (cond b (jumped s.regs t (beside m s)) (beside m on)) m h (cond_memory b (jumped s.regs t s) on s.memory (jumped_memory s.regs t s) refl) (ap (λ x. cond b x (beside m on)) (jumped_beside m s.regs t s) ∙ cond_beside b m (jumped s.regs t s) on)
  does_class class.Jump i s m h n = does_jump (set_reg i.rd (next_pc s) s.regs) ((s.pc + imm i) % 2 ^ 64) s m h
  does_class class.JumpReg i s m h n = does_jump (set_reg i.rd (next_pc s) s.regs) ((reg s i.rs1 + imm i) % 2 ^ 64 / 2 * 2) s m h
  does_class class.End i s m h n = plain s (stopped Ended s) (stopped Ended (beside m s)) m h refl refl
  does_class class.Break i s m h n = plain s (stopped Fired s) (stopped Fired (beside m s)) m h refl refl
  does_class class.Illegal i s m h n = plain s (trapped (cause.Word 0) s) (trapped (cause.Word 0) (beside m s)) m h refl refl

  -- what is fetched decides
  does_act : (f : Fetched) (s : State) (m : Memory) → Holds g s.memory m → NotTrapped (act f s) → Does g m (act f s) (act f (beside m s))
  does_act Refused s m h n = plain s (trapped cause.Fetch s) (trapped cause.Fetch (beside m s)) m h refl refl
  does_act (Unknown w) s m h n = plain s (trapped (cause.Word w) s) (trapped (cause.Word w) (beside m s)) m h refl refl
  does_act (Known i) s m h n = does_class (class_of i.kind) i s m h n

  -- the outcome decides
  does_step_at : (o : Outcome) (s : State) (m : Memory) → Holds g s.memory m → NotTrapped (step_at o s) → Does g m (step_at o s) (step_at o (beside m s))
  does_step_at Going s m h n = does_at m (act (next s) s) (act (next s) s) (act (next (beside m s)) (beside m s)) (act (next s) (beside m s)) refl (ap (λ f. act f (beside m s)) (fetched_beside g s.memory m h s.ranges s.pc (λ e. false≢true (sym (subst (λ f. NotTrapped (act f s)) e n))))) (does_act (next s) s m h n)
  does_step_at o s m h n = plain s s (beside m s) m h refl refl

  -- one step that does not trap alone
  pub does_step : (s : State) (m : Memory) → Holds g s.memory m → NotTrapped (step s) → Does g m (step s) (step (beside m s))
  unfolding step
  does_step s m h n = does_step_at s.outcome s m h n

  -- ---- changes
  does_struck : (p : Place) (x : ℕ) (s : State) (m : Memory) → LiesIn g p → Holds g s.memory m → Does g m (struck p x s) (struck p x (beside m s))
  unfolding struck
  does_struck (Reg r) x s m l h = plain s (moved (set_reg r x s.regs) s.pc s) (moved (set_reg r x s.regs) s.pc (beside m s)) m h refl refl
  does_struck (Word a) x s m l h = record { is = refl; holds = holds_put g s.memory m h a 8 x; others = others_put g m a 8 x l.0 l.1 }

  -- a change, by the outcome
  does_changed : (o : Outcome) (c : Change) (s : State) (m : Memory) → LiesIn g c.place → Holds g s.memory m → Does g m (changed_as o c s) (changed_as o c (beside m s))
  does_changed Going c s m l h = does_struck c.place c.value s m l h
  does_changed o c s m l h = plain s s (beside m s) m h refl refl

  -- a change, if its step has come
  does_due : (b : Bool) (c : Change) (s : State) (m : Memory) → LiesIn g c.place → Holds g s.memory m → Does g m (cond b (changed c s) s) (cond b (changed c (beside m s)) (beside m s))
  does_due true c s m l h = does_changed s.outcome c s m l h
  does_due false c s m l h = plain s s (beside m s) m h refl refl

  -- all changes that are due
  pub does_changes : (cs : List Change) (n : ℕ) (s : State) (m : Memory) → AllLieIn g cs → Holds g s.memory m → Does g m (with_changes cs n s) (with_changes cs n (beside m s))
  unfolding with_changes
  does_changes [] n s m l h = plain s s (beside m s) m h refl refl
  does_changes (c ∷ cs) n s m l h = does_then (with_changes cs n) m (cond (c.step == n) (changed c s) s) (cond (c.step == n) (changed c (beside m s)) (beside m s)) (does_due (c.step == n) c s m l.0 h) (λ k e. does_changes cs n (cond (c.step == n) (changed c s) s) k l.1 e)

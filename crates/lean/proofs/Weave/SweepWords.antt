-- The words of the sweep, of the comparison behind it and of the end: a run at them stays there until it is over, and
-- none is the test's own.
use Rattle.std.proofs.Common.{◌≡◌, ℕ, zero, suc, ◌+◌, ◌-◌, ◌*◌, ◌/◌, ◌%◌, ◌^◌, ◌<◌, ◌≤◌, ◌⊎◌, inl, inr, ⊎_elim, Bool, true, false, cond, List, [], ◌∷◌, ◌++◌, refl, sym, ap, ◌∙◌, subst, arith}
use Rattle.std.specs.Prelude.{◌==◌, pos}
use Rattle.rv_isa.specs.declared.class.Class.TheVariants as class
use Rattle.machine.specs.declared.outcome.Cause.{Cause}
use Rattle.machine.specs.declared.outcome.Cause.TheVariants as cause
use Rattle.machine.specs.Table.{ins, Ins, Auipc, Addi, Beq}
use Rattle.machine.specs.Offsets.{distance_between, upper_part, lower_part}
use Rattle.qed_model.specs.Promise.Faults.{WritesOriginal}
use Rattle.qed_model.specs.Weave.Placed.{sum_of_sizes}
use Rattle.qed_model.specs.Weave.Sequences.{Reads, fired_check, guard, guards, compare, sweep, sweep_range, PAIR_DISTANCE}
use Rattle.weave_core.specs.Kinds.{originals}
use Rattle.weave_core.specs.Leaving.{swept_end}
use Rattle.weave_core.specs.World.{World, Item, Mark, Plain, Constant, Go, Going, Ended, Fired, Trapped, grants, number, width_of, loaded, holds, State, reg, moved, jumped, trapped, imm, place, result, target, next_pc, execute, Known, step, run, Class, class_of, set_reg}
use Rattle.lean.proofs.Weave.Carry.{size-append, step-class, Over, known_at, over_moved, pc_four, jumped_to}

-- ---- the words
-- one of the words between two addresses, at p: it writes a register above x13 and goes on to the next, branches to one
-- of them, fires or ends
abbrev StaysAs : Class → ℕ → ℕ → ℕ → Ins → Type 0
StaysAs class.Compute from to p i = (14 ≤ i.rd) × (p + 8 ≤ to)
StaysAs class.Load from to p i = (14 ≤ i.rd) × (p + 8 ≤ to)
StaysAs class.Branch from to p i = (p + 8 ≤ to) × (((imm i ≡ 8) × (p + 12 ≤ to)) ⊎ ((imm i ≡ 2 ^ 64 - 32) × (from + 32 ≤ p)))
StaysAs class.Break from to p i = Unit {0}
StaysAs class.End from to p i = Unit {0}
StaysAs _ from to p i = ⊥

-- it is none of the test's own
alone_as : (k : Class) (from to p : ℕ) (i : Ins) → class_of i.kind ≡ k → StaysAs k from to p i → (WritesOriginal i ⊎ (class_of i.kind ≡ class.Store)) → ⊥
alone_as class.Compute from to p i e s (inl h) = absurd (omega (arith, s.0, h.low))
alone_as class.Load from to p i e s (inl h) = absurd (omega (arith, s.0, h.low))
alone_as class.Compute from to p i e s (inr h) = absurd (cc)
alone_as class.Load from to p i e s (inr h) = absurd (cc)
alone_as class.Branch from to p i e s (inl h) = ⊎_elim (λ c. absurd (cc)) (λ c. absurd (cc)) h.writes
alone_as class.Branch from to p i e s (inr h) = absurd (cc)
alone_as class.Break from to p i e s (inl h) = ⊎_elim (λ c. absurd (cc)) (λ c. absurd (cc)) h.writes
alone_as class.Break from to p i e s (inr h) = absurd (cc)
alone_as class.End from to p i e s (inl h) = ⊎_elim (λ c. absurd (cc)) (λ c. absurd (cc)) h.writes
alone_as class.End from to p i e s (inr h) = absurd (cc)
alone_as k from to p i e s h = absurd s

-- ---- lists of them
module _ (from to : ℕ) where
  -- each item that stands from p on
  abbrev Stays : ℕ → List Item → Type 0
  Stays p [] = Unit {0}
  Stays p (Mark m ∷ xs) = ⊥
  Stays p (Plain i ∷ xs) = StaysAs (class_of i.kind) from to p i × Stays (p + 4) xs
  Stays p (Constant r v ∷ xs) = (14 ≤ r) × (p + 12 ≤ to) × Stays (p + 8) xs
  Stays p (Go t ∷ xs) = ⊥

  stays_append : (p : ℕ) (xs ys : List Item) → Stays p xs → Stays (p + sum_of_sizes false xs) ys → Stays p (xs ++ ys)
  stays_append p [] ys h k = let e : p + 0 ≡ p = omega arith in subst (λ q. Stays q ys) e k
  stays_append p (Mark m ∷ xs) ys h k = absurd h
  stays_append p (Plain i ∷ xs) ys h k = let e : p + (4 + sum_of_sizes false xs) ≡ p + 4 + sum_of_sizes false xs = omega arith in (h.0, stays_append (p + 4) xs ys h.1 (subst (λ q. Stays q ys) e k))
  stays_append p (Constant r v ∷ xs) ys h k = let e : p + (8 + sum_of_sizes false xs) ≡ p + 8 + sum_of_sizes false xs = omega arith in (h.0, h.1, stays_append (p + 8) xs ys h.2 (subst (λ q. Stays q ys) e k))
  stays_append p (Go t ∷ xs) ys h k = absurd h

  -- ---- the guards
  stays_guard : (p r : ℕ) → p + sum_of_sizes false (guard r) + 4 ≤ to → Stays p (guard r)
  stays_guard p r = by (r == 0) where
    by :
        (b : Bool) → p + sum_of_sizes false (cond b [] (Plain (ins Beq 0 r (r + PAIR_DISTANCE) (pos 8)) ∷ fired_check ∷ [])) + 4 ≤ to
        → Stays p (cond b [] (Plain (ins Beq 0 r (r + PAIR_DISTANCE) (pos 8)) ∷ fired_check ∷ []))
    by true h = tt
    by false h = ((omega (arith, h), inl (refl, omega (arith, h))), (tt, tt))

  stays_guards : (p : ℕ) (rs : List ℕ) → p + sum_of_sizes false (guards rs) + 4 ≤ to → Stays p (guards rs)
  stays_guards p [] h = tt
  stays_guards p (r ∷ rs) h =
      let size = size-append false (guard r) (guards rs) in
      stays_append p (guard r) (guards rs) (stays_guard p r (omega (arith, h, size))) (stays_guards (p + sum_of_sizes false (guard r)) rs (omega (arith, h, size)))

  -- ---- the sweep
  stays_range : (p : ℕ) (r : ℕ × ℕ) → from ≤ p → p + 48 ≤ to → Stays p (sweep_range r)
  stays_range p r low h = (
    omega arith,
    omega (arith, h),
    (
      (omega arith, omega (arith, h)),
      (
        (omega arith, omega (arith, h)),
        (
          (omega arith, omega (arith, h)),
          ((omega (arith, h), inl (refl, omega (arith, h))), (tt, ((omega arith, omega (arith, h)), (omega arith, omega (arith, h), ((omega (arith, h), inr (refl, omega (arith, low))), tt))))),
        ),
      ),
    ),
  )

  stays_sweep : (p : ℕ) (spans : List (ℕ × ℕ)) → from ≤ p → p + sum_of_sizes false (sweep spans) + 4 ≤ to → Stays p (sweep spans)
  stays_sweep p [] low h = tt
  stays_sweep p (r ∷ rs) low h = stays_append p (sweep_range r) (sweep rs) (stays_range p r low (omega (arith, h))) (stays_sweep (p + 44) rs (omega (arith, low)) (omega (arith, h)))

-- with the comparison and the end
stays_end : (p : ℕ) (spans : List (ℕ × ℕ)) (i : Ins) → class_of i.kind ≡ class.End → Stays p (p + sum_of_sizes false (swept_end spans i)) p (swept_end spans i)
stays_end p spans i k =
    let to = p + sum_of_sizes false (swept_end spans i) in
    let all : sum_of_sizes false (swept_end spans i) ≡ sum_of_sizes false (sweep spans ++ compare) + 4 = size-append false (sweep spans ++ compare) (Plain i ∷ []) in
    let both = size-append false (sweep spans) compare in
    let one = stays_sweep p to p spans (omega arith) (omega (arith, all, both)) in
    let two = stays_guards p to (p + sum_of_sizes false (sweep spans)) originals (omega (arith, all, both)) in
    stays_append p to p (sweep spans ++ compare) (Plain i ∷ []) (stays_append p to p (sweep spans) compare one two) (subst (λ c. StaysAs c p to (p + sum_of_sizes false (sweep spans ++ compare)) i) (sym k) tt, tt)

-- ---- in the code
module _ (w : World) (from to : ℕ) where
  -- such a word stands there
  record Word (q : ℕ) : Type 0 where
    ins : Ins
    known : w.code q ≡ Known ins
    stays : StaysAs (class_of ins.kind) from to q ins

  word_at : (xs : List Item) (n p : ℕ) → Stays from to p xs → Reads w.form.far w.code w.entry p xs → 4 * n < sum_of_sizes false xs → Word (p + 4 * n)
  word_at [] n p s r h = absurd (omega (arith, h))
  word_at (Mark m ∷ xs) n p s r h = absurd s
  word_at (Plain i ∷ xs) zero p s r h = let e : p ≡ p + 4 * 0 = omega arith in subst Word e (record { ins = i; known = r.0; stays = s.0 })
  word_at (Plain i ∷ xs) (suc n) p s r h = let e : p + 4 + 4 * n ≡ p + 4 * suc n = omega arith in subst Word e (word_at xs n (p + 4) s.1 r.1 (omega (arith, h)))
  word_at (Constant x v ∷ xs) zero p s r h = let e : p ≡ p + 4 * 0 = omega arith in subst Word e (record { ins = ins Auipc x 0 0 (upper_part (distance_between p v)); known = r.0; stays = (s.0, omega (arith, s.1)) })
  word_at (Constant x v ∷ xs) (suc zero) p s r h = let e : p + 4 ≡ p + 4 * 1 = omega arith in subst Word e (record { ins = ins Addi x x 0 (lower_part (distance_between p v)); known = r.1; stays = (s.0, omega (arith, s.1)) })
  word_at (Constant x v ∷ xs) (suc (suc n)) p s r h = let e : p + 8 + 4 * n ≡ p + 4 * suc (suc n) = omega arith in subst Word e (word_at xs n (p + 8) s.2 r.2 (omega (arith, h)))
  word_at (Go t ∷ xs) n p s r h = absurd s

  -- an address of theirs
  record Inside (q : ℕ) : Type 0 where
    low : from ≤ q
    high : q + 4 ≤ to
    grain : q % 4 ≡ 0

  -- a state at one of them
  record Among (u : State) : Type 0 where
    over : Over w.code u
    inside : Inside u.pc

  -- ---- steps
  module _ (words : (q : ℕ) → Inside q → Word q) where
    module _ (u : State) (a : Among u) where
      here : Word u.pc
      here = words u.pc a.inside

      abbrev i : Ins
      i = here.ins

      -- it stands below 2^63
      low : u.pc + 8 ≤ 2 ^ 63
      low = w.low u.pc i here.known

      at : (regs : List ℕ) (q : ℕ) → Inside q → Among (moved regs q u)
      at regs q s = record { over = over_moved w.code u regs q a.over; inside = s }

      -- to the next word
      goes : (regs : List ℕ) → u.pc + 8 ≤ to → Among (moved regs (next_pc u) u)
      goes regs h = subst (λ q. Among (moved regs q u)) (sym (pc_four w u i here.known)) (at regs (u.pc + 4) (record { low = omega (arith, a.inside.low); high = omega (arith, h); grain = omega (arith, a.inside.grain) }))

      -- to another of them
      leaps : (q : ℕ) → target i u.pc ≡ q → Inside q → Among (jumped u.regs (target i u.pc) u)
      leaps q e s = subst Among (sym (ap (λ t. jumped u.regs t u) e ∙ jumped_to u.regs q u s.grain)) (at u.regs q s)

      taken : (((imm i ≡ 8) × (u.pc + 12 ≤ to)) ⊎ ((imm i ≡ 2 ^ 64 - 32) × (from + 32 ≤ u.pc))) → Among (jumped u.regs (target i u.pc) u)
      taken (inl h) = leaps (u.pc + 8) (omega (arith, h.0, low)) (record { low = omega (arith, a.inside.low); high = omega (arith, h.1); grain = omega (arith, a.inside.grain) })
      taken (inr h) = leaps (u.pc - 32) (omega (arith, h.0, h.1, low)) (record { low = omega (arith, h.1); high = omega (arith, a.inside.high); grain = omega (arith, h.1, a.inside.grain) })

      -- a load is granted, if the run goes on
      loads : (b : Bool) (v : ℕ) (c : Cause) → u.pc + 8 ≤ to → step u ≡ cond b (moved (set_reg i.rd v u.regs) (next_pc u) u) (trapped c u) → (step u).outcome ≡ Going → Among (step u)
      loads true v c h e g = subst Among (sym e) (goes (set_reg i.rd v u.regs) h)
      loads false v c h e g = let o : Trapped c u.pc ≡ Going = sym (ap (λ s. s.outcome) e) ∙ g in absurd (cc)

      branches : (b : Bool) → StaysAs class.Branch from to u.pc i → step u ≡ cond b (jumped u.regs (target i u.pc) u) (moved u.regs (next_pc u) u) → Among (step u)
      branches true s e = subst Among (sym e) (taken s.1)
      branches false s e = subst Among (sym e) (goes u.regs s.0)

      -- if the run goes on, it does so at one of them
      stays_on : (step u).outcome ≡ Going → Among (step u)
      unfolding execute
      stays_on g = by (class_of i.kind) refl here.stays where
        does : (k : Class) → class_of i.kind ≡ k → step u ≡ execute k i u
        does k e = step-class u i k a.over.going (known_at w.code u i a.over here.known) e

        by : (k : Class) → class_of i.kind ≡ k → StaysAs k from to u.pc i → Among (step u)
        by class.Compute e s = subst Among (sym (does class.Compute e)) (goes (set_reg i.rd (result i.kind i u) u.regs) s.1)
        by class.Load e s = loads (grants (λ f. f.read) u.memory (place i u) (width_of i.kind)) (loaded i.kind (number u.memory (place i u) (width_of i.kind))) (cause.Load (place i u)) s.1 (does class.Load e) g
        by class.Branch e s = branches (holds i.kind (reg u i.rs1) (reg u i.rs2)) s (does class.Branch e)
        by class.Break e s = let o : Fired ≡ Going = sym (ap (λ s. s.outcome) (does class.Break e)) ∙ g in absurd (cc)
        by class.End e s = let o : Ended ≡ Going = sym (ap (λ s. s.outcome) (does class.End e)) ∙ g in absurd (cc)
        by k e s = absurd s

    -- as long as it goes on
    stays_run : (k : ℕ) (u : State) → Among u → ((j : ℕ) → j ≤ k → (run u j).outcome ≡ Going) → Among (run u k)
    unfolding run
    stays_run zero u a going = a
    stays_run (suc k) u a going = stays_run k (step u) (stays_on u a (going 1 (omega arith))) (λ j h. going (suc j) (omega (arith, h)))

    none_own : (u : State) → Among u → (j : Ins) → w.code u.pc ≡ Known j → (WritesOriginal j ⊎ (class_of j.kind ≡ class.Store)) → ⊥
    none_own u a j h own =
        let x = words u.pc a.inside in
        let e : j ≡ x.ins = same j x.ins (sym h ∙ x.known) in
        alone_as (class_of x.ins.kind) from to u.pc x.ins refl x.stays (subst (λ y. WritesOriginal y ⊎ (class_of y.kind ≡ class.Store)) e own) where
          same : (x y : Ins) → Known x ≡ Known y → x ≡ y
          same x y e = cc

-- ---- the law
-- a state before the sweep
pub record BeforeSweep (w : World) (u : State) : Type 0 where
  pub over : Over w.code u
  pub end : Ins
  pub ends : class_of end.kind ≡ class.End
  pub reads : Reads w.form.far w.code w.entry u.pc (swept_end w.form.spans end)

-- as long as the run goes on from there, none of the test's own is next
pub sweep_alone :
    (w : World) (u : State) → BeforeSweep w u → (k : ℕ) → ((j : ℕ) → j ≤ k → (run u j).outcome ≡ Going)
    → (j : Ins) → w.code (run u k).pc ≡ Known j → (WritesOriginal j ⊎ (class_of j.kind ≡ class.Store)) → ⊥
sweep_alone w u b k going = none_own w u.pc to words (run u k) (stays_run w u.pc to words k u first going) where
  all : List Item
  all = swept_end w.form.spans b.end

  size : ℕ
  size = sum_of_sizes false all

  to : ℕ
  to = u.pc + size

  some : 4 ≤ size
  some = let e = size-append false (sweep w.form.spans ++ compare) (Plain b.end ∷ []) in omega (arith, e)

  nth : (n : ℕ) → 4 * n < size → Word w u.pc to (u.pc + 4 * n)
  nth n h = word_at w u.pc to all n u.pc (stays_end u.pc w.form.spans b.end b.ends) b.reads h

  grain : u.pc % 4 ≡ 0
  grain = let x = nth 0 (omega (arith, some)) in let g = w.grain (u.pc + 4 * 0) x.ins x.known in omega (arith, g)

  words : (q : ℕ) → Inside w u.pc to q → Word w u.pc to q
  words q s =
      let e : u.pc + 4 * ((q - u.pc) / 4) ≡ q = omega (arith, s.low, s.grain, grain) in
      subst (Word w u.pc to) e (nth ((q - u.pc) / 4) (omega (arith, s.high, e)))

  first : Among w u.pc to u
  first = record { over = b.over; inside = record { low = omega arith; high = omega (arith, some); grain = grain } }

-- A wrong instruction as changes right behind it.
use Rattle.std.proofs.Common.{◌≡◌, ℕ, zero, suc, ◌+◌, ◌-◌, ◌<◌, ◌≤◌, ⊎_elim, Bool, true, false, cond, List, [], ◌∷◌, refl, sym, ap, ◌∙◌, subst, arith}
use Rattle.std.specs.Prelude.{slice_index}
use Rattle.std.proofs.lemmas.Bool.{false≢true, cases_Bool, cases_lt, eq-eqb, ne_eqb}
use Rattle.std.proofs.lemmas.List.{set-set, set-get_or}
use Rattle.rv_isa.specs.declared.class.Class.TheVariants as class
use Rattle.qed_model.specs.declared.change.Change.{Change}
use Rattle.machine.specs.declared.place.Place.TheVariants.{Reg}
use Rattle.machine.specs.declared.outcome.Cause.TheVariants as cause
use Rattle.weave_core.specs.World.{Going, Ended, Fired, put, number, grants, State, reg, moved, stored, trapped, next_pc, place, result, execute, Fetched, Known, next, step, run, Ins, Class, class_of, set_reg, width_of, loaded}
use Rattle.machine.specs.Struck.{struck}
use Rattle.qed_model.specs.Promise.Changed.{changed, changed_as, with_changes, changed_run, Ordered, last_step}
use Rattle.qed_model.specs.Promise.Caught.{Same}
use Rattle.qed_model.specs.Promise.InStep.{SameBeside, IsSettled, SettlesWithin}
use Rattle.qed_model.specs.Promise.Kept.{is_trapped, NotTrapped}
use Rattle.machine.proofs.Lemmas.{step-class, run-more, run-last}
use Rattle.qed_model.proofs.Lemmas.{AllBy, struck_outcome}
use Rattle.weave_core.specs.Lock.{Opens, HasKind, scratch_compute, scratch_load, scratch_store, scratch_branch, jumps, scratch_jump, computes, fences, loads, stores as stores_kind, guards, guards_back, breaks, takes, branches, forks, ends, no_word, visits}
use Rattle.weave_core.proofs.Lemmas.{run-ended}
use Rattle.qed_model.specs.Promise.Faults.{WritesOriginal, GivesAny, gives, skips}
use Rattle.lockstep.proofs.Ground.{run-fired}

-- ---- behind an instruction that computes or accesses memory no register is closed
-- the classes of such instructions
abbrev pub is_straight : Class → Bool
is_straight class.Compute = true
is_straight class.Load = true
is_straight class.Store = true
is_straight _ = false

-- another class is none of them
no_other : (i : Ins) (k : Class) → class_of i.kind ≡ k → is_straight k ≡ false → is_straight (class_of i.kind) ≡ true → {P : Type 0} → P
no_other i k e none straight = absurd (false≢true (sym none ∙ sym (ap is_straight e) ∙ straight))

pub opens_behind : (c : ℕ → Fetched) (a : ℕ) (i : Ins) → HasKind c a i → is_straight (class_of i.kind) ≡ true → Opens c (a + 4)
opens_behind c a i (scratch_compute e x y o) h = o
opens_behind c a i (scratch_load e x free o) h = o
opens_behind c a i (scratch_store e x y o) h = o
opens_behind c a i (scratch_branch e x y o) h = o
opens_behind c a i (jumps e) h = no_other i class.Jump e refl h
opens_behind c a i (scratch_jump e x) h = no_other i class.JumpReg e refl h
opens_behind c a i (computes e d o) h = o
opens_behind c a i (fences e o) h = o
opens_behind c a i (loads e x y o) h = o
opens_behind c a i (stores_kind e x y o) h = o
opens_behind c a i (guards q x is low most high brk b) h = no_other i class.Branch (ap (λ j. class_of j.kind) is) refl h
opens_behind c a i (guards_back q d is low most brk b) h = no_other i class.Branch (ap (λ j. class_of j.kind) is) refl h
opens_behind c a i (breaks e) h = no_other i class.Break e refl h
opens_behind c a i (takes e d x o) h = o
opens_behind c a i (branches e x y free o) h = o
opens_behind c a i (forks e x y checks o) h = o
opens_behind c a i (ends e) h = no_other i class.End e refl h
opens_behind c a i (no_word e) h = no_other i class.Illegal e refl h
opens_behind c a i (visits x d is high n few tail o) h = o

-- an instruction that writes an original register is one of them
pub writes_straight : (i : Ins) → WritesOriginal i → is_straight (class_of i.kind) ≡ true
writes_straight i w = ⊎_elim (λ e. ap is_straight e) (λ e. ap is_straight e) w.writes

-- ---- what the step did
-- it wrote some number
pub record Wrote (i : Ins) (u : State) : Type 0 where
  pub number : ℕ
  pub is : step u ≡ moved (set_reg i.rd number u.regs) (next_pc u) u

pub wrote : (i : Ins) (u : State) → u.outcome ≡ Going → next u ≡ Known i → WritesOriginal i → NotTrapped (step u) → Wrote i u
unfolding execute
wrote i u go n w calm = ⊎_elim (λ e. record { number = result i.kind i u; is = step-class u i class.Compute go n e }) (λ e. by_load e) w.writes where
  -- a load that does not trap
  by_load : class_of i.kind ≡ class.Load → Wrote i u
  by_load e =
      let s = step-class u i class.Load go n e in
      ⊎_elim
      (λ b. record { number = loaded i.kind (number u.memory (place i u) (width_of i.kind)); is = s ∙ rw b refl })
      (λ b. let t : step u ≡ trapped (cause.Load (place i u)) u = s ∙ rw b refl in absurd (false≢true (sym calm ∙ ap (λ x. is_trapped x.outcome) t)))
      (cases_Bool (grants (λ f. f.read) u.memory (place i u) (width_of i.kind)))

-- it stored
pub stored_step :
    (i : Ins) (u : State) → u.outcome ≡ Going → next u ≡ Known i → class_of i.kind ≡ class.Store → NotTrapped (step u)
    → step u ≡ stored (put u.memory (place i u) (width_of i.kind) (reg u i.rs2)) (next_pc u) u
unfolding execute
stored_step i u go n e calm =
    let s = step-class u i class.Store go n e in
    ⊎_elim
    (λ b. s ∙ rw b refl)
    (λ b. let t : step u ≡ trapped (cause.Store (place i u)) u = s ∙ rw b refl in absurd (false≢true (sym calm ∙ ap (λ x. is_trapped x.outcome) t)))
    (cases_Bool (grants (λ f. f.write) u.memory (place i u) (width_of i.kind)))

-- ---- another number is a change of the register
set_twice : (r x y : ℕ) (regs : List ℕ) → set_reg r x (set_reg r y regs) ≡ set_reg r x regs
set_twice zero x y regs = refl
set_twice (suc r) x y regs = set-set regs (suc r) y x

set_own : (r : ℕ) (regs : List ℕ) → set_reg r (slice_index regs r) regs ≡ regs
set_own zero regs = refl
set_own (suc r) regs = set-get_or regs (suc r) 0

pub record IsStruck (r : ℕ) (u v : State) : Type 0 where
  pub number : ℕ
  pub is : v ≡ struck (Reg r) number u

-- a number that is written over another
struck_over : (i : Ins) (u : State) (x : ℕ) → Wrote i u → struck (Reg i.rd) x (step u) ≡ moved (set_reg i.rd x u.regs) (next_pc u) u
unfolding struck
struck_over i u x w = ap (λ s. struck (Reg i.rd) x s) w.is ∙ ap (λ rs. moved rs (next_pc u) u) (set_twice i.rd x w.number u.regs)

pub any_struck : (i : Ins) (u v : State) → Wrote i u → GivesAny i u v → IsStruck i.rd (step u) v
any_struck i u v w (gives x e) = record { number = x; is = e ∙ sym (struck_over i u x w) }
any_struck i u v w (skips e) = record { number = reg u i.rd; is = e ∙ ap (λ rs. moved rs (next_pc u) u) (sym (set_own i.rd u.regs)) ∙ sym (struck_over i u (reg u i.rd) w) }

-- ---- runs with changes that all come at once
-- each change comes behind the n-th step
abbrev pub AllBehind : ℕ → List Change → Type 0
AllBehind n [] = Unit {0}
AllBehind n (c ∷ cs) = (n < c.step) × AllBehind n cs

behind_less : (n : ℕ) (cs : List Change) → AllBehind (suc n) cs → AllBehind n cs
behind_less n [] h = tt
behind_less n (c ∷ cs) h = (omega (arith, h.0), behind_less n cs h.1)

none_yet : (n : ℕ) (cs : List Change) (u : State) → AllBehind n cs → with_changes cs n u ≡ u
unfolding with_changes
none_yet n [] u h = refl
none_yet n (c ∷ cs) u h = ap (λ b. with_changes cs n (cond b (changed c u) u)) (ne_eqb c.step n (λ e. absurd (omega (arith, e, h.0)))) ∙ none_yet n cs u h.1

-- up to it the changed run is the run without changes
pub unchanged_before : (s : State) (cs : List Change) (n : ℕ) → AllBehind n cs → changed_run s cs n ≡ run s n
unfolding changed_run run
unchanged_before s cs zero h = none_yet 0 cs s h
unchanged_before s cs (suc n) h =
    let next : n + 1 ≡ suc n = omega arith in
    none_yet (suc n) cs (step (changed_run s cs n)) h ∙ ap step (unchanged_before s cs n (behind_less n cs h)) ∙ sym (run-last s n) ∙ ap (run s) next

-- one step on the changes are made
changed_there : (s : State) (cs : List Change) (n : ℕ) → AllBehind n cs → changed_run s cs (n + 1) ≡ with_changes cs (n + 1) (run s (n + 1))
unfolding changed_run
changed_there s cs n h =
    let next : n + 1 ≡ suc n = omega arith in
    ap (changed_run s cs) next
    ∙ ap (λ x. with_changes cs (suc n) (step x)) (unchanged_before s cs n h)
    ∙ ap (λ m. with_changes cs m (step (run s n))) (sym next)
    ∙ ap (with_changes cs (n + 1)) (sym (run-last s n))

-- each change comes behind step t alone
abbrev pub AllAt : ℕ → List Change → Type 0
AllAt t [] = Unit {0}
AllAt t (c ∷ cs) = (c.step ≡ t) × AllAt t cs

pub behind_at : (t n : ℕ) (cs : List Change) → n < t → AllAt t cs → AllBehind n cs
behind_at t n [] l h = tt
behind_at t n (c ∷ cs) l h = (omega (arith, l, h.0), behind_at t n cs l h.1)

pub by_at : (t : ℕ) (cs : List Change) → AllAt t cs → AllBy t cs
by_at t [] h = tt
by_at t (c ∷ cs) h = (omega (arith, h.0), by_at t cs h.1)

pub ordered_at : (t : ℕ) (cs : List Change) → AllAt t cs → Ordered cs
ordered_at t [] h = tt
ordered_at t (c ∷ []) h = tt
ordered_at t (c ∷ d ∷ cs) h = (omega (arith, h.0, h.1.0), ordered_at t (d ∷ cs) h.1)

pub last_at : (t : ℕ) (c : Change) (cs : List Change) → AllAt t (c ∷ cs) → last_step (c ∷ cs) ≡ t
last_at t c [] h = h.0
last_at t c (d ∷ cs) h = last_at t d cs h.1

-- the places of a list with other numbers
abbrev pub struck_all : List Change → State → State
struck_all [] u = u
struck_all (c ∷ cs) u = struck_all cs (struck c.place c.value u)

with_all : (cs : List Change) (t : ℕ) (u : State) → AllAt t cs → u.outcome ≡ Going → with_changes cs t u ≡ struck_all cs u
unfolding with_changes
with_all [] t u h go = refl
with_all (c ∷ cs) t u h go =
    ap (λ b. with_changes cs t (cond b (changed c u) u)) (eq-eqb c.step t h.0) ∙ ap (λ o. with_changes cs t (changed_as o c u)) go
    ∙ with_all cs t (struck c.place c.value u) h.1 (struck_outcome c.place c.value u ∙ go)

-- so they stand behind that step
pub changed_all :
    (s : State) (cs : List Change) (n : ℕ) → AllAt (n + 1) cs → (run s (n + 1)).outcome ≡ Going → changed_run s cs (n + 1) ≡ struck_all cs (run s (n + 1))
changed_all s cs n h go = changed_there s cs n (behind_at (n + 1) n cs (omega arith) h) ∙ with_all cs (n + 1) (run s (n + 1)) h go

-- ---- what settles is found out
pub found_out :
    (spans : List (ℕ × ℕ)) (s : State) (changed : ℕ → State) (v : State) (t b : ℕ) → (run s t).outcome ≡ Going → ((k : ℕ) → k < t → changed k ≡ run s k)
    → ((k : ℕ) → changed (t + k) ≡ run v k) → SettlesWithin spans t b changed (run s) → SettlesWithin spans 0 b (run v) (λ k. run s (t + k))
found_out spans s changed v t b go early later x = ⊎_elim (λ h. absurd (too_early h x.settled)) (λ h. in_time h x.settled) (cases_lt x.steps t) where
  -- a run that stops stays so
  ahead : x.steps < t → run s t ≡ run (run s x.steps) (t - x.steps)
  ahead h = let e : t ≡ x.steps + (t - x.steps) = omega (arith, h) in ap (run s) e ∙ run-more s x.steps (t - x.steps)

  too_early : x.steps < t → IsSettled spans t x.steps changed (run s) → ⊥
  too_early h (IsSettled.fires e) =
      let f : (run s x.steps).outcome ≡ Fired = ap (λ y. y.outcome) (sym (early x.steps h)) ∙ e in
      let g : Going ≡ Fired = sym go ∙ ap (λ y. y.outcome) (ahead h ∙ run-fired (run s x.steps) (t - x.steps) f) ∙ f in cc
  too_early h (IsSettled.ends e k a) =
      let f : (run s x.steps).outcome ≡ Ended = ap (λ y. y.outcome) (sym (early x.steps h)) ∙ e in
      let g : Going ≡ Ended = sym go ∙ ap (λ y. y.outcome) (ahead h ∙ run-ended (t - x.steps) (run s x.steps) f) ∙ f in cc
  too_early h (IsSettled.gone l e) = absurd (omega (arith, l, h))

  in_time : t ≤ x.steps → IsSettled spans t x.steps changed (run s) → SettlesWithin spans 0 b (run v) (λ k. run s (t + k))
  in_time h found =
      let e : x.steps ≡ t + (x.steps - t) = omega (arith, h) in
      let there : changed x.steps ≡ run v (x.steps - t) = ap changed e ∙ later (x.steps - t) in
      record { steps = x.steps - t; within = omega (arith, x.within, h); settled = by e there found } where
        by : x.steps ≡ t + (x.steps - t) → changed x.steps ≡ run v (x.steps - t) → IsSettled spans t x.steps changed (run s) → IsSettled spans 0 (x.steps - t) (run v) (λ k. run s (t + k))
        by e there (IsSettled.fires o) = IsSettled.fires (ap (λ y. y.outcome) (sym there) ∙ o)
        by e there (IsSettled.ends o when beside) =
            IsSettled.ends (ap (λ y. y.outcome) (sym there) ∙ o) (λ k l. ap (λ y. y.outcome) (sym (later k)) ∙ when (t + k) (omega (arith, l, h)))
            (subst (λ k. SameBeside spans (run v (x.steps - t)) (run s k)) e (subst (λ y. SameBeside spans y (run s x.steps)) there beside))
        by e there (IsSettled.gone l same) = IsSettled.gone (omega arith) (subst (λ k. Same spans (run v (x.steps - t)) (run s k)) e (subst (λ y. Same spans y (run s x.steps)) there same))

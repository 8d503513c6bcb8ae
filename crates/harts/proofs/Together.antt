-- After any schedule each hart stands as its run alone does.
use Rattle.std.proofs.Common.{◌≡◌, ◌≢◌, ℕ, zero, suc, ◌<◌, Bool, true, false, cond, List, [], ◌∷◌, refl, sym, ap, ◌∙◌, subst, arith}
use Rattle.std.specs.Prelude.{◌==◌, nat_lt, slice_get}
use Rattle.std.proofs.lemmas.Bool.{eq-eqb, ne_eqb, eqb-true, eqb-false, lt-ltb}
use Rattle.std.proofs.lemmas.Bool.Decides.{nat_tests}
use Rattle.machine.specs.declared.outcome.Outcome.{Outcome}
use Rattle.machine.specs.declared.outcome.Outcome.TheVariants.{Going, Ended, Fired, Trapped}
use Rattle.qed_model.specs.declared.change.Change.{Change}
use Rattle.machine.specs.Step.{State, step_at, step}
use Rattle.qed_model.specs.Promise.Changed.{changed, changed_as, with_changes, changed_run}
use Rattle.machine.specs.Program.{Program, start, zeros}
use Rattle.qed_model.specs.Promise.Kept.{is_trapped, NotTrapped}
use Rattle.qed_model.proofs.Lemmas.{struck_outcome}
use Rattle.harts.specs.Harts.{begin_harts, hart_turns, with_first, count, turned, world_after}
use Rattle.harts.specs.Together.{IsProgram, own_run, AreAlone, ShowsHart}
use Rattle.harts.proofs.Beside.{does_step, does_changes}
use Rattle.harts.proofs.Turns.{Stand, stand_as, stand_then}
use Rattle.harts.proofs.Start.{stand_first}

-- ---- a trapped state stays trapped
changed_outcome : (o : Outcome) (c : Change) (s : State) → (changed_as o c s).outcome ≡ s.outcome
changed_outcome Going c s = struck_outcome c.place c.value s
changed_outcome o c s = refl

due_outcome : (b : Bool) (c : Change) (s : State) → (cond b (changed c s) s).outcome ≡ s.outcome
due_outcome true c s = changed_outcome s.outcome c s
due_outcome false c s = refl

-- all due changes of a trapped state leave it trapped
changes_outcome : (cs : List Change) (n : ℕ) (s : State) → (with_changes cs n s).outcome ≡ s.outcome
unfolding with_changes
changes_outcome [] n s = refl
changes_outcome (c ∷ cs) n s = changes_outcome cs n (cond (c.step == n) (changed c s) s) ∙ due_outcome (c.step == n) c s

-- a step of a trapped state leaves it trapped
step_at_trapped : (o : Outcome) (s : State) → s.outcome ≡ o → NotTrapped (step_at o s) → is_trapped o ≡ false
step_at_trapped Going s e n = refl
step_at_trapped Ended s e n = refl
step_at_trapped Fired s e n = refl
step_at_trapped (Trapped x p) s e n = sym (ap is_trapped e) ∙ n

before_step : (s : State) → NotTrapped (step s) → NotTrapped s
unfolding step
before_step s n = step_at_trapped s.outcome s refl n

-- the last step of a run that is not trapped afterwards
last_not : (s : State) (cs : List Change) (n : ℕ) → NotTrapped (changed_run s cs (suc n)) → NotTrapped (step (changed_run s cs n))
unfolding changed_run
last_not s cs n k = sym (ap is_trapped (changes_outcome cs (suc n) (step (changed_run s cs n)))) ∙ k

-- ---- turns
-- one more turn of the hart itself
pub turns_here : (t : ℕ) (ts : List ℕ) → hart_turns (t ∷ ts) t ≡ suc (hart_turns ts t)
unfolding hart_turns
turns_here t ts = ap (λ b. cond b (suc (hart_turns ts t)) (hart_turns ts t)) (eq-eqb t t refl)

-- one more turn of another hart
pub turns_there : (t i : ℕ) (ts : List ℕ) → t ≢ i → hart_turns (t ∷ ts) i ≡ hart_turns ts i
unfolding hart_turns
turns_there t i ts n = ap (λ b. cond b (suc (hart_turns ts i)) (hart_turns ts i)) (ne_eqb t i n)

-- the hart's own run after one more turn
run_here : (cs : ℕ → List Change) (t : ℕ) (ts : List ℕ) (g : Program) → own_run cs (t ∷ ts) t g ≡ with_changes (cs t) (suc (hart_turns ts t)) (step (own_run cs ts t g))
unfolding changed_run
run_here cs t ts g = ap (changed_run (start g zeros) (cs t)) (turns_here t ts)

run_there : (cs : ℕ → List Change) (t i : ℕ) (ts : List ℕ) (g : Program) → t ≢ i → own_run cs (t ∷ ts) i g ≡ own_run cs ts i g
run_there cs t i ts g n = ap (changed_run (start g zeros) (cs i)) (turns_there t i ts n)

module _ (gs : List Program) (cs : ℕ → List Change) where
  -- the hart's step does not trap
  step_not : (t : ℕ) (ts : List ℕ) → AreAlone gs cs (t ∷ ts) → (g : Program) → IsProgram gs t g → NotTrapped (step (own_run cs ts t g))
  step_not t ts a g e = last_not (start g zeros) (cs t) (hart_turns ts t) (subst (λ k. NotTrapped (changed_run (start g zeros) (cs t) k)) (turns_here t ts) (a.no_trap t g e))

  -- the premises hold with one turn fewer
  pub earlier : (t : ℕ) (ts : List ℕ) → AreAlone gs cs (t ∷ ts) → AreAlone gs cs ts
  earlier t ts a = record { files = a.files; words = a.words; no_trap = λ i g e. at (t == i) i g e refl } where
    at : (b : Bool) (i : ℕ) (g : Program) → IsProgram gs i g → (t == i) ≡ b → NotTrapped (own_run cs ts i g)
    at true i g e k = let is = eqb-true t i k in subst (λ j. NotTrapped (own_run cs ts j g)) is (before_step (own_run cs ts t g) (step_not t ts a g (ap (slice_get gs) is ∙ e)))
    at false i g e k = subst NotTrapped (run_there cs t i ts g (eqb-false t i k)) (a.no_trap i g e)

  -- ---- before the first turn
  -- the states after the changes at step 0 of the harts below n
  firsts : ℕ → ℕ → Program → State
  firsts n i g = cond (nat_lt i n) (with_changes (cs i) 0 (start g zeros)) (start g zeros)

  stand_firsts : (n : ℕ) (a : AreAlone gs cs []) → Stand gs (with_first cs n (begin_harts gs)) (firsts n)
  unfolding with_first firsts
  stand_firsts zero a = stand_as gs (begin_harts gs) (λ i g. start g zeros) (firsts 0) (λ i g e. ap (λ b. cond b (with_changes (cs i) 0 (start g zeros)) (start g zeros)) (none i)) (stand_first gs a.files) where
    none : (i : ℕ) → nat_lt i 0 ≡ false
    none i = grind (arith, nat_tests)
  stand_firsts (suc n) a =
      stand_then gs a.files (with_first cs n (begin_harts gs)) (firsts n) (stand_firsts n a) n (with_changes (cs n) 0)
      (λ g m e h. does_changes g (cs n) 0 (firsts n n g) m (a.words n g e) h)
      (firsts (suc n))
      (λ g e. ap (λ b. cond b (with_changes (cs n) 0 (start g zeros)) (start g zeros)) (here n) ∙ ap (λ b. with_changes (cs n) 0 (cond b (with_changes (cs n) 0 (start g zeros)) (start g zeros))) (sym (not_here n)))
      (λ i g e ne. ap (λ b. cond b (with_changes (cs i) 0 (start g zeros)) (start g zeros)) (there n i ne)) where
        here : (n : ℕ) → nat_lt n (suc n) ≡ true
        here n = grind (arith, nat_tests)

        not_here : (n : ℕ) → nat_lt n n ≡ false
        not_here n = grind (arith, nat_tests)

        there : (n i : ℕ) → n ≢ i → nat_lt i (suc n) ≡ nat_lt i n
        there n i ne = grind (arith, nat_tests)

-- a file's number is below their count
below_count : (gs : List Program) (i : ℕ) (g : Program) → IsProgram gs i g → i < count gs
unfolding count
below_count [] i g e = absurd (cc)
below_count (x ∷ gs) zero g e = omega arith
below_count (x ∷ gs) (suc i) g e = let l = below_count gs i g e in omega (arith, l)

module _ (gs : List Program) (cs : ℕ → List Change) where
  -- ---- all turns
  -- the world before the first turn
  stand_begun : AreAlone gs cs [] → Stand gs (world_after gs cs []) (own_run cs [])
  unfolding world_after changed_run hart_turns firsts
  stand_begun a =
      stand_as gs (with_first cs (count gs) (begin_harts gs)) (firsts gs cs (count gs)) (own_run cs [])
      (λ i g e. ap (λ b. cond b (with_changes (cs i) 0 (start g zeros)) (start g zeros)) (sym (lt-ltb i (count gs) (below_count gs i g e))))
      (stand_firsts gs cs (count gs) a)

  -- the states when the hart has made its step
  stepped : ℕ → List ℕ → ℕ → Program → State
  stepped t ts i g = cond (t == i) (step (own_run cs ts i g)) (own_run cs ts i g)

  stepped_here : (t : ℕ) (ts : List ℕ) (g : Program) → stepped t ts t g ≡ step (own_run cs ts t g)
  unfolding stepped
  stepped_here t ts g = ap (λ b. cond b (step (own_run cs ts t g)) (own_run cs ts t g)) (eq-eqb t t refl)

  stepped_there : (t : ℕ) (ts : List ℕ) (i : ℕ) (g : Program) → t ≢ i → stepped t ts i g ≡ own_run cs ts i g
  unfolding stepped
  stepped_there t ts i g n = ap (λ b. cond b (step (own_run cs ts i g)) (own_run cs ts i g)) (ne_eqb t i n)

  -- a turn: the step, then the due changes
  stand_turned : (t : ℕ) (ts : List ℕ) → AreAlone gs cs (t ∷ ts) → Stand gs (world_after gs cs ts) (own_run cs ts) → Stand gs (world_after gs cs (t ∷ ts)) (own_run cs (t ∷ ts))
  unfolding world_after
  stand_turned t ts a s =
      let one : Stand gs (turned t (world_after gs cs ts)) (stepped t ts) =
      stand_then gs a.files (world_after gs cs ts) (own_run cs ts) s t step
      (λ g m e h. does_step g (own_run cs ts t g) m h (step_not gs cs t ts a g e))
      (stepped t ts) (λ g e. stepped_here t ts g) (λ i g e n. stepped_there t ts i g n) in
      stand_then gs a.files (turned t (world_after gs cs ts)) (stepped t ts) one t (with_changes (cs t) (suc (hart_turns ts t)))
      (λ g m e h. does_changes g (cs t) (suc (hart_turns ts t)) (stepped t ts t g) m (a.words t g e) h)
      (own_run cs (t ∷ ts))
      (λ g e. run_here cs t ts g ∙ ap (with_changes (cs t) (suc (hart_turns ts t))) (sym (stepped_here t ts g)))
      (λ i g e n. run_there cs t i ts g n ∙ sym (stepped_there t ts i g n))

  -- the world after any schedule
  pub stand_after : (ts : List ℕ) → AreAlone gs cs ts → Stand gs (world_after gs cs ts) (own_run cs ts)
  stand_after [] a = stand_begun a
  stand_after (t ∷ ts) a = stand_turned t ts a (stand_after ts (earlier gs cs t ts a))

-- each hart stands as its run alone does
pub together : (gs : List Program) (cs : ℕ → List Change) (ts : List ℕ) → AreAlone gs cs ts → (i : ℕ) (g : Program) → IsProgram gs i g → ShowsHart g i (world_after gs cs ts) (own_run cs ts i g)
together gs cs ts a i g e = let s = stand_after gs cs ts a in record { hart = s.harts i g e; bytes = (s.holds i g e).cells }

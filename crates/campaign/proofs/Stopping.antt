-- Runs that stop: when they do, and that they stay stopped.
use Rattle.std.proofs.Common.{◌≡◌, ◌⊎◌, inl, inr, ℕ, zero, suc, ◌+◌, ◌-◌, ◌<◌, ◌≤◌, Bool, true, false, cond, List, [], ◌∷◌, refl, sym, ap, ◌∙◌, arith, below_more}
use Rattle.std.specs.Prelude.{◌≢◌, ◌==◌}
use Rattle.machine.specs.declared.outcome.Outcome.TheVariants.{Going}
use Rattle.machine.specs.Progress.{Progress, progress, advanced, first_state}
use Rattle.machine.specs.Step.{State, step_at, step, run}
use Rattle.qed_model.specs.Promise.Changed.{changed, changed_as, with_changes, changed_run, Ordered, last_step}
use Rattle.machine.proofs.Lemmas.{run-more}
use Rattle.qed_model.proofs.Lemmas.{by_last}
use Rattle.fault_inject.proofs.Changing.{plain}
use Rattle.campaign.specs.Verdict.{StopsAfter, Change, Outcome}

-- ---- outcomes
-- a run goes on or does not
pub going_or : (o : Outcome) → (o ≡ Going) ⊎ (o ≢ Going)
going_or Going = inl refl
going_or o = inr (λ e. absurd (cc))

-- a step of a state that has stopped changes nothing
stays_at : (o : Outcome) (s : State) → o ≢ Going → step_at o s ≡ s
stays_at Going s h = absurd (h refl)
stays_at o s h = refl

step_stopped : (s : State) → s.outcome ≢ Going → step s ≡ s
unfolding step
step_stopped s h = stays_at s.outcome s h

-- changes of a stopped state change nothing
changed_stopped : (o : Outcome) (c : Change) (s : State) → o ≢ Going → changed_as o c s ≡ s
changed_stopped Going c s h = absurd (h refl)
changed_stopped o c s h = refl

with_stopped : (cs : List Change) (n : ℕ) (s : State) → s.outcome ≢ Going → with_changes cs n s ≡ s
unfolding with_changes
with_stopped [] n s h = refl
with_stopped (c ∷ cs) n s h = ap (with_changes cs n) (one (c.step == n)) ∙ with_stopped cs n s h where
  one : (b : Bool) → cond b (changed c s) s ≡ s
  one true = changed_stopped s.outcome c s h
  one false = refl

-- ---- a run that has stopped stays
pub run_stays : (s : State) (n : ℕ) → s.outcome ≢ Going → run s n ≡ s
unfolding run
run_stays s zero h = refl
run_stays s (suc n) h = ap (λ x. run x n) (step_stopped s h) ∙ run_stays s n h

pub changed_stays : (s : State) (cs : List Change) (k n : ℕ) → (changed_run s cs k).outcome ≢ Going → changed_run s cs (k + n) ≡ changed_run s cs k
unfolding changed_run
changed_stays s cs k zero h = let e : k + 0 ≡ k = omega arith in ap (changed_run s cs) e
changed_stays s cs k (suc n) h =
    let e : k + suc n ≡ suc (k + n) = omega arith in
    let there = changed_stays s cs k n h in
    ap (changed_run s cs) e ∙ ap (λ x. with_changes cs (suc (k + n)) (step x)) there ∙ ap (with_changes cs (suc (k + n))) (step_stopped (changed_run s cs k) h) ∙ with_stopped cs (suc (k + n)) (changed_run s cs k) h

-- after n steps it is as after the k of them in which it stopped
pub run_as : (s : State) (k n : ℕ) → k ≤ n → (run s k).outcome ≢ Going → run s n ≡ run s k
run_as s k n h x =
    let e : k + (n - k) ≡ n = omega arith in
    ap (run s) (sym e) ∙ run-more s k (n - k) ∙ run_stays (run s k) (n - k) x

pub changed_as_at : (s : State) (cs : List Change) (k n : ℕ) → k ≤ n → (changed_run s cs k).outcome ≢ Going → changed_run s cs n ≡ changed_run s cs k
changed_as_at s cs k n h x = let e : k + (n - k) ≡ n = omega arith in ap (changed_run s cs) (sym e) ∙ changed_stays s cs k (n - k) x

-- a run that goes on after n steps went on before
pub going_before : (s : State) (k n : ℕ) → k ≤ n → (run s n).outcome ≡ Going → (run s k).outcome ≡ Going
going_before s k n h g =
    elim (going_or (run s k).outcome) [ inl e ↦ e | inr x ↦ absurd (x (ap (λ y. y.outcome) (sym (run_as s k n h x)) ∙ g)) ]

pub changed_before : (s : State) (cs : List Change) (k n : ℕ) → k ≤ n → (changed_run s cs n).outcome ≡ Going → (changed_run s cs k).outcome ≡ Going
changed_before s cs k n h g =
    elim (going_or (changed_run s cs k).outcome) [ inl e ↦ e | inr x ↦ absurd (x (ap (λ y. y.outcome) (sym (changed_as_at s cs k n h x)) ∙ g)) ]

-- ---- when a run stops
-- the run stops after at most n steps
pub record StopsBy (states : ℕ → State) (n : ℕ) : Type 0 where
  pub steps : ℕ
  pub within : steps ≤ n
  pub stops : StopsAfter states steps

-- a run goes on below n, or stops after at most n
below : (states : ℕ → State) (n : ℕ) → ((k : ℕ) → k < n → (states k).outcome ≡ Going) ⊎ StopsBy states n
below states zero = inl (λ k h. absurd (omega arith))
below states (suc n) = more (below states n) (going_or (states n).outcome) where
  more :
      ((k : ℕ) → k < n → (states k).outcome ≡ Going) ⊎ StopsBy states n → ((states n).outcome ≡ Going) ⊎ ((states n).outcome ≢ Going)
      → ((k : ℕ) → k < suc n → (states k).outcome ≡ Going) ⊎ StopsBy states (suc n)
  more (inr s) x = inr (record { steps = s.steps; within = omega (arith, s.within); stops = s.stops })
  more (inl h) (inr x) = inr (record { steps = n; within = omega arith; stops = record { stopped = x; before = h } })
  more (inl h) (inl g) = inl (λ k l. last k l)
    where
      last : (k : ℕ) → k < suc n → (states k).outcome ≡ Going
      last k l = let m : k < n + 1 = omega arith in below_more _ _ h g k m

-- a run that has stopped after n steps stopped after at most n
pub first_stop : (states : ℕ → State) (n : ℕ) → (states n).outcome ≢ Going → StopsBy states n
first_stop states n x =
    elim (below states n) [ inl h ↦ record { steps = n; within = omega arith; stops = record { stopped = x; before = h } } | inr s ↦ s ]

-- ---- behind the last change
-- the state of a run with its count
pub progress_state : (p : Progress) (n : ℕ) → (progress p n).state ≡ run p.state n
unfolding progress run advanced
progress_state p zero = refl
progress_state p (suc n) = progress_state (advanced p) n

-- behind the last change the changed run is a plain run
pub behind : (s : State) (cs : List Change) (k : ℕ) → Ordered cs → changed_run s cs (last_step cs + k) ≡ run (changed_run s cs (last_step cs)) k
behind s cs k o =
    let by = by_last cs (last_step cs) o (omega arith) in
    ap (λ p. p.state) (plain (first_state s) cs (last_step cs) k by) ∙ progress_state _ k

-- a machine that has made m steps makes n more
pub ran_on : (s : State) (p q : Progress) (m n k : ℕ) → p.state ≡ run s m → q ≡ progress p n → m + n ≡ k → q.state ≡ run s k
ran_on s p q m n k there is sum = ap (λ r. r.state) is ∙ progress_state p n ∙ ap (λ t. run t n) there ∙ sym (run-more s m n) ∙ ap (run s) sum

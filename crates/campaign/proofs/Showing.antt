-- From what the machines show to the verdict.
use Rattle.std.proofs.Common.{◌≡◌, ◌⊎◌, inl, inr, ℕ, zero, suc, ◌+◌, ◌-◌, ◌<◌, ◌≤◌, false, List, Option, Some, None, refl, sym, ap, ◌∙◌, subst, arith}
use Rattle.std.specs.Prelude.{◌≢◌, Ok, MatchOption}
use Rattle.std.proofs.lemmas.Bool.{cases_lt}
use Rattle.machine.specs.declared.outcome.Cause.{Cause}
use Rattle.machine.specs.declared.outcome.Outcome.TheVariants.{Going, Ended, Fired, Trapped}
use Rattle.qed_model.specs.declared.verdict.Verdict.TheVariants as verdict
use Rattle.machine.specs.Step.{State, run}
use Rattle.campaign.specs.Found.{StopsWithin, trap_pc_of, verdict_of, input_shows, Stops, IsStill, IsSilentAt}
use Rattle.campaign.specs.Verdict.{IsTried, IsFound, IsSilent, StopsAfter, Shows, Change, changed_run, Ordered, last_step, Verdict, Outcome, is_trapped}
use Rattle.campaign.proofs.Stopping.{run_as, changed_as_at, changed_before, first_stop, behind, StopsBy}

-- ---- a run that stops behind the last change
-- a run that stops at once stopped by the last change
stopped_before : (s : State) (cs : List Change) (b : ℕ) (how : Outcome) → (changed_run s cs (last_step cs)).outcome ≢ Going → (changed_run s cs (last_step cs)).outcome ≡ how → IsFound s b cs how 0
stopped_before s cs b how x e =
    let first : StopsBy (changed_run s cs) (last_step cs) = first_stop (changed_run s cs) (last_step cs) x in
    let same = changed_as_at s cs first.steps (last_step cs) first.within first.stops.stopped in
    record {
      steps = first.steps;
      within = omega (arith, first.within);
      stops = first.stops;
      outcome = ap (λ y. y.outcome) (sym same) ∙ e;
      later = omega (arith, first.within);
    }

-- before k steps behind the last change it goes on
on_before :
    (s : State) (cs : List Change) (k : ℕ) → Ordered cs → 0 < k → ((i : ℕ) → i < k → (run (changed_run s cs (last_step cs)) i).outcome ≡ Going)
    → (i : ℕ) → i < last_step cs + k → (changed_run s cs i).outcome ≡ Going
on_before s cs k o some h i l = by_case (cases_lt i (last_step cs)) where
  by_case : (i < last_step cs) ⊎ (last_step cs ≤ i) → (changed_run s cs i).outcome ≡ Going
  by_case (inl m) =
      let zero_steps : changed_run s cs (last_step cs + 0) ≡ run (changed_run s cs (last_step cs)) 0 = behind s cs 0 o in
      let e : last_step cs + 0 ≡ last_step cs = omega arith in
      let at : (changed_run s cs (last_step cs)).outcome ≡ Going = ap (λ n. (changed_run s cs n).outcome) (sym e) ∙ ap (λ y. y.outcome) zero_steps ∙ h 0 some in
      changed_before s cs i (last_step cs) (omega arith) at
  by_case (inr m) =
      let e : last_step cs + (i - last_step cs) ≡ i = omega arith in
      ap (λ n. (changed_run s cs n).outcome) (sym e) ∙ ap (λ y. y.outcome) (behind s cs (i - last_step cs) o) ∙ h (i - last_step cs) (omega arith)

found_at :
    (s : State) (cs : List Change) (b : ℕ) (how : Outcome) (k : ℕ) → Ordered cs → k ≤ b → StopsAfter (run (changed_run s cs (last_step cs))) k
    → (run (changed_run s cs (last_step cs)) k).outcome ≡ how → IsFound s b cs how k
unfolding run
found_at s cs b how zero o l x e = stopped_before s cs b how x.stopped e
found_at s cs b how (suc j) o l x e =
    let there = behind s cs (suc j) o in
    record {
      steps = last_step cs + suc j;
      within = omega arith;
      stops = record { stopped = λ g. x.stopped (ap (λ y. y.outcome) (sym there) ∙ g); before = on_before s cs (suc j) o (omega arith) x.before };
      outcome = ap (λ y. y.outcome) there ∙ e;
      later = omega arith;
    }

-- the verdict of a run that stops, by its outcome
pub shows_found :
    (input output : State) (b : ℕ) (cs : List Change) (v : Verdict) → Ordered cs → IsTried output cs → Stops (changed_run output cs (last_step cs)) b v
    → Shows input output b cs (Ok v)
shows_found input output b cs v o t x = by_outcome (run (changed_run output cs (last_step cs)) x.steps).outcome refl x.shows where
  by_outcome : (how : Outcome) → (run (changed_run output cs (last_step cs)) x.steps).outcome ≡ how → verdict_of how x.steps ≡ Some v → Shows input output b cs (Ok v)
  by_outcome Fired e is = let same : verdict.Fired x.steps ≡ v = cc in subst (λ w. Shows input output b cs (Ok w)) same (t, found_at output cs b Fired x.steps o x.within x.stops e)
  by_outcome Ended e is = let same : verdict.Ended x.steps ≡ v = cc in subst (λ w. Shows input output b cs (Ok w)) same (t, found_at output cs b Ended x.steps o x.within x.stops e)
  by_outcome Going e is = absurd (cc)
  by_outcome (Trapped cause pc) e is = absurd (cc)

-- ---- a run that shows nothing
-- a run that stopped within the bound is stopped at its end
at_end : (s : State) (cs : List Change) (b : ℕ) (how : Outcome) (k : ℕ) → Ordered cs → IsFound s b cs how k → (run (changed_run s cs (last_step cs)) b).outcome ≡ how
at_end s cs b how k o f =
    let same = changed_as_at s cs f.steps (last_step cs + b) f.within f.stops.stopped in
    ap (λ y. y.outcome) (sym (behind s cs b o)) ∙ ap (λ y. y.outcome) same ∙ f.outcome

pub is_silent : (s : State) (cs : List Change) (b : ℕ) → Ordered cs → IsStill (changed_run s cs (last_step cs)) b → IsSilent s b cs
is_silent s cs b o x = record {
  no_check = λ k f. let n : verdict_of Fired 0 ≡ None = subst (λ h. verdict_of h 0 ≡ None) (at_end s cs b Fired k o f) x.shows_none in cc;
  no_end = λ k f. let n : verdict_of Ended 0 ≡ None = subst (λ h. verdict_of h 0 ≡ None) (at_end s cs b Ended k o f) x.shows_none in cc;
}

-- an outcome without a verdict has none, whatever the number of steps
no_verdict : (o : Outcome) (k : ℕ) → verdict_of o k ≡ None → verdict_of o 0 ≡ None
no_verdict Going k e = refl
no_verdict Ended k e = absurd (cc)
no_verdict Fired k e = absurd (cc)
no_verdict (Trapped c p) k e = refl

pub stop_shows :
    (s after : State) (b steps : ℕ) (o : Outcome) (r : Option Verdict) → StopsWithin s b after steps → o ≡ after.outcome → r ≡ verdict_of o steps → MatchOption r (IsStill s b) (Stops s b)
stop_shows s after b steps o (Some v) w e is = record { steps = steps; within = w.within; stops = w.stops; shows = ap (λ x. verdict_of x steps) (sym (e ∙ ap (λ x. x.outcome) w.there)) ∙ sym is }
stop_shows s after b steps o None w e is =
    let same : run s b ≡ run s steps = run_as s steps b w.within w.stops.stopped in
    let there : o ≡ (run s b).outcome = e ∙ ap (λ x. x.outcome) (w.there ∙ sym same) in
    record { shows_none = subst (λ x. verdict_of x 0 ≡ None) there (no_verdict o steps (sym is)) }

-- ---- the input's run
trap_of : (o : Outcome) (pc : ℕ) → trap_pc_of o ≡ Some pc → (cause : Cause) × (o ≡ Trapped cause pc)
trap_of Going pc e = absurd (cc)
trap_of Ended pc e = absurd (cc)
trap_of Fired pc e = absurd (cc)
trap_of (Trapped cause p) pc e = let same : p ≡ pc = cc in (cause, ap (Trapped cause) same)

no_trap : (o : Outcome) → trap_pc_of o ≡ None → is_trapped o ≡ false
no_trap Going e = refl
no_trap Ended e = refl
no_trap Fired e = refl
no_trap (Trapped cause p) e = absurd (cc)

-- if the output shows nothing, the input's run decides
pub shows_input :
    (input output : State) (b : ℕ) (cs : List Change) (trap : Option ℕ) → Ordered cs → IsSilentAt output b cs → trap ≡ trap_pc_of (run input (last_step cs + b)).outcome
    → Shows input output b cs (input_shows trap)
shows_input input output b cs (Some pc) o x e =
    let p = trap_of (run input (last_step cs + b)).outcome pc (sym e) in
    (x.tried, is_silent output cs b o x.still, record { cause = p.0; trapped = p.1 })
shows_input input output b cs None o x e = (x.tried, is_silent output cs b o x.still, no_trap (run input (last_step cs + b)).outcome (sym e))

-- ---- the output alone
-- the verdict for any input
pub shown_all :
    (output : State) (b : ℕ) (cs : List Change) (r : Option Verdict) → Ordered cs → IsTried output cs
    → (let s = changed_run output cs (last_step cs) in MatchOption r (IsStill s b) (Stops s b))
    → MatchOption r (IsSilentAt output b cs) (λ v. (input : State) → Shows input output b cs (Ok v))
shown_all output b cs None o t x = record { tried = t; still = x }
shown_all output b cs (Some v) o t x = λ input. shows_found input output b cs v o t x

-- from an answer without a verdict
pub where_none : (r : Option Verdict) (P : Type 0) (Q : Verdict → Type 0) → ((v : Verdict) → r ≡ Some v → ⊥) → MatchOption r P Q → P
where_none None P Q n x = x
where_none (Some v) P Q n x = absurd (n v refl)

-- A strike that begins at a later state shows the verdict from the start, if no change comes before.
use Rattle.std.proofs.Common.{◌≡◌, ◌⊎◌, inl, inr, ℕ, zero, suc, ◌+◌, ◌-◌, ◌<◌, ◌≤◌, Bool, true, false, cond, ◌||◌, List, [], ◌∷◌, refl, sym, ap, ◌∙◌, subst, arith}
use Rattle.std.specs.Prelude.{◌==◌, Option, Some, Result, Ok, Err, All}
use Rattle.std.proofs.lemmas.Bool.{cases_lt, eq-eqb, ne_eqb, eqb-true}
use Rattle.machine.specs.declared.outcome.Outcome.TheVariants.{Going, Ended, Fired}
use Rattle.qed_model.specs.declared.verdict.Verdict.TheVariants as verdict
use Rattle.machine.specs.Progress.{first_state}
use Rattle.machine.specs.Step.{State, step, run}
use Rattle.qed_model.specs.Promise.Changed.{changed, changed_as, with_changes, changed_run, Ordered, last_step}
use Rattle.machine.proofs.Lemmas.{every_all, run-last, run-more}
use Rattle.qed_model.proofs.Lemmas.{first_last, run_unchanged}
use Rattle.fault_inject.proofs.Changing.{AllFrom, from_less, not_made}
use Rattle.campaign.specs.declared.error.StrikeError.TheVariants as error
use Rattle.campaign.specs.declared.error.StrikeError.{StrikeError}
use Rattle.campaign.specs.Found.{trap_pc_of}
use Rattle.campaign.specs.Later.{counted_from, all_from, first_step}
use Rattle.campaign.specs.Verdict.{GoesPast, has_closed, IsTried, IsFound, IsSilent, Shows, IsVerdict, Change, Verdict, Outcome, bound_of, Bounds, is_trapped, is_closed_place}
use Rattle.campaign.proofs.Stopping.{going_before, behind}

-- ---- no change comes before
-- before the changes the run is the one without
unchanged_before : (s : State) (cs : List Change) (n : ℕ) → AllFrom (n + 1) cs → changed_run s cs n ≡ run s n
unchanged_before s cs n from = ap (λ p. p.state) (not_made (first_state s) [] cs n from) ∙ run_unchanged s n

-- the run up to the first changes: the run without changes, then the changes at its step
up_to : (s : State) (cs : List Change) (m : ℕ) → AllFrom m cs → changed_run s cs m ≡ with_changes cs m (run s m)
unfolding changed_run run
up_to s cs zero from = refl
up_to s cs (suc n) from =
    let before = unchanged_before s cs n (from_less (suc n) (n + 1) cs (omega arith) from) in
    let next : n + 1 ≡ suc n = omega arith in
    ap (λ x. with_changes cs (suc n) (step x)) before ∙ ap (with_changes cs (suc n)) (sym (run-last s n) ∙ ap (run s) next)

-- ---- changes as they are counted from m on
same_step : (a m n : ℕ) → m ≤ a → (a - m == n) ≡ (a == m + n)
same_step a m n h = by_case (a == m + n) refl where
  by_case : (b : Bool) → (a == m + n) ≡ b → (a - m == n) ≡ (a == m + n)
  by_case true e = let x : a ≡ m + n = eqb-true a (m + n) e in eq-eqb (a - m) n (omega (arith, x)) ∙ sym e
  by_case false e = ne_eqb (a - m) n (λ x. let y : a ≡ m + n = omega (arith, x, h) in let z : (a == m + n) ≡ true = eq-eqb a (m + n) y in cc) ∙ sym e

-- a change counted from m on changes alike
same_change : (o : Outcome) (m : ℕ) (c : Change) (s : State) → changed_as o (counted_from m c) s ≡ changed_as o c s
same_change Going m c s = refl
same_change o m c s = refl

with_later : (cs : List Change) (m n : ℕ) (s : State) → AllFrom m cs → with_changes (all_from m cs) n s ≡ with_changes cs (m + n) s
unfolding with_changes
with_later [] m n s from = refl
with_later (c ∷ cs) m n s from =
    ap (λ x. with_changes (all_from m cs) n (cond (c.step - m == n) x s)) (same_change s.outcome m c s) ∙ ap (λ b. with_changes (all_from m cs) n (cond b (changed c s) s)) (same_step c.step m n from.0) ∙ with_later cs m n (cond (c.step == m + n) (changed c s) s) from.1

-- the changed run from a later state
pub shifted : (s : State) (cs : List Change) (m n : ℕ) → AllFrom m cs → changed_run s cs (m + n) ≡ changed_run (run s m) (all_from m cs) n
unfolding changed_run
shifted s cs m zero from =
    let e : m + 0 ≡ m = omega arith in
    ap (changed_run s cs) e ∙ up_to s cs m from ∙ ap (λ k. with_changes cs k (run s m)) (sym e) ∙ sym (with_later cs m 0 (run s m) from)
shifted s cs m (suc n) from =
    let e : m + suc n ≡ suc (m + n) = omega arith in
    ap (changed_run s cs) e ∙ ap (λ x. with_changes cs (suc (m + n)) (step x)) (shifted s cs m n from)
    ∙ ap (λ k. with_changes cs k (step (changed_run (run s m) (all_from m cs) n))) (sym e) ∙ sym (with_later cs m (suc n) _ from)

-- the last step, counted from m on
pub last_later : (cs : List Change) (m : ℕ) → last_step (all_from m cs) ≡ last_step cs - m
last_later [] m = omega arith
last_later (c ∷ []) m = refl
last_later (c ∷ d ∷ cs) m = last_later (d ∷ cs) m

-- steps counted from m on do not fall
pub ordered_later : (cs : List Change) (m : ℕ) → Ordered cs → Ordered (all_from m cs)
ordered_later [] m o = tt
ordered_later (c ∷ []) m o = tt
ordered_later (c ∷ d ∷ cs) m o = (omega (arith, o.0), ordered_later (d ∷ cs) m o.1)

-- if the first change does not come before m, none does
pub from_first : (cs : List Change) (m : ℕ) → Ordered cs → m ≤ first_step cs → AllFrom m cs
from_first [] m o h = tt
from_first (c ∷ []) m o h = (h, tt)
from_first (c ∷ d ∷ cs) m o h = (h, from_first (d ∷ cs) m o.1 (omega (arith, h, o.0)))

pub last_from : (cs : List Change) (m : ℕ) → Ordered cs → m ≤ first_step cs → m ≤ last_step cs
last_from [] m o h = h
last_from (c ∷ cs) m o h = let k = first_last c cs o in omega (arith, k, h)

-- ---- from a later state to the start
run_later : (s : State) (cs : List Change) (m n : ℕ) → m ≤ last_step cs → run (run s m) (last_step (all_from m cs) + n) ≡ run s (last_step cs + n)
run_later s cs m n h =
    let last = last_later cs m in
    let e : m + (last_step (all_from m cs) + n) ≡ last_step cs + n = omega (arith, last, h) in
    sym (run-more s m (last_step (all_from m cs) + n)) ∙ ap (run s) e

reached_later : (s : State) (cs : List Change) (m : ℕ) → m ≤ last_step cs → run (run s m) (last_step (all_from m cs)) ≡ run s (last_step cs)
reached_later s cs m h =
    let last = last_later cs m in
    let e : m + last_step (all_from m cs) ≡ last_step cs = omega (arith, last, h) in
    sym (run-more s m (last_step (all_from m cs))) ∙ ap (run s) e

closed_later : (s : State) (cs : List Change) (m : ℕ) → AllFrom m cs → has_closed (run s m) (all_from m cs) ≡ has_closed s cs
closed_later s [] m from = refl
closed_later s (c ∷ cs) m from =
    let e : m + (c.step - m) ≡ c.step = omega (arith, from.0) in
    let there : run (run s m) (c.step - m) ≡ run s c.step = sym (run-more s m (c.step - m)) ∙ ap (run s) e in
    ap (λ x. is_closed_place x c.place || has_closed (run s m) (all_from m cs)) there ∙ ap (λ b. is_closed_place (run s c.step) c.place || b) (closed_later s cs m from.1)

-- what is found from a later state is found from the start
found_later :
    (s : State) (cs : List Change) (m b : ℕ) (how : Outcome) (k : ℕ) → AllFrom m cs → m ≤ last_step cs → GoesPast s cs
    → IsFound (run s m) b (all_from m cs) how k → IsFound s b cs how k
found_later s cs m b how k from h reached f =
    let last = last_later cs m in
    let there = shifted s cs m f.steps from in
    record {
      steps = m + f.steps;
      within = omega (arith, last, h, f.within);
      stops = record { stopped = λ g. f.stops.stopped (ap (λ y. y.outcome) (sym there) ∙ g); before = λ i l. on i l (cases_lt i m) };
      outcome = ap (λ y. y.outcome) there ∙ f.outcome;
      later = omega (arith, last, h, f.later);
    }
  where
    on : (i : ℕ) → i < m + f.steps → (i < m) ⊎ (m ≤ i) → (changed_run s cs i).outcome ≡ Going
    on i l (inl x) = ap (λ y. y.outcome) (unchanged_before s cs i (from_less m (i + 1) cs (omega arith) from)) ∙ going_before s i (last_step cs) (omega (arith, x, h)) reached
    on i l (inr x) =
        let e : m + (i - m) ≡ i = omega arith in
        ap (λ n. (changed_run s cs n).outcome) (sym e) ∙ ap (λ y. y.outcome) (shifted s cs m (i - m) from) ∙ f.stops.before (i - m) (omega arith)

-- what is found from the start is found from a later state
found_from :
    (s : State) (cs : List Change) (m b : ℕ) (how : Outcome) (k : ℕ) → AllFrom m cs → m ≤ last_step cs → GoesPast s cs
    → IsFound s b cs how k → IsFound (run s m) b (all_from m cs) how k
found_from s cs m b how k from h reached f =
    let last = last_later cs m in
    let late : m ≤ f.steps = not_before (cases_lt f.steps m) in
    let e : m + (f.steps - m) ≡ f.steps = omega arith in
    let there : changed_run s cs f.steps ≡ changed_run (run s m) (all_from m cs) (f.steps - m) = ap (changed_run s cs) (sym e) ∙ shifted s cs m (f.steps - m) from in
    record {
      steps = f.steps - m;
      within = omega (arith, last, h, f.within);
      stops = record {
        stopped = λ g. f.stops.stopped (ap (λ y. y.outcome) there ∙ g);
        before = λ i l. ap (λ y. y.outcome) (sym (shifted s cs m i from)) ∙ f.stops.before (m + i) (omega (arith, l));
      };
      outcome = ap (λ y. y.outcome) (sym there) ∙ f.outcome;
      later = omega (arith, last, h, f.later, late);
    }
  where
    not_before : (f.steps < m) ⊎ (m ≤ f.steps) → m ≤ f.steps
    not_before (inr x) = x
    not_before (inl x) =
        let same = unchanged_before s cs f.steps (from_less m (f.steps + 1) cs (omega arith) from) in
        absurd (f.stops.stopped (ap (λ y. y.outcome) same ∙ going_before s f.steps (last_step cs) (omega (arith, x, h)) reached))

tried_later : (s : State) (cs : List Change) (m : ℕ) → AllFrom m cs → m ≤ last_step cs → IsTried (run s m) (all_from m cs) → IsTried s cs
tried_later s cs m from h t = record {
  reached = ap (λ y. y.outcome) (sym (reached_later s cs m h)) ∙ t.reached;
  opened = sym (closed_later s cs m from) ∙ t.opened;
}

silent_later : (s : State) (cs : List Change) (m b : ℕ) → AllFrom m cs → m ≤ last_step cs → GoesPast s cs → IsSilent (run s m) b (all_from m cs) → IsSilent s b cs
silent_later s cs m b from h reached x = record {
  no_check = λ k f. x.no_check k (found_from s cs m b Fired k from h reached f);
  no_end = λ k f. x.no_end k (found_from s cs m b Ended k from h reached f);
}

-- the answer from a later state is that from the start
pub shows_later :
    (input output : State) (b : ℕ) (cs : List Change) (m : ℕ) (r : Result Verdict StrikeError) → AllFrom m cs → m ≤ last_step cs
    → Shows (run input m) (run output m) b (all_from m cs) r → Shows input output b cs r
shows_later input output b cs m (Ok verdict.NotReached) from h x = λ g. x (ap (λ y. y.outcome) (reached_later output cs m h) ∙ g)
shows_later input output b cs m (Ok verdict.Closed) from h x =
    (ap (λ y. y.outcome) (sym (reached_later output cs m h)) ∙ x.0, sym (closed_later output cs m from) ∙ x.1)
shows_later input output b cs m (Ok (verdict.Fired k)) from h x =
    let t = tried_later output cs m from h x.0 in (t, found_later output cs m b Fired k from h t.reached x.1)
shows_later input output b cs m (Ok (verdict.Ended k)) from h x =
    let t = tried_later output cs m from h x.0 in (t, found_later output cs m b Ended k from h t.reached x.1)
shows_later input output b cs m (Ok verdict.Same) from h x =
    let t = tried_later output cs m from h x.0 in
    (t, silent_later output cs m b from h t.reached x.1, ap (λ y. is_trapped y.outcome) (sym (run_later input cs m b h)) ∙ x.2)
shows_later input output b cs m (Err (error.Trapped pc)) from h x =
    let t = tried_later output cs m from h x.0 in
    (t, silent_later output cs m b from h t.reached x.1, record { cause = x.2.cause; trapped = ap (λ y. y.outcome) (sym (run_later input cs m b h)) ∙ x.2.trapped })
shows_later input output b cs m (Err error.Memory) from h x = tt

-- the answer of a strike, if the output has made some steps, at most up to the first change
pub strike_shows :
    (input output v : State) (bounds : Bounds) (cs later : List Change) (m b : ℕ) (r : Result Verdict StrikeError) → bound_of bounds cs ≡ Some b → Ordered cs
    → m ≤ first_step cs → v ≡ run output m → later ≡ all_from m cs → Shows (run input m) v b later r
    → IsVerdict input output bounds cs r
strike_shows input output v bounds cs later m b r bound o h is_output is_later x n e =
    let same : b ≡ n = cc in
    let from_output : Shows (run input m) (run output m) b later r = subst (λ s. Shows (run input m) s b later r) is_output x in
    let from_both : Shows (run input m) (run output m) b (all_from m cs) r = subst (λ ds. Shows (run input m) (run output m) b ds r) is_later from_output in
    subst (λ k. Shows input output k cs r) same (shows_later input output b cs m r (from_first cs m o h) (last_from cs m o h) from_both)

-- the input's trap, known from the start, in terms of the later state
pub trap_later :
    (input : State) (cs later : List Change) (m b : ℕ) (pc : Option ℕ) → Ordered cs → m ≤ first_step cs → later ≡ all_from m cs
    → pc ≡ trap_pc_of (run input (last_step cs + b)).outcome → pc ≡ trap_pc_of (run (run input m) (last_step later + b)).outcome
trap_later input cs later m b pc o h is_later e =
    e ∙ ap (λ s. trap_pc_of s.outcome) (sym (run_later input cs m b (last_from cs m o h))) ∙ ap (λ ds. trap_pc_of (run (run input m) (last_step ds + b)).outcome) (sym is_later)

-- no change comes before the copy
pub not_before_all : (cs : List Change) (m : ℕ) → Ordered cs → m ≤ first_step cs → All (λ c. m ≤ c.step) cs
not_before_all cs m o h = every_all (λ c. m ≤ c.step) cs (from_first cs m o h)

-- ---- behind the last change
-- the changed run, if its changes are made from a later state on
pub behind_later :
    (s t u v : State) (cs ds : List Change) (m k : ℕ) → Ordered cs → m ≡ first_step cs → t ≡ run s m → ds ≡ all_from m cs → u ≡ changed_run t ds (last_step ds) → v ≡ run u k
    → v ≡ changed_run s cs (last_step cs + k)
behind_later s t u v cs ds m k ordered first there later made more =
    let low : m ≤ first_step cs = omega (arith, first) in
    let last : last_step ds ≡ last_step cs - m = ap last_step later ∙ last_later cs m in
    let fits : m ≤ last_step cs = last_from cs m ordered low in
    let sum : m + (last_step ds + k) ≡ last_step cs + k = omega (arith, last, fits) in
    more ∙ ap (λ x. run x k) made ∙ sym (behind t ds k (subst Ordered (sym later) (ordered_later cs m ordered)))
    ∙ ap (λ es. changed_run t es (last_step ds + k)) later ∙ ap (λ x. changed_run x (all_from m cs) (last_step ds + k)) there
    ∙ sym (shifted s cs m (last_step ds + k) (from_first cs m ordered low)) ∙ ap (changed_run s cs) sum

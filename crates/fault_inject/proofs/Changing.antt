-- Runs with changes: plain steps between two changes, one more change, and changes that come later.
use Rattle.std.proofs.Common.{◌≡◌, ℕ, zero, suc, ◌+◌, ◌-◌, ◌<◌, ◌≤◌, false, cond, List, [], ◌∷◌, ◌++◌, length, get_or, drop, take, drop-cons, add-one, refl, sym, ap, ◌∙◌, subst, arith}
use Rattle.std.proofs.Math.Seq.{take-suc}
use Rattle.std.proofs.lemmas.List.{take-append-drop, drop_all}
use Rattle.std.specs.Prelude.{◌==◌, All, Result, Ok, Err, IfErr}
use Rattle.std.proofs.lemmas.List.Elements.{All-nil, All-cons}
use Rattle.std.proofs.lemmas.Bool.{eq-eqb, ne_eqb}
use Rattle.qed_model.specs.declared.change.Change.{Change}
use Rattle.machine.specs.Step.{State, step}
use Rattle.machine.specs.Progress.{Progress, advanced, steps_after, progress}
use Rattle.qed_model.specs.Promise.Changed.{changed, with_changes, changed_run, Ordered}
use Rattle.machine.specs.Members.{Every}
use Rattle.qed_model.proofs.Lemmas.{AllBy, none_left}
use Rattle.machine.proofs.Lemmas.{every_all}
use Rattle.fault_inject.specs.Counted.{changed_steps, IsPartOf}
use Rattle.rv_step.specs.Known.{IsPart}
use Rattle.rv_step.proofs.Running.{progress_last, progress_more}

-- what always holds also holds of an Err
pub any_err : {T E : Type 0} (r : Result T E) (P : Type 0) → P → IfErr r (λ _. P)
any_err (Ok x) P p = tt
any_err (Err e) P p = p

-- ---- plain steps behind plain steps
pub further : (p q r : Progress) (a b n : ℕ) → q ≡ progress p a → r ≡ progress q b → a + b ≡ n → r ≡ progress p n
further p q r a b n there is sum = is ∙ ap (λ x. progress x b) there ∙ sym (progress_more p a b) ∙ ap (progress p) sum

pub part_further : (p q r : Progress) (a b n : ℕ) → q ≡ progress p a → IsPart q b r → a + b ≤ n → IsPart p n r
part_further p q r a b n there part within =
    let most = part.most in
    record { count = a + part.count; most = omega (arith, most, within); made = further p q r a part.count (a + part.count) there part.made refl }

-- ---- runs with changes
-- a machine after n steps with changes
abbrev pub changed_progress : Progress → List Change → ℕ → Progress
changed_progress m cs n = record { state = changed_run m.state cs n; steps = changed_steps m cs n }

-- each change is made after t steps or later
abbrev pub AllFrom : ℕ → List Change → Type 0
AllFrom t cs = Every (λ c. t ≤ c.step) cs

-- ---- the changes at one step
-- no change is made if each comes later
pub none_yet : (n t : ℕ) (cs : List Change) (s : State) → AllFrom t cs → n < t → with_changes cs n s ≡ s
unfolding with_changes
none_yet n t [] s from h = refl
none_yet n t (c ∷ cs) s from h = let e : (c.step == n) ≡ false = ne_eqb c.step n (λ x. absurd (omega (arith, x, from.0))) in ap (λ b. with_changes cs n (cond b (changed c s) s)) e ∙ none_yet n t cs s from.1 h

-- the changes of one list, then those of another
pub with_changes-append : (cs ds : List Change) (n : ℕ) (s : State) → with_changes (cs ++ ds) n s ≡ with_changes ds n (with_changes cs n s)
unfolding with_changes
with_changes-append [] ds n s = refl
with_changes-append (c ∷ cs) ds n s = with_changes-append cs ds n (cond (c.step == n) (changed c s) s)

-- one change, at its step
pub with_change : (c : Change) (s : State) → with_changes (c ∷ []) c.step s ≡ changed c s
unfolding with_changes
with_change c s = ap (λ b. cond b (changed c s) s) (eq-eqb c.step c.step refl)

-- ---- changes that come later
pub later_run : (s : State) (cs ds : List Change) (t n : ℕ) → AllFrom t ds → n < t → changed_run s (cs ++ ds) n ≡ changed_run s cs n
unfolding changed_run
later_run s cs ds t zero from h = with_changes-append cs ds 0 s ∙ none_yet 0 t ds (with_changes cs 0 s) from h
later_run s cs ds t (suc n) from h =
    let before = later_run s cs ds t n from (omega arith) in
    ap (λ x. with_changes (cs ++ ds) (suc n) (step x)) before
    ∙ with_changes-append cs ds (suc n) (step (changed_run s cs n))
    ∙ none_yet (suc n) t ds (with_changes cs (suc n) (step (changed_run s cs n))) from h

later_steps : (m : Progress) (cs ds : List Change) (t n : ℕ) → AllFrom t ds → n ≤ t → changed_steps m (cs ++ ds) n ≡ changed_steps m cs n
unfolding changed_steps
later_steps m cs ds t zero from h = refl
later_steps m cs ds t (suc n) from h =
    let state = later_run m.state cs ds t n from (omega arith) in
    let steps = later_steps m cs ds t n from (omega arith) in
    ap (λ x. steps_after x.outcome (changed_steps m (cs ++ ds) n)) state ∙ ap (steps_after (changed_run m.state cs n).outcome) steps

-- changes behind the n-th step are not made
pub not_made : (m : Progress) (cs ds : List Change) (n : ℕ) → AllFrom (n + 1) ds → changed_progress m (cs ++ ds) n ≡ changed_progress m cs n
not_made m cs ds n from =
    let state = later_run m.state cs ds (n + 1) n from (omega arith) in
    let steps = later_steps m cs ds (n + 1) n from (omega arith) in
    ap (λ x. record { state = x; steps = changed_steps m (cs ++ ds) n }) state ∙ ap (λ k. record { state = changed_run m.state cs n; steps = k }) steps

-- ---- one more change
one_run : (s : State) (cs : List Change) (c : Change) (n : ℕ) → c.step ≡ n → changed_run s (cs ++ c ∷ []) n ≡ with_changes (c ∷ []) n (changed_run s cs n)
unfolding changed_run
one_run s cs c zero e = with_changes-append cs (c ∷ []) 0 s
one_run s cs c (suc n) e =
    let before = later_run s cs (c ∷ []) (suc n) n (omega (arith, e), tt) (omega arith) in
    ap (λ x. with_changes (cs ++ c ∷ []) (suc n) (step x)) before ∙ with_changes-append cs (c ∷ []) (suc n) (step (changed_run s cs n))

pub changed_next : (s : State) (cs : List Change) (c : Change) → changed_run s (cs ++ c ∷ []) c.step ≡ changed c (changed_run s cs c.step)
changed_next s cs c = one_run s cs c c.step refl ∙ with_change c (changed_run s cs c.step)

pub counted_next : (m : Progress) (cs : List Change) (c : Change) → changed_steps m (cs ++ c ∷ []) c.step ≡ changed_steps m cs c.step
counted_next m cs c = later_steps m cs (c ∷ []) c.step c.step (omega arith, tt) (omega arith)

-- ---- plain steps
-- a plain step, when all changes were made
plain_step : (m : Progress) (cs : List Change) (t n : ℕ) → AllBy t cs → t ≤ n → changed_progress m cs (suc n) ≡ advanced (changed_progress m cs n)
unfolding changed_run changed_steps advanced
plain_step m cs t n by h = let s = step (changed_run m.state cs n) in ap (λ x. record { state = x; steps = changed_steps m cs (suc n) }) (none_left (suc n) t cs s by (omega arith))

-- a run with changes goes on as a plain run behind the last of them
pub plain : (m : Progress) (cs : List Change) (t k : ℕ) → AllBy t cs → changed_progress m cs (t + k) ≡ progress (changed_progress m cs t) k
unfolding progress
plain m cs t zero by = let e : t + 0 ≡ t = omega arith in ap (changed_progress m cs) e
plain m cs t (suc k) by =
    let e : t + suc k ≡ suc (t + k) = omega arith in
    ap (changed_progress m cs) e ∙ plain_step m cs t (t + k) by (omega arith) ∙ ap advanced (plain m cs t k by) ∙ sym (progress_last (changed_progress m cs t) k)

-- ---- on the way
-- a machine has made the first k changes of a list and `done` steps, and the other changes come later
pub record Reached (m : Progress) (cs : List Change) (k done : ℕ) (p : Progress) : Type 0 where
  pub now : p ≡ changed_progress m (take k cs) done
  pub by : AllBy done (take k cs)
  pub from : AllFrom done (drop k cs)

-- all changes come at step 0 or later
pub all_from_zero : (cs : List Change) → AllFrom 0 cs
all_from_zero [] = tt
all_from_zero (c ∷ cs) = (omega arith, all_from_zero cs)

pub started : (m : Progress) (cs : List Change) → Reached m cs 0 0 m
unfolding changed_run changed_steps with_changes
started m cs = record { now = refl; by = tt; from = all_from_zero cs }

-- steps that do not fall do not fall behind a change
pub ordered_drop : (cs : List Change) (k : ℕ) → Ordered cs → Ordered (drop k cs)
ordered_drop cs zero o = o
ordered_drop [] (suc k) o = tt
ordered_drop (c ∷ []) (suc k) o = ordered_drop [] k tt
ordered_drop (c ∷ d ∷ cs) (suc k) o = ordered_drop (d ∷ cs) k o.1

-- if the first of ordered changes comes at t or later, so do all
pub ordered_from : (t : ℕ) (c : Change) (cs : List Change) → t ≤ c.step → Ordered (c ∷ cs) → AllFrom t cs
ordered_from t c [] h o = tt
ordered_from t c (d ∷ cs) h o = (omega (arith, h, o.0), ordered_from t d cs (omega (arith, h, o.0)) o.1)

pub all_by_more : (t u : ℕ) (cs : List Change) (c : Change) → AllBy t cs → t ≤ u → c.step ≤ u → AllBy u (cs ++ c ∷ [])
all_by_more t u [] c by h l = (l, tt)
all_by_more t u (d ∷ cs) c by h l = (omega (arith, h, by.0), all_by_more t u cs c by.1 h l)

-- the change that is next
pub drop_at : (cs : List Change) (k : ℕ) (c : Change) → k < length cs → c ≡ get_or cs k c → drop k cs ≡ c ∷ drop (k + 1) cs
drop_at cs k c lt e = drop-cons cs k c lt ∙ ap (λ d. d ∷ drop (suc k) cs) (sym e) ∙ rw add-one refl

pub take_at : (cs : List Change) (k : ℕ) (c : Change) → k < length cs → c ≡ get_or cs k c → take (k + 1) cs ≡ take k cs ++ c ∷ []
take_at cs k c lt e = rw add-one (take-suc cs k c lt) ∙ ap (λ d. take k cs ++ d ∷ []) (sym e)

-- the changes left come late if the next one does, or if none is left
pub left_before : (cs : List Change) (k last : ℕ) (c : Change) → Ordered cs → k < length cs → c ≡ get_or cs k c → last ≤ c.step → AllFrom last (drop k cs)
left_before cs k last c o lt e late =
    let split = drop_at cs k c lt e in
    subst (AllFrom last) (sym split) (late, ordered_from last c (drop (k + 1) cs) late (subst Ordered split (ordered_drop cs k o)))

pub left_none : (cs : List Change) (k last : ℕ) → length cs ≤ k → AllFrom last (drop k cs)
left_none cs k last all = subst (AllFrom last) (sym (drop_all k cs all)) tt

-- the next change does not come before the steps made
pub next_later : (m : Progress) (cs : List Change) (k done : ℕ) (p : Progress) (c : Change) → k < length cs → c ≡ get_or cs k c → Reached m cs k done p → done ≤ c.step
next_later m cs k done p c lt e r = (subst (AllFrom done) (drop_at cs k c lt e) r.from).0

-- plain steps on the way
runs_on : (m : Progress) (cs : List Change) (k done n : ℕ) (p : Progress) → Reached m cs k done p → done ≤ n → progress p (n - done) ≡ changed_progress m (take k cs) n
runs_on m cs k done n p r h =
    let sum : done + (n - done) ≡ n = omega arith in
    ap (λ q. progress q (n - done)) r.now ∙ sym (plain m (take k cs) done (n - done) r.by) ∙ ap (changed_progress m (take k cs)) sum

-- the machine after the next change
pub reached_next :
    (m : Progress) (cs : List Change) (k done : ℕ) (p q : Progress) (c : Change) → Ordered cs → k < length cs → c ≡ get_or cs k c → Reached m cs k done p
    → q.state ≡ changed c (progress p (c.step - done)).state → q.steps ≡ (progress p (c.step - done)).steps → Reached m cs (k + 1) c.step q
reached_next m cs k done p q c o lt e r state steps =
    let later : done ≤ c.step = next_later m cs k done p c lt e r in
    let there = runs_on m cs k done c.step p r later in
    let split = take_at cs k c lt e in
    let state_is : q.state ≡ changed_run m.state (take k cs ++ c ∷ []) c.step = state ∙ ap (λ x. changed c x.state) there ∙ sym (changed_next m.state (take k cs) c) in
    let steps_is : q.steps ≡ changed_steps m (take k cs ++ c ∷ []) c.step = steps ∙ ap (λ x. x.steps) there ∙ sym (counted_next m (take k cs) c) in
    let now_is : q ≡ changed_progress m (take k cs ++ c ∷ []) c.step = ap (λ s. record { state = s; steps = q.steps }) state_is ∙ ap (λ n. record { state = changed_run m.state (take k cs ++ c ∷ []) c.step; steps = n }) steps_is in
    record {
      now = now_is ∙ ap (λ ds. changed_progress m ds c.step) (sym split);
      by = subst (AllBy c.step) (sym split) (all_by_more done c.step (take k cs) c r.by later (omega arith));
      from = ordered_from c.step c (drop (k + 1) cs) (omega arith) (subst Ordered (drop_at cs k c lt e) (ordered_drop cs k o));
    }

-- the end of the run, when the other changes come too late
pub ends : (m : Progress) (cs : List Change) (k done n : ℕ) (p : Progress) → Reached m cs k done p → done ≤ n → AllFrom (n + 1) (drop k cs) → progress p (n - done) ≡ changed_progress m cs n
ends m cs k done n p r h late = runs_on m cs k done n p r h ∙ sym (not_made m (take k cs) (drop k cs) n late) ∙ ap (λ ds. changed_progress m ds n) (take-append-drop k cs)

-- ---- a part of the run
all_by : (t : ℕ) (cs : List Change) → AllBy t cs → All (λ c. c.step ≤ t) cs
all_by t [] h = All-nil (λ c. c.step ≤ t)
all_by t (c ∷ cs) h = All-cons (λ d. d.step ≤ t) c cs h.0 (all_by t cs h.1)

by_more : (t u : ℕ) (cs : List Change) → t ≤ u → AllBy t cs → AllBy u cs
by_more t u [] l h = tt
by_more t u (c ∷ cs) l h = (omega (arith, l, h.0), by_more t u cs l h.1)

pub from_less : (t u : ℕ) (cs : List Change) → u ≤ t → AllFrom t cs → AllFrom u cs
from_less t u [] l h = tt
from_less t u (c ∷ cs) l h = (omega (arith, l, h.0), from_less t u cs l h.1)

-- some more plain steps
pub part_made :
    (m : Progress) (cs : List Change) (k done n j last : ℕ) (p q : Progress) → Reached m cs k done p → done + j ≤ n → done + j ≤ last → AllFrom last (drop k cs) → q ≡ progress p j
    → IsPartOf m cs n q
part_made m cs k done n j last p q r most l late e =
    let is : q ≡ changed_progress m (take k cs) (done + j) = e ∙ ap (λ x. progress x j) r.now ∙ sym (plain m (take k cs) done j r.by) in
    record {
      count = done + j;
      most = most;
      made = k;
      before = all_by (done + j) (take k cs) (by_more done (done + j) (take k cs) (omega arith) r.by);
      behind = every_all (λ c. done + j ≤ c.step) (drop k cs) (from_less last (done + j) (drop k cs) l late);
      state = ap (λ x. x.state) is;
      steps = ap (λ x. x.steps) is;
    }

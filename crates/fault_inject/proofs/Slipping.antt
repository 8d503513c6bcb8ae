-- Runs with changes and a slip: a part of them, one more change, changes that come later, and what became of the slip.
use Rattle.std.proofs.Common.{◌≡◌, ℕ, zero, suc, ◌+◌, ◌-◌, ◌<◌, ◌≤◌, cond, ◌&&◌, List, [], ◌∷◌, ◌++◌, Option, None, Some, length, get_or, drop, take, refl, sym, ap, ◌∙◌, subst, arith, ⊎_elim, nat_lt}
use Rattle.std.proofs.lemmas.Bool.{cases_lt, eq-eqb, ne_eqb, le-leb, lt-leb, lt-ltb, le-ltb}
use Rattle.std.proofs.lemmas.List.{take-append-drop}
use Rattle.std.specs.Prelude.{if◌then◌else◌}
use Rattle.std.specs.Option.{unwrap_or}
use Rattle.machine.specs.Progress.{Progress, advanced, steps_after, progress}
use Rattle.machine.specs.Step.{State, step}
use Rattle.qed_model.specs.declared.change.Change.{Change}
use Rattle.qed_model.specs.Promise.Changed.{changed, with_changes, Ordered}
use Rattle.qed_model.proofs.Lemmas.{AllBy, none_left}
use Rattle.rv_step.specs.Slipped.{slipped, slipped_step}
use Rattle.rv_step.specs.declared.slip.SlipAt.{SlipAt}
use Rattle.rv_step.proofs.Running.{none_made, progress_last}
use Rattle.fault_inject.specs.Slipped.{step_of, slipped_run, slipped_steps, slipped_at, what_slipped, slipped_next, slipped_part, what_part}
use Rattle.fault_inject.specs.declared.slips.Slipped.{Slipped}
use Rattle.fault_inject.specs.declared.slips.Slipped.TheVariants.{NotReached}
use Rattle.fault_inject.proofs.Changing.{AllFrom, none_yet, with_changes-append, with_change, all_from_zero, ordered_drop, ordered_from, all_by_more, drop_at, take_at}

same_progress : (p q : Progress) → p.state ≡ q.state → p.steps ≡ q.steps → p ≡ q
same_progress p q s n = ap (λ x. record { state = x; steps = p.steps }) s ∙ ap (λ x. record { state = q.state; steps = x }) n

-- ---- a part of the run
-- a step without the slip, and that with it
other_step : (at : SlipAt) (n : ℕ) (p : Progress) → (n ≡ at.step → ⊥) → slipped_next at n p ≡ advanced p
unfolding advanced
other_step at n p h = ap (λ b. record { state = cond b (slipped_step at.slip p.state) (step p.state); steps = steps_after p.state.outcome p.steps }) (ne_eqb n at.step h)

slip_step : (at : SlipAt) (n : ℕ) (p : Progress) → n ≡ at.step → slipped_next at n p ≡ slipped at.slip p
unfolding slipped
slip_step at n p h = ap (λ b. record { state = cond b (slipped_step at.slip p.state) (step p.state); steps = steps_after p.state.outcome p.steps }) (eq-eqb n at.step h)

-- a part that has no slip
pub part_plain : (at : SlipAt) (p : Progress) (t n : ℕ) → ((k : ℕ) → k < n → t + k ≡ at.step → ⊥) → slipped_part at p t n ≡ progress p n
unfolding slipped_part
part_plain at p t zero h = none_made p
part_plain at p t (suc n) h =
    ap (slipped_next at (t + n)) (part_plain at p t n (λ k lt. h k (omega (arith, lt)))) ∙ other_step at (t + n) (progress p n) (h n (omega arith)) ∙ sym (progress_last p n)

-- a part up to the slip
pub part_before : (at : SlipAt) (p : Progress) (t n : ℕ) → t + n ≤ at.step → slipped_part at p t n ≡ progress p n
part_before at p t n h = part_plain at p t n (λ k lt e. absurd (omega (arith, h, lt, e)))

-- a part with the slip, and k steps behind it
part_slipped : (at : SlipAt) (p : Progress) (t n k : ℕ) → t + n ≡ at.step → slipped_part at p t (n + 1 + k) ≡ progress (slipped at.slip (progress p n)) k
unfolding slipped_part
part_slipped at p t n zero e =
    let one : n + 1 + 0 ≡ suc n = omega arith in
    ap (slipped_part at p t) one ∙ ap (slipped_next at (t + n)) (part_before at p t n (omega (arith, e))) ∙ slip_step at (t + n) (progress p n) e ∙ none_made (slipped at.slip (progress p n))
part_slipped at p t n (suc k) e =
    let more : n + 1 + suc k ≡ suc (n + 1 + k) = omega arith in
    let q = slipped at.slip (progress p n) in
    ap (slipped_part at p t) more ∙ ap (slipped_next at (t + (n + 1 + k))) (part_slipped at p t n k e) ∙ other_step at (t + (n + 1 + k)) (progress q k) (λ x. absurd (omega (arith, x, e))) ∙ sym (progress_last q k)

pub part_with : (at : SlipAt) (p : Progress) (t u : ℕ) → t ≤ at.step → at.step < u → slipped_part at p t (u - t) ≡ progress (slipped at.slip (progress p (at.step - t))) (u - (at.step + 1))
part_with at p t u le lt =
    let sum : u - t ≡ at.step - t + 1 + (u - (at.step + 1)) = omega (arith, le, lt) in
    ap (slipped_part at p t) sum ∙ part_slipped at p t (at.step - t) (u - (at.step + 1)) (omega (arith, le))

-- what became of a slip in a part
pub what_before : (at : SlipAt) (p : Progress) (t u : ℕ) → at.step < t → what_part at p t u ≡ None
unfolding what_part
what_before at p t u h = ap (λ b. if b && nat_lt at.step u then Some (slipped_at at (slipped_part at p t (at.step - t)).state) else None) (lt-leb t at.step h)

pub what_behind : (at : SlipAt) (p : Progress) (t u : ℕ) → t ≤ at.step → u ≤ at.step → what_part at p t u ≡ None
unfolding what_part
what_behind at p t u le h =
    ap (λ b. if b && nat_lt at.step u then Some (slipped_at at (slipped_part at p t (at.step - t)).state) else None) (le-leb t at.step le)
    ∙ ap (λ b. if b then Some (slipped_at at (slipped_part at p t (at.step - t)).state) else None) (le-ltb at.step u h)

pub what_there : (at : SlipAt) (p : Progress) (t u : ℕ) → t ≤ at.step → at.step < u → what_part at p t u ≡ Some (slipped_at at (slipped_part at p t (at.step - t)).state)
unfolding what_part
what_there at p t u le lt =
    ap (λ b. if b && nat_lt at.step u then Some (slipped_at at (slipped_part at p t (at.step - t)).state) else None) (le-leb t at.step le)
    ∙ ap (λ b. if b then Some (slipped_at at (slipped_part at p t (at.step - t)).state) else None) (lt-ltb at.step u lt)

-- ---- runs with changes and a slip
-- a machine after n steps
abbrev pub slipped_progress : Progress → List Change → SlipAt → ℕ → Progress
slipped_progress m cs at n = record { state = slipped_run m.state cs at n; steps = slipped_steps m cs at n }

-- changes that come later
later_run : (s : State) (cs ds : List Change) (at : SlipAt) (t n : ℕ) → AllFrom t ds → n < t → slipped_run s (cs ++ ds) at n ≡ slipped_run s cs at n
unfolding slipped_run
later_run s cs ds at t zero from h = with_changes-append cs ds 0 s ∙ none_yet 0 t ds (with_changes cs 0 s) from h
later_run s cs ds at t (suc n) from h =
    let before = later_run s cs ds at t n from (omega arith) in
    let next = step_of at n (slipped_run s cs at n) in
    ap (λ x. with_changes (cs ++ ds) (suc n) (step_of at n x)) before ∙ with_changes-append cs ds (suc n) next ∙ none_yet (suc n) t ds (with_changes cs (suc n) next) from h

later_steps : (m : Progress) (cs ds : List Change) (at : SlipAt) (t n : ℕ) → AllFrom t ds → n ≤ t → slipped_steps m (cs ++ ds) at n ≡ slipped_steps m cs at n
unfolding slipped_steps
later_steps m cs ds at t zero from h = refl
later_steps m cs ds at t (suc n) from h =
    let state = later_run m.state cs ds at t n from (omega arith) in
    let steps = later_steps m cs ds at t n from (omega arith) in
    ap (λ x. steps_after x.outcome (slipped_steps m (cs ++ ds) at n)) state ∙ ap (steps_after (slipped_run m.state cs at n).outcome) steps

not_made : (m : Progress) (cs ds : List Change) (at : SlipAt) (n : ℕ) → AllFrom (n + 1) ds → slipped_progress m (cs ++ ds) at n ≡ slipped_progress m cs at n
not_made m cs ds at n from = same_progress (slipped_progress m (cs ++ ds) at n) (slipped_progress m cs at n) (later_run m.state cs ds at (n + 1) n from (omega arith)) (later_steps m cs ds at (n + 1) n from (omega arith))

-- one more change
one_run : (s : State) (cs : List Change) (c : Change) (at : SlipAt) (n : ℕ) → c.step ≡ n → slipped_run s (cs ++ c ∷ []) at n ≡ with_changes (c ∷ []) n (slipped_run s cs at n)
unfolding slipped_run
one_run s cs c at zero e = with_changes-append cs (c ∷ []) 0 s
one_run s cs c at (suc n) e =
    let before = later_run s cs (c ∷ []) at (suc n) n (omega (arith, e), tt) (omega arith) in
    ap (λ x. with_changes (cs ++ c ∷ []) (suc n) (step_of at n x)) before ∙ with_changes-append cs (c ∷ []) (suc n) (step_of at n (slipped_run s cs at n))

-- plain steps behind the last change
part_step : (m : Progress) (cs : List Change) (at : SlipAt) (t n : ℕ) → AllBy t cs → t ≤ n → slipped_progress m cs at (suc n) ≡ slipped_next at n (slipped_progress m cs at n)
unfolding slipped_run slipped_steps
part_step m cs at t n by h = let s = step_of at n (slipped_run m.state cs at n) in ap (λ x. record { state = x; steps = slipped_steps m cs at (suc n) }) (none_left (suc n) t cs s by (omega arith))

goes_on : (m : Progress) (cs : List Change) (at : SlipAt) (t k : ℕ) → AllBy t cs → slipped_progress m cs at (t + k) ≡ slipped_part at (slipped_progress m cs at t) t k
unfolding slipped_part
goes_on m cs at t zero by = let e : t + 0 ≡ t = omega arith in ap (slipped_progress m cs at) e
goes_on m cs at t (suc k) by =
    let e : t + suc k ≡ suc (t + k) = omega arith in
    ap (slipped_progress m cs at) e ∙ part_step m cs at t (t + k) by (omega arith) ∙ ap (slipped_next at (t + k)) (goes_on m cs at t k by)

-- ---- on the way
-- a machine has made the first k changes of a list and `done` steps, and the other changes come later
pub record Reached (m : Progress) (cs : List Change) (at : SlipAt) (k done : ℕ) (p : Progress) : Type 0 where
  pub now : p ≡ slipped_progress m (take k cs) at done
  pub by : AllBy done (take k cs)
  pub from : AllFrom done (drop k cs)

pub started : (m : Progress) (cs : List Change) (at : SlipAt) → Reached m cs at 0 0 m
unfolding slipped_run slipped_steps with_changes
started m cs at = record { now = refl; by = tt; from = all_from_zero cs }

-- the next change does not come before the steps made
pub next_later : (m : Progress) (cs : List Change) (at : SlipAt) (k done : ℕ) (p : Progress) (c : Change) → k < length cs → c ≡ get_or cs k c → Reached m cs at k done p → done ≤ c.step
next_later m cs at k done p c lt e r = (subst (AllFrom done) (drop_at cs k c lt e) r.from).0

-- a part on the way
runs_on : (m : Progress) (cs : List Change) (at : SlipAt) (k done n : ℕ) (p : Progress) → Reached m cs at k done p → done ≤ n → slipped_part at p done (n - done) ≡ slipped_progress m (take k cs) at n
runs_on m cs at k done n p r h =
    let sum : done + (n - done) ≡ n = omega arith in
    ap (λ q. slipped_part at q done (n - done)) r.now ∙ sym (goes_on m (take k cs) at done (n - done) r.by) ∙ ap (slipped_progress m (take k cs) at) sum

-- the machine after the next change
pub reached_next :
    (m : Progress) (cs : List Change) (at : SlipAt) (k done : ℕ) (p q : Progress) (c : Change) → Ordered cs → k < length cs → c ≡ get_or cs k c → Reached m cs at k done p
    → q.state ≡ changed c (slipped_part at p done (c.step - done)).state → q.steps ≡ (slipped_part at p done (c.step - done)).steps → Reached m cs at (k + 1) c.step q
reached_next m cs at k done p q c o lt e r state steps =
    let later : done ≤ c.step = next_later m cs at k done p c lt e r in
    let there = runs_on m cs at k done c.step p r later in
    let split = take_at cs k c lt e in
    let ds = take k cs in
    let state_is : q.state ≡ slipped_run m.state (ds ++ c ∷ []) at c.step =
    state ∙ ap (λ x. changed c x.state) there ∙ sym (one_run m.state ds c at c.step refl ∙ with_change c (slipped_run m.state ds at c.step)) in
    let steps_is : q.steps ≡ slipped_steps m (ds ++ c ∷ []) at c.step = steps ∙ ap (λ x. x.steps) there ∙ sym (later_steps m ds (c ∷ []) at c.step c.step (omega arith, tt) (omega arith)) in
    record {
      now = same_progress q (slipped_progress m (ds ++ c ∷ []) at c.step) state_is steps_is ∙ ap (λ es. slipped_progress m es at c.step) (sym split);
      by = subst (AllBy c.step) (sym split) (all_by_more done c.step ds c r.by later (omega arith));
      from = ordered_from c.step c (drop (k + 1) cs) (omega arith) (subst Ordered (drop_at cs k c lt e) (ordered_drop cs k o));
    }

-- the end of the run, when the other changes come too late
pub ends : (m : Progress) (cs : List Change) (at : SlipAt) (k done n : ℕ) (p : Progress) → Reached m cs at k done p → done ≤ n → AllFrom (n + 1) (drop k cs) → slipped_part at p done (n - done) ≡ slipped_progress m cs at n
ends m cs at k done n p r h late = runs_on m cs at k done n p r h ∙ sym (not_made m (take k cs) (drop k cs) at n late) ∙ ap (λ ds. slipped_progress m ds at n) (take-append-drop k cs)

-- ---- what became of the slip
-- in no more steps than those before it
what_not : (s : State) (cs : List Change) (at : SlipAt) (n : ℕ) → n ≤ at.step → what_slipped s cs at n ≡ NotReached
unfolding what_slipped
what_not s cs at n h = ap (λ b. if b then NotReached else slipped_at at (slipped_run s cs at at.step)) (le-leb n at.step h)

what_made : (s : State) (cs : List Change) (at : SlipAt) (n : ℕ) → at.step < n → what_slipped s cs at n ≡ slipped_at at (slipped_run s cs at at.step)
unfolding what_slipped
what_made s cs at n h = ap (λ b. if b then NotReached else slipped_at at (slipped_run s cs at at.step)) (lt-leb n at.step h)

pub what_none : (s : State) (cs : List Change) (at : SlipAt) → NotReached ≡ what_slipped s cs at 0
what_none s cs at = sym (what_not s cs at 0 (omega arith))

-- the slip is one of the steps of a part
what_now :
    (m : Progress) (cs : List Change) (at : SlipAt) (k done last : ℕ) (p : Progress) → Reached m cs at k done p → AllFrom last (drop k cs) → done ≤ at.step → at.step < last
    → what_part at p done last ≡ Some (what_slipped m.state cs at last)
what_now m cs at k done last p r from le lt =
    let here = runs_on m cs at k done at.step p r le in
    let all = sym (later_run m.state (take k cs) (drop k cs) at last at.step from lt) ∙ ap (λ ds. slipped_run m.state ds at at.step) (take-append-drop k cs) in
    what_there at p done last le lt ∙ ap (λ s. Some (slipped_at at s)) (ap (λ q. q.state) here ∙ all) ∙ ap Some (sym (what_made m.state cs at last lt))

-- what is known before a part and what became of the slip in it give what is known behind it
pub what_on :
    (m : Progress) (cs : List Change) (at : SlipAt) (k done last : ℕ) (p : Progress) (found : Slipped) (more : Option Slipped) → Reached m cs at k done p → done ≤ last → AllFrom last (drop k cs)
    → found ≡ what_slipped m.state cs at done → more ≡ what_part at p done last → unwrap_or more found ≡ what_slipped m.state cs at last
what_on m cs at k done last p found more r le from so_far is = ⊎_elim made (λ first. ⊎_elim (now first) (not_yet first) (cases_lt at.step last)) (cases_lt at.step done) where
  made : at.step < done → unwrap_or more found ≡ what_slipped m.state cs at last
  made lt = ap (λ o. unwrap_or o found) (is ∙ what_before at p done last lt) ∙ so_far ∙ what_made m.state cs at done lt ∙ sym (what_made m.state cs at last (omega (arith, lt, le)))

  now : done ≤ at.step → at.step < last → unwrap_or more found ≡ what_slipped m.state cs at last
  now first lt = ap (λ o. unwrap_or o found) (is ∙ what_now m cs at k done last p r from first lt)

  not_yet : done ≤ at.step → last ≤ at.step → unwrap_or more found ≡ what_slipped m.state cs at last
  not_yet first h = ap (λ o. unwrap_or o found) (is ∙ what_behind at p done last first h) ∙ so_far ∙ what_not m.state cs at done first ∙ sym (what_not m.state cs at last h)

-- Runs of a machine: one step more, and none where it does not go on.
use Rattle.std.proofs.Common.{◌≡◌, ℕ, zero, suc, ◌+◌, ◌-◌, ◌^◌, ◌<◌, ◌≤◌, min, true, false, refl, sym, ap, ◌∙◌, subst, arith, ⊎_elim}
use borrow.Author.Count.{below_more}
use Rattle.std.proofs.lemmas.Bool.{cases_lt}
use Rattle.machine.specs.declared.outcome.Outcome.{Outcome}
use Rattle.machine.specs.declared.outcome.Outcome.TheVariants.{Going}
use Rattle.machine.specs.Step.{State, step, step_at}
use Rattle.machine.specs.Progress.{Progress, one_more, advanced, steps_after, progress}
use Rattle.machine.specs.Memory.{Memory}
use Rattle.rv_step.specs.Known.{at_state, does_step, IsRunMade}
use Rattle.rv_step.specs.Harts.{HartState, with_memory}

stays_at : (o : Outcome) (s : State) → does_step o ≡ false → step_at o s ≡ s
stays_at Going s h = absurd (cc)
stays_at o s h = refl

as_many : (o : Outcome) (n : ℕ) → does_step o ≡ false → steps_after o n ≡ n
as_many Going n h = absurd (cc)
as_many o n h = refl

pub stays_step : (s : State) → does_step s.outcome ≡ false → step s ≡ s
unfolding step
stays_step s h = stays_at s.outcome s h

-- a machine that does not go on stays as it is
pub stays : (p : Progress) → does_step p.state.outcome ≡ false → advanced p ≡ p
unfolding advanced
stays p h = ap (λ s. record { state = s; steps = steps_after p.state.outcome p.steps }) (stays_step p.state h) ∙ ap (λ n. record { state = p.state; steps = n }) (as_many p.state.outcome p.steps h)

pub stays_long : (p : Progress) (n : ℕ) → does_step p.state.outcome ≡ false → progress p n ≡ p
unfolding progress
stays_long p zero h = refl
stays_long p (suc n) h = ap (λ q. progress q n) (stays p h) ∙ stays_long p n h

-- ---- steps one behind the other
pub none_made : (p : Progress) → p ≡ progress p 0
unfolding progress
none_made p = refl

-- one step more
pub progress_last : (p : Progress) (n : ℕ) → progress p (suc n) ≡ advanced (progress p n)
unfolding progress
progress_last p zero = refl
progress_last p (suc n) = progress_last (advanced p) n

-- m + n steps are m steps and then n
pub progress_more : (p : Progress) (m n : ℕ) → progress p (m + n) ≡ progress (progress p m) n
unfolding progress
progress_more p zero n = let e : zero + n ≡ n = omega arith in ap (progress p) e
progress_more p (suc m) n = let e : suc m + n ≡ suc (m + n) = omega arith in ap (progress p) e ∙ progress_more (advanced p) m n

-- a machine that stopped before
pub stopped_before : (p : Progress) (k n : ℕ) → k < n → does_step (progress p k).state.outcome ≡ false → progress p k ≡ progress p n
stopped_before p k n h stop =
    let e : k + (n - k) ≡ n = omega (arith, h) in
    sym (stays_long (progress p k) (n - k) stop) ∙ sym (progress_more p k (n - k)) ∙ ap (progress p) e

-- ---- steps that are counted later
pub made_none : (p : Progress) → IsRunMade p 0 p
made_none p = record { state = ap (λ q. q.state) (none_made p); before = refl; going = λ k h. absurd (omega (arith, h)) }

state_advanced : (p : Progress) → (advanced p).state ≡ step p.state
unfolding advanced
state_advanced p = refl

made_more : (p q r : Progress) (n : ℕ) → IsRunMade p n q → does_step q.state.outcome ≡ true → r.state ≡ step q.state → r.steps ≡ q.steps → IsRunMade p (n + 1) r
made_more p q r n h goes stepped same =
    let here : does_step (progress p n).state.outcome ≡ true = ap (λ s. does_step s.outcome) (sym h.state) ∙ goes in
    let more : suc n ≡ n + 1 = omega arith in
    record {
      state = stepped ∙ ap step h.state ∙ sym (state_advanced (progress p n)) ∙ ap (λ x. x.state) (sym (progress_last p n)) ∙ ap (λ k. (progress p k).state) more;
      before = same ∙ h.before;
      going = below_more (λ k. does_step (progress p k).state.outcome ≡ true) n h.going here;
    }

-- one that is a step
pub step_made : (p here next : Progress) (n : ℕ) → IsRunMade p n here → does_step here.state.outcome ≡ true → next ≡ at_state (step here.state) here → IsRunMade p (n + 1) next
step_made p here next n h goes is = made_more p here next n h goes (ap (λ q. q.state) is) (ap (λ q. q.steps) is)

pub one_counted : (o : Outcome) (n : ℕ) → does_step o ≡ true → steps_after o n ≡ one_more n
one_counted Going n h = refl
one_counted o n h = absurd (cc)

steps_advanced : (p : Progress) → does_step p.state.outcome ≡ true → (advanced p).steps ≡ one_more p.steps
unfolding advanced
steps_advanced p h = one_counted p.state.outcome p.steps h

all_counted : (p : Progress) (n : ℕ) → p.steps < 2 ^ 64 → ((k : ℕ) → k < n → does_step (progress p k).state.outcome ≡ true) → (progress p n).steps ≡ min (p.steps + n) (2 ^ 64 - 1)
all_counted p zero small going =
    let e : p.steps ≡ min (p.steps + 0) (2 ^ 64 - 1) = omega (arith, small) in
    ap (λ q. q.steps) (sym (none_made p)) ∙ e
all_counted p (suc n) small going =
    let before : (progress p n).steps ≡ min (p.steps + n) (2 ^ 64 - 1) = all_counted p n small (λ k h. going k (omega (arith, h))) in
    let here : (advanced (progress p n)).steps ≡ one_more (progress p n).steps = steps_advanced (progress p n) (going n (omega arith)) in
    let last : (advanced (progress p n)).steps ≡ (progress p (suc n)).steps = ap (λ q. q.steps) (sym (progress_last p n)) in
    omega (arith, before, here, last)

-- states that are one stay one
same_states : (p q : Progress) (n : ℕ) → p.state ≡ q.state → (progress p n).state ≡ (progress q n).state
unfolding progress
same_states p q zero h = h
same_states p q (suc n) h = same_states (advanced p) (advanced q) n (state_advanced p ∙ ap step h ∙ sym (state_advanced q))

-- n steps behind m
pub made_join : (p q r : Progress) (m n : ℕ) → IsRunMade p m q → IsRunMade q n r → IsRunMade p (m + n) r
made_join p q r m n h k = record {
  state = k.state ∙ same_states q (progress p m) n h.state ∙ ap (λ x. x.state) (sym (progress_more p m n));
  before = k.before ∙ h.before;
  going = λ j l. ⊎_elim (λ less. h.going j less) (λ most. later j most l) (cases_lt j m);
} where
  later : (j : ℕ) → m ≤ j → j < m + n → does_step (progress p j).state.outcome ≡ true
  later j most l =
      let e : m + (j - m) ≡ j = omega (arith, most) in
      let there : (progress p j).state ≡ (progress q (j - m)).state = ap (λ i. (progress p i).state) (sym e) ∙ ap (λ x. x.state) (progress_more p m (j - m)) ∙ same_states (progress p m) q (j - m) (sym h.state) in
      ap (λ s. does_step s.outcome) there ∙ k.going (j - m) (omega (arith, most, l))

-- where fewer were made than were to be, since the machine stopped, more of them change nothing
pub all_made : (p q : Progress) (m n : ℕ) → IsRunMade p m q → m ≤ n → (m < n → does_step q.state.outcome ≡ false) → progress p m ≡ progress p n
all_made p q m n h most stop = ⊎_elim
    (λ less. stopped_before p m n less (ap (λ s. does_step s.outcome) (sym h.state) ∙ stop less))
    (λ all. let e : m ≡ n = omega (arith, most, all) in ap (progress p) e)
    (cases_lt m n)

same_progress : (p q : Progress) → p.state ≡ q.state → p.steps ≡ q.steps → p ≡ q
same_progress p q s n = ap (λ x. record { state = x; steps = p.steps }) s ∙ ap (λ x. record { state = q.state; steps = x }) n

-- where they are counted, they are those of a run: of the hart h, which contracts see as k
pub made_counted :
    (p : Progress) (n count : ℕ) (h k : HartState) (m : Memory)
    → IsRunMade p n (with_memory k m) → h ≡ k → h.steps < 2 ^ 64 → count ≡ min (h.steps + n) (2 ^ 64 - 1)
    → with_memory (record h { steps = count }) m ≡ progress p n
made_counted p n count h k m made view small is =
    let state : (with_memory h m).state ≡ (progress p n).state = ap (λ x. (with_memory x m).state) view ∙ made.state in
    let before : h.steps ≡ p.steps = ap (λ x. x.steps) view ∙ made.before in
    let all : (progress p n).steps ≡ min (p.steps + n) (2 ^ 64 - 1) = all_counted p n (omega (arith, small, before)) made.going in
    let steps : count ≡ (progress p n).steps = omega (arith, is, before, all) in
    same_progress (with_memory (record h { steps = count }) m) (progress p n) state steps

-- one step
pub one_run : (p : Progress) → progress p 1 ≡ advanced p
unfolding progress
one_run p = refl

-- ---- steps by how many of n are left
pub none_left : (p : Progress) (n : ℕ) → IsRunMade p (n - n) p
none_left p n = let none : 0 ≡ n - n = omega arith in subst (λ m. IsRunMade p m p) none (made_none p)

pub step_left : (p here next : Progress) (n left after : ℕ) → IsRunMade p (n - left) here → does_step here.state.outcome ≡ true → next ≡ at_state (step here.state) here → left ≡ after + 1 → left ≤ n → IsRunMade p (n - after) next
step_left p here next n left after h goes is one most = let more : n - left + 1 ≡ n - after = omega arith in subst (λ m. IsRunMade p m next) more (step_made p here next (n - left) h goes is)

-- the first few, all, and of the others all but those that are left
pub join_left : (p q r : Progress) (n few left rest : ℕ) → IsRunMade p (few - left) q → IsRunMade q (n - few - rest) r → left ≡ 0 → few ≤ n → rest ≤ n - few → IsRunMade p (n - rest) r
join_left p q r n few left rest h k none most within = let all : few - left + (n - few - rest) ≡ n - rest = omega arith in subst (λ m. IsRunMade p m r) all (made_join p q r (few - left) (n - few - rest) h k)

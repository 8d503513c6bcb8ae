-- Runs that are made in parts, or continued at a copy of another run.
use Rattle.std.proofs.Common.{◌≡◌, ⊎_elim, ℕ, ◌+◌, ◌-◌, ◌<◌, ◌≤◌, true, false, None, refl, sym, ap, ◌∙◌, arith}
use Rattle.std.specs.Prelude.{◌≢◌}
use Rattle.std.proofs.lemmas.Bool.{cases_lt}
use Rattle.machine.specs.declared.outcome.Outcome.{Outcome}
use Rattle.machine.specs.declared.outcome.Outcome.TheVariants.{Going, Ended}
use Rattle.machine.proofs.Lemmas.{run-more, run-none}
use Rattle.rv_step.specs.Known.{does_step, AreMade}
use Rattle.campaign.specs.Found.{IsOn, StopsWithin, trap_pc_of, State, run}
use Rattle.campaign.specs.Kept.{IsReach, Progress, progress}
use Rattle.campaign.proofs.Stopping.{going_before, progress_state, ran_on, run_stays}

-- ---- parts
pub goes : (o : Outcome) → does_step o ≡ true → o ≡ Going
goes Going h = refl
goes o h = absurd (cc)

pub stopped_not : (o : Outcome) → does_step o ≡ false → o ≢ Going
stopped_not Going h g = absurd (cc)
stopped_not o h g = absurd (cc)

pub on_none : (s : State) → IsOn s 0 s
on_none s = record { there = sym (run-none s); before = λ k l. absurd (omega (arith, l)) }

-- the steps behind those so far
pub on_later : (s t : State) (n k : ℕ) → IsOn s n t → run s (n + k) ≡ run t k
on_later s t n k on = run-more s n k ∙ ap (λ u. run u k) (sym on.there)

-- one more step
pub one_on : (s t : State) (n : ℕ) → t ≡ run s n → run t 1 ≡ run s (n + 1)
one_on s t n there = ap (λ u. run u 1) there ∙ sym (run-more s n 1)

pub on_before : (s t : State) (n steps k : ℕ) → IsOn s n t → ((i : ℕ) → i < steps → (run t i).outcome ≡ Going) → k < n + steps → (run s k).outcome ≡ Going
on_before s t n steps k on going l =
    ⊎_elim (on.before k)
    (λ h. let e : n + (k - n) ≡ k = omega (arith, h) in ap (λ i. (run s i).outcome) (sym e) ∙ ap (λ u. u.outcome) (on_later s t n (k - n) on) ∙ going (k - n) (omega (arith, l, h)))
    (cases_lt k n)

-- a run that has ended does not trap
pub ended_untrapped : (s t : State) (n k : ℕ) → IsOn s n t → t.outcome ≡ Ended → trap_pc_of (run s k).outcome ≡ None
ended_untrapped s t n k on ended =
    ⊎_elim
    (λ l. ap trap_pc_of (on.before k l))
    (λ h.
    let e : n + (k - n) ≡ k = omega (arith, h) in
    let stays : run t (k - n) ≡ t = run_stays t (k - n) (λ g. absurd (ended_goes (sym ended ∙ g))) in
    ap (λ i. trap_pc_of (run s i).outcome) (sym e) ∙ ap (λ u. trap_pc_of u.outcome) (on_later s t n (k - n) on ∙ stays) ∙ ap trap_pc_of ended)
    (cases_lt k n) where
      ended_goes : Ended ≡ Going → ⊥
      ended_goes x = cc

-- a machine makes more steps, and still goes on
pub on_more : (s : State) (made n next : ℕ) (p q : Progress) → IsOn s made p.state → q ≡ progress p n → made + n ≡ next → q.state.outcome ≡ Going → IsOn s next q.state
on_more s made n next p q on ran sum going =
    let there = ran_on s p q made n next on.there ran sum in
    record { there = there; before = λ k l. going_before s k next (omega (arith, l)) (ap (λ t. t.outcome) (sym there) ∙ going) }

-- a machine makes more steps, and went on before each of them
pub on_made : (s : State) (made n more next : ℕ) (p q : Progress) → IsOn s made p.state → q ≡ progress p n → AreMade p n more → made + more ≡ next → IsOn s next q.state
on_made s made n more next p q on ran are sum = record {
  there = ran_on s p q made more next on.there (ran ∙ sym are.all) sum;
  before = λ k l. on_before s p.state made more k on (λ i h. ap (λ t. t.outcome) (sym (progress_state p i)) ∙ goes (progress p i).state.outcome (are.going i h)) (omega (arith, l, sum));
}

-- a machine makes more steps, and stops
pub on_stops :
    (s : State) (made n more most : ℕ) (p q : Progress) → IsOn s made p.state → q ≡ progress p n → AreMade p n more → made + n ≤ most → q.state.outcome ≢ Going
    → StopsWithin s most q.state (made + more)
on_stops s made n more most p q on ran are fits stopped =
    let next = on_made s made n more (made + more) p q on ran are refl in
    let within = are.within in
    record {
      within = omega (arith, within, fits);
      stops = record { stopped = λ g. stopped (ap (λ t. t.outcome) next.there ∙ g); before = next.before };
      there = next.there;
    }

-- ---- a copy of another run
-- two runs in equal states go the same way
beside : (s t start : State) (made a j : ℕ) → t ≡ run s made → t ≡ run start a → run s (made + j) ≡ run start (a + j)
beside s t start made a j e f = run-more s made j ∙ ap (λ u. run u j) (sym e ∙ f) ∙ sym (run-more start a j)

-- the other run still goes on when all steps are made
pub leap_goes :
    (s t start : State) (made a most reach : ℕ) → IsReach start reach → IsOn s made t → t ≡ run start a → made ≤ most → a + (most - made) < reach → (run s most).outcome ≡ Going
leap_goes s t start made a most reach is on here fits short =
    let e : made + (most - made) ≡ most = omega (arith, fits) in
    ap (λ k. (run s k).outcome) (sym e) ∙ ap (λ u. u.outcome) (beside s t start made a (most - made) on.there here) ∙ is.before (a + (most - made)) short

-- the run leaps to a later copy
pub leap_on :
    (s t u start : State) (made a b reach : ℕ) → IsReach start reach → IsOn s made t → t ≡ run start a → a ≤ b → b ≤ reach → u ≡ run start b → IsOn s (made + (b - a)) u
leap_on s t u start made a b reach is on here ab br there =
    let e : a + (b - a) ≡ b = omega (arith, ab) in
    record {
      there = there ∙ ap (run start) (sym e) ∙ sym (beside s t start made a (b - a) on.there here);
      before = λ k l. on_before s t made (b - a) k on (λ i h. ap (λ u. (run u i).outcome) here ∙ ap (λ u. u.outcome) (sym (run-more start a i)) ∙ is.before (a + i) (omega (arith, h, ab, br))) l;
    }

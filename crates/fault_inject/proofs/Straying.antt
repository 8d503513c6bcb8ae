-- The first jump astray: in more states, in equal ones, on the way of a changed run, and of a stopped machine.
use Rattle.std.proofs.Common.{◌≡◌, ℕ, zero, suc, ◌+◌, ◌-◌, ◌<◌, ◌≤◌, Bool, true, false, cond, ◌&&◌, Option, Some, None, List, take, drop, refl, sym, ap, ◌∙◌, arith}
use Rattle.std.proofs.Math.Bool.{and-false}
use Rattle.std.proofs.lemmas.List.{take-append-drop}
use Rattle.std.specs.Prelude.{not}
use Rattle.std.specs.Option.{option_map, option_or}
use Rattle.machine.specs.Below.{first_below, first_passing}
use Rattle.qed_model.specs.declared.change.Change.{Change}
use Rattle.machine.specs.Step.{State, step}
use Rattle.machine.specs.Progress.{Progress, advanced, progress}
use Rattle.machine.proofs.Lemmas.{first_none}
use Rattle.rv_step.proofs.Running.{progress_last, progress_more, stays_long, stays_step}
use Rattle.fault_inject.specs.Astray.{is_jalr, is_astray, jump_of, astray_of, first_jump, first_astray, known_at, does_step, changed_run}
use Rattle.fault_inject.proofs.Changing.{AllFrom, Reached, changed_progress, later_run, plain}

-- ---- the first of some states
-- the first of the n states from the k-th on
abbrev from : (ℕ → Bool) → (ℕ → State) → ℕ → ℕ → Option (ℕ × ℕ)
from r f k n = option_map (λ j. jump_of (f j)) (first_passing (λ j. is_astray r (f j)) k n)

or_first : {A : Type 0} (g : ℕ → A) (b : Bool) (k : ℕ) (o : Option ℕ) → option_map g (cond b (Some k) o) ≡ option_or (cond b (Some (g k)) None) (option_map g o)
or_first g true k o = refl
or_first g false k o = refl

or_none : {A : Type 0} (o : Option A) → option_or o None ≡ o
or_none None = refl
or_none (Some x) = refl

or_assoc : {A : Type 0} (x y z : Option A) → option_or x (option_or y z) ≡ option_or (option_or x y) z
or_assoc None y z = refl
or_assoc (Some a) y z = refl

-- the first is the k-th, or one behind it
from_next : (r : ℕ → Bool) (f : ℕ → State) (k n : ℕ) → from r f k (suc n) ≡ option_or (astray_of r (f k)) (from r f (k + 1) n)
from_next r f k n = or_first (λ j. jump_of (f j)) (is_astray r (f k)) k (first_passing (λ j. is_astray r (f j)) (k + 1) n)

from_same : (r : ℕ → Bool) (f g : ℕ → State) (k n : ℕ) → ((j : ℕ) → k ≤ j → j < k + n → f j ≡ g j) → from r f k n ≡ from r g k n
from_same r f g k zero same = refl
from_same r f g k (suc n) same =
    let here : f k ≡ g k = same k (omega arith) (omega arith) in
    let rest : from r f (k + 1) n ≡ from r g (k + 1) n = from_same r f g (k + 1) n (λ j le lt. same j (omega (arith, le)) (omega (arith, lt))) in
    from_next r f k n ∙ ap (λ s. option_or (astray_of r s) (from r f (k + 1) n)) here ∙ ap (option_or (astray_of r (g k))) rest ∙ sym (from_next r g k n)

from_more : (r : ℕ → Bool) (f : ℕ → State) (k a b : ℕ) → from r f k (a + b) ≡ option_or (from r f k a) (from r f (k + a) b)
from_more r f k zero b =
    let none : 0 + b ≡ b = omega arith in
    let here : k ≡ k + 0 = omega arith in
    ap (from r f k) none ∙ ap (λ i. from r f i b) here
from_more r f k (suc a) b =
    let more : suc a + b ≡ suc (a + b) = omega arith in
    let there : k + 1 + a ≡ k + suc a = omega arith in
    ap (from r f k) more ∙ from_next r f k (a + b) ∙ ap (option_or (astray_of r (f k))) (from_more r f (k + 1) a b) ∙ or_assoc (astray_of r (f k)) (from r f (k + 1) a) (from r f (k + 1 + a) b)
    ∙ ap (λ o. option_or o (from r f (k + 1 + a) b)) (sym (from_next r f k a)) ∙ ap (λ i. option_or (from r f k (suc a)) (from r f i b)) there

-- the first, counted from a later state
from_later : (r : ℕ → Bool) (f : ℕ → State) (a k n : ℕ) → from r f (a + k) n ≡ from r (λ j. f (a + j)) k n
from_later r f a k zero = refl
from_later r f a k (suc n) =
    let next : a + k + 1 ≡ a + (k + 1) = omega arith in
    from_next r f (a + k) n ∙ ap (λ i. option_or (astray_of r (f (a + k))) (from r f i n)) next ∙ ap (option_or (astray_of r (f (a + k)))) (from_later r f a (k + 1) n) ∙ sym (from_next r (λ j. f (a + j)) k n)

-- the first, in equal states
first_same : (r : ℕ → Bool) (f g : ℕ → State) (n : ℕ) → ((j : ℕ) → j < n → f j ≡ g j) → first_jump r f n ≡ first_jump r g n
unfolding first_below first_jump
first_same r f g n same = from_same r f g 0 n (λ j le lt. same j (omega (arith, lt)))

-- the first, in a states and then in b more
first_more : (r : ℕ → Bool) (f : ℕ → State) (a b : ℕ) → first_jump r f (a + b) ≡ option_or (first_jump r f a) (first_jump r (λ j. f (a + j)) b)
unfolding first_below first_jump
first_more r f a b =
    let front : 0 + a ≡ a + 0 = omega arith in
    from_more r f 0 a b ∙ ap (λ i. option_or (from r f 0 a) (from r f i b)) front ∙ ap (option_or (from r f 0 a)) (from_later r f a 0 b)

-- the first, in no state and in one more
pub in_none : (r : ℕ → Bool) (f : ℕ → State) → first_jump r f 0 ≡ None
unfolding first_below first_jump
in_none r f = refl

in_one : (r : ℕ → Bool) (f : ℕ → State) → first_jump r f 1 ≡ astray_of r (f 0)
unfolding first_below first_jump
in_one r f = from_next r f 0 0 ∙ or_none (astray_of r (f 0))

in_next : (r : ℕ → Bool) (f : ℕ → State) (n : ℕ) → option_or (first_jump r f n) (astray_of r (f n)) ≡ first_jump r f (n + 1)
in_next r f n =
    let here : n + 0 ≡ n = omega arith in
    sym (first_more r f n 1 ∙ ap (option_or (first_jump r f n)) (in_one r (λ j. f (n + j)) ∙ ap (λ i. astray_of r (f i)) here))

-- ---- plain steps
-- the state after each number of plain steps
abbrev pub states : Progress → ℕ → State
states p k = (progress p k).state

pub made_next : (p q next : Progress) (n : ℕ) → q ≡ progress p n → next ≡ advanced q → next ≡ progress p (n + 1)
made_next p q next n at is = let more : suc n ≡ n + 1 = omega arith in is ∙ ap advanced at ∙ sym (progress_last p n) ∙ ap (progress p) more

-- one more step, and what is found by then
pub step_next : (r : ℕ → Bool) (p q : Progress) (n : ℕ) (found more : Option (ℕ × ℕ)) → q ≡ progress p n → found ≡ first_jump r (states p) n → more ≡ astray_of r q.state → option_or found more ≡ first_jump r (states p) (n + 1)
step_next r p q n found more at so_far here =
    ap (λ o. option_or o more) so_far ∙ ap (option_or (first_jump r (states p) n)) (here ∙ ap (λ x. astray_of r x.state) at) ∙ in_next r (states p) n

-- a stopped state does not jump
never_stopped : (r : ℕ → Bool) (s : State) → does_step s.outcome ≡ false → is_astray r s ≡ false
unfolding is_astray
never_stopped r s h = ap (λ b. is_jalr (known_at s s.pc) && (b && not (r (step s).pc))) (ap (λ t. does_step t.outcome) (stays_step s h) ∙ h) ∙ and-false (is_jalr (known_at s s.pc))

none_of : (r : ℕ → Bool) (f : ℕ → State) (n : ℕ) → ((j : ℕ) → j < n → is_astray r (f j) ≡ false) → first_jump r f n ≡ None
unfolding first_jump
none_of r f n never = ap (option_map (λ j. jump_of (f j))) (first_none n (λ j. is_astray r (f j)) never)

-- more steps of a machine that has stopped change nothing
stays_on : (p q : Progress) (a j : ℕ) → q ≡ progress p a → does_step q.state.outcome ≡ false → progress p (a + j) ≡ q
stays_on p q a j at stop = progress_more p a j ∙ ap (λ x. progress x j) (sym at) ∙ stays_long q j stop

pub stopped_all : (p q : Progress) (a n : ℕ) → a ≤ n → q ≡ progress p a → does_step q.state.outcome ≡ false → q ≡ progress p n
stopped_all p q a n h at stop = let sum : a + (n - a) ≡ n = omega arith in sym (stays_on p q a (n - a) at stop) ∙ ap (progress p) sum

-- more steps of a stopped machine find no more
pub stopped_first :
    (r : ℕ → Bool) (p q : Progress) (a n : ℕ) (found : Option (ℕ × ℕ)) → a ≤ n → q ≡ progress p a → does_step q.state.outcome ≡ false → found ≡ first_jump r (states p) a → found ≡ first_jump r (states p) n
stopped_first r p q a n found h at stop so_far =
    let sum : a + (n - a) ≡ n = omega arith in
    let none = none_of r (λ j. states p (a + j)) (n - a) (λ j lt. ap (λ x. is_astray r x.state) (stays_on p q a j at stop) ∙ never_stopped r q.state stop) in
    so_far ∙ sym (first_more r (states p) a (n - a) ∙ ap (option_or (first_jump r (states p) a)) none ∙ or_none (first_jump r (states p) a)) ∙ ap (first_jump r (states p)) sum

-- ---- on the way of a changed run
-- up to the next change it is a plain run
states_on : (m : Progress) (cs : List Change) (k done last j : ℕ) (p : Progress) → Reached m cs k done p → AllFrom last (drop k cs) → done + j < last → states p j ≡ changed_run m.state cs (done + j)
states_on m cs k done last j p h from lt =
    let here : progress p j ≡ changed_progress m (take k cs) (done + j) = ap (λ q. progress q j) h.now ∙ sym (plain m (take k cs) done j h.by) in
    ap (λ q. q.state) here ∙ sym (later_run m.state (take k cs) (drop k cs) last (done + j) from lt) ∙ ap (λ ds. changed_run m.state ds (done + j)) (take-append-drop k cs)

-- the first jump was found before, or else is found by these steps
pub astray_on :
    (r : ℕ → Bool) (m : Progress) (cs : List Change) (k done last : ℕ) (p : Progress) (found more : Option (ℕ × ℕ)) → Reached m cs k done p → done ≤ last → AllFrom last (drop k cs)
    → found ≡ first_astray r m.state cs done → more ≡ first_jump r (states p) (last - done) → option_or found more ≡ first_astray r m.state cs last
astray_on r m cs k done last p found more h le from so_far is =
    let sum : done + (last - done) ≡ last = omega arith in
    let same = first_same r (states p) (λ j. changed_run m.state cs (done + j)) (last - done) (λ j lt. states_on m cs k done last j p h from (omega (arith, lt))) in
    ap (λ o. option_or o more) so_far ∙ ap (option_or (first_astray r m.state cs done)) (is ∙ same) ∙ sym (first_more r (changed_run m.state cs) done (last - done)) ∙ ap (first_jump r (changed_run m.state cs)) sum

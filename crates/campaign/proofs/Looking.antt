-- A run without changes, looked at before each change.
use Rattle.std.proofs.Common.{◌≡◌, ℕ, ◌+◌, ◌-◌, ◌<◌, ◌≤◌, Bool, false, ◌||◌, List, [], ◌∷◌, length, get_or, drop, refl, sym, ap, ◌∙◌, subst, arith}
use Rattle.std.proofs.Math.Bool.{or_assoc}
use Rattle.machine.specs.Step.{State, run}
use Rattle.machine.proofs.Lemmas.{run-more}
use Rattle.fault_inject.proofs.Changing.{drop_at}
use Rattle.campaign.specs.Verdict.{has_closed, Change, Ordered, last_step, is_closed_place}

-- the step of the last of some changes; t if there is none
abbrev pub last_or : ℕ → List Change → ℕ
last_or t [] = t
last_or t (c ∷ cs) = last_or c.step cs

last_of : (c : Change) (cs : List Change) → last_or c.step cs ≡ last_step (c ∷ cs)
last_of c [] = refl
last_of c (d ∷ cs) = last_of d cs

pub last_or_zero : (cs : List Change) → last_or 0 cs ≡ last_step cs
last_or_zero [] = refl
last_or_zero (c ∷ cs) = last_of c cs

-- steps do not fall, and begin at a number
abbrev pub OrderedFrom : ℕ → List Change → Type 0
OrderedFrom t [] = Unit {0}
OrderedFrom t (c ∷ cs) = (t ≤ c.step) × OrderedFrom c.step cs

ordered_behind : (c : Change) (cs : List Change) → Ordered (c ∷ cs) → OrderedFrom c.step cs
ordered_behind c [] o = tt
ordered_behind c (d ∷ cs) o = (o.0, ordered_behind d cs o.1)

pub ordered_from_zero : (cs : List Change) → Ordered cs → OrderedFrom 0 cs
ordered_from_zero [] o = tt
ordered_from_zero (c ∷ cs) o = (omega arith, ordered_behind c cs o)

-- changes in order from a number on are in order
ordered_again : (c : Change) (cs : List Change) → OrderedFrom c.step cs → Ordered (c ∷ cs)
ordered_again c [] o = tt
ordered_again c (d ∷ cs) o = (o.0, ordered_again d cs o.1)

pub ordered_to : (t : ℕ) (cs : List Change) → OrderedFrom t cs → Ordered cs
ordered_to t [] o = tt
ordered_to t (c ∷ cs) o = ordered_again c cs o.1

-- on the way: this many steps were made, and this change is next
pub record Looked (s : State) (cs : List Change) (k steps : ℕ) (is_closed : Bool) (state : State) : Type 0 where
  pub there : state ≡ run s steps
  pub closed : (is_closed || has_closed s (drop k cs)) ≡ has_closed s cs
  pub last : last_or steps (drop k cs) ≡ last_step cs
  pub from : OrderedFrom steps (drop k cs)

pub looked_first : (s : State) (cs : List Change) → Ordered cs → Looked s cs 0 0 false s
unfolding run
looked_first s cs o = record { there = refl; closed = refl; last = last_or_zero cs; from = ordered_from_zero cs o }

-- the next change does not come before the steps made
pub next_later : (s : State) (cs : List Change) (k steps : ℕ) (is_closed : Bool) (state : State) (c : Change) → Looked s cs k steps is_closed state → k < length cs → c ≡ get_or cs k c → steps ≤ c.step
next_later s cs k steps is_closed state c x lt e = (subst (OrderedFrom steps) (drop_at cs k c lt e) x.from).0

pub looked_next :
    (s : State) (cs : List Change) (k steps : ℕ) (is_closed : Bool) (state : State) (c : Change) (here : Bool) (after : State)
    → Looked s cs k steps is_closed state → k < length cs → c ≡ get_or cs k c → after ≡ run state (c.step - steps) → here ≡ is_closed_place after c.place
    → Looked s cs (k + 1) c.step (is_closed || here) after
looked_next s cs k steps is_closed state c here after x lt e ran look =
    let split = drop_at cs k c lt e in
    let later : steps ≤ c.step = (subst (OrderedFrom steps) split x.from).0 in
    let sum : steps + (c.step - steps) ≡ c.step = omega arith in
    let there : after ≡ run s c.step = ran ∙ ap (λ y. run y (c.step - steps)) x.there ∙ sym (run-more s steps (c.step - steps)) ∙ ap (run s) sum in
    record {
      there = there;
      closed = or_assoc is_closed here (has_closed s (drop (k + 1) cs)) ∙ ap (λ h. is_closed || (h || has_closed s (drop (k + 1) cs))) (look ∙ ap (λ y. is_closed_place y c.place) there)
          ∙ ap (λ cs. is_closed || has_closed s cs) (sym split) ∙ x.closed;
      last = ap (last_or steps) (sym split) ∙ x.last;
      from = (subst (OrderedFrom steps) split x.from).1;
    }

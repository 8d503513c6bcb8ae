-- What is first, and what is listed, of the numbers below a bound.
use Rattle.std.proofs.Common.{◌≡◌, ℕ, zero, suc, ◌+◌, ◌<◌, ◌≤◌, Bool, true, false, cond, Some, None, List, [], ◌∷◌, ◌++◌, length, refl, sym, inl, inr, append_assoc, add-one, arith, ap, ◌∙◌}
use Rattle.std.specs.Prelude.{All}
use Rattle.std.proofs.lemmas.Bool.{cases_lt}
use Rattle.std.proofs.lemmas.List.{length-append, append-nil}
use Rattle.std.proofs.lemmas.List.Elements.{All-nil, All-push}
use Rattle.std.proofs.lemmas.Option.{same_Some}
use Rattle.machine.specs.Below.{first_below, first_passing, IsFirstBelow, each, gather}

-- ---- the first that passes
from_found : (n : ℕ) (p : ℕ → Bool) (k i : ℕ) → k ≤ i → i < k + n → p i ≡ true → ((j : ℕ) → j < i → p j ≡ false) → first_passing p k n ≡ Some i
from_found zero p k i le lt here before = absurd (omega arith)
from_found (suc n) p k i le lt here before =
    elim (cases_lt k i) [
      | inl below ↦ rw (before k below) (from_found n p (k + 1) i (omega arith) (omega arith) here before)
      | inr above ↦ let e : k ≡ i = omega arith in rw (e, here) refl
    ]

from_none : (n : ℕ) (p : ℕ → Bool) (k : ℕ) → ((j : ℕ) → j < k + n → p j ≡ false) → first_passing p k n ≡ None
from_none zero p k never = refl
from_none (suc n) p k never =
    let rest = from_none n p (k + 1) (λ j lt. never j (omega arith)) in
    rw (never k (omega arith)) rest

-- what passes, with none before it that does, is the first
pub first_found : (n : ℕ) (p : ℕ → Bool) (i : ℕ) → i < n → p i ≡ true → ((j : ℕ) → j < i → p j ≡ false) → first_below n p ≡ Some i
unfolding first_below
first_found n p i lt here before = from_found n p 0 i (omega arith) (omega arith) here before

-- if none passes, `first` gives None
pub first_none : (n : ℕ) (p : ℕ → Bool) → ((j : ℕ) → j < n → p j ≡ false) → first_below n p ≡ None
unfolding first_below
first_none n p never = from_none n p 0 (λ j lt. never j (omega arith))

-- the first that passes, found by a relation of numbers and answers
pub some_is : (post : ℕ → Bool → Type 0) (n i : ℕ) → i < n → post i true → ((k : ℕ) → k < i → post k false) → (p : ℕ → Bool)
    → ((j : ℕ) (b : Bool) → j < n → post j b → b ≡ p j) → Some i ≡ first_below n p
some_is post n i lt here before p is = sym (first_found n p i lt (sym (is i true lt here)) (λ k below. sym (is k false (omega arith) (before k below))))

pub none_is : (post : ℕ → Bool → Type 0) (n : ℕ) → ((k : ℕ) → k < n → post k false) → (p : ℕ → Bool)
    → ((j : ℕ) (b : Bool) → j < n → post j b → b ≡ p j) → None ≡ first_below n p
none_is post n before p is = sym (first_none n p (λ k below. sym (is k false below (before k below))))

from_each : (n : ℕ) (p : ℕ → Bool) (k j : ℕ) → first_passing p k n ≡ None → k ≤ j → j < k + n → p j ≡ false
from_each zero p k j none le lt = absurd (omega arith)
from_each (suc n) p k j none le lt =
    elim (p k) as (λ b. p k ≡ b → cond b (Some k) (first_passing p (k + 1) n) ≡ None → p j ≡ false) [
      | true ↦ λ e found. absurd cc
      | false ↦ λ e rest. elim (cases_lt k j) [
        | inl below ↦ from_each n p (k + 1) j rest (omega arith) (omega arith)
        | inr above ↦ let same : k ≡ j = omega arith in rw (← same) e
      ]
    ] refl none

-- if `first` gives None, each fails
pub each_fails : (n : ℕ) (p : ℕ → Bool) → first_below n p ≡ None → (j : ℕ) → j < n → p j ≡ false
unfolding first_below
each_fails n p none j lt = from_each n p 0 j none (omega arith) (omega arith)

record From (n : ℕ) (p : ℕ → Bool) (k i : ℕ) : Type 0 where
  above : k ≤ i
  below : i < k + n
  passes : p i ≡ true
  least : (j : ℕ) → k ≤ j → j < i → p j ≡ false

from_least : (n : ℕ) (p : ℕ → Bool) (k i : ℕ) → first_passing p k n ≡ Some i → From n p k i
from_least zero p k i e = absurd cc
from_least (suc n) p k i e =
    elim (p k) as (λ b. p k ≡ b → cond b (Some k) (first_passing p (k + 1) n) ≡ Some i → From (suc n) p k i) [
      | true ↦ λ t h.
          let same : k ≡ i = same_Some k i h in
          record { above = omega arith; below = omega arith; passes = rw (← same) t; least = λ j le lt. absurd (omega arith) }
      | false ↦ λ t h.
          let r = from_least n p (k + 1) i h in
          record {
            above = omega (arith, r.above);
            below = omega (arith, r.below);
            passes = r.passes;
            least = λ j le lt. elim (cases_lt k j) [ inl more ↦ r.least j (omega arith) lt | inr here ↦ let same : k ≡ j = omega arith in rw (← same) t ];
          }
    ] refl e

-- the first passes, and none before it does
pub first_least : (n : ℕ) (p : ℕ → Bool) (i : ℕ) → first_below n p ≡ Some i → IsFirstBelow n p i
unfolding first_below
first_least n p i e =
    let r = from_least n p 0 i e in
    record { below = omega (arith, r.below); passes = r.passes; least = λ k lt. r.least k (omega arith) lt }

-- ---- what a function gives at each
pub each_none : {A : Type 0} (f : ℕ → A) → [] ≡ each 0 f
unfolding each
each_none f = refl

pub each_more : {A : Type 0} (n : ℕ) (f : ℕ → A) → each (n + 1) f ≡ each n f ++ f n ∷ []
unfolding each
each_more n f = rw add-one refl

pub length-each : {A : Type 0} (n : ℕ) (f : ℕ → A) → length (each n f) ≡ n
unfolding each
length-each zero f = refl
length-each (suc n) f = omega (arith, length-append (each n f) (f n ∷ []), length-each n f)

-- the next of a list that a loop makes
pub push_each : {A : Type 0} (n : ℕ) (f : ℕ → A) (xs ys : List A) (x : A) → ys ≡ xs ++ x ∷ [] → xs ≡ each n f → x ≡ f n → ys ≡ each (n + 1) f
push_each n f xs ys x e so_far is = rw (e, so_far, is, each_more) refl

-- the list of such a loop, behind a front
pub each_front : {A : Type 0} (f : ℕ → A) (xs : List A) → xs ≡ xs ++ each 0 f
each_front f xs = rw (← each_none f) (sym (append-nil xs))

pub push_after : {A : Type 0} (n : ℕ) (f : ℕ → A) (front xs ys : List A) (x : A) → ys ≡ xs ++ x ∷ [] → xs ≡ front ++ each n f → x ≡ f n → ys ≡ front ++ each (n + 1) f
push_after n f front xs ys x e so_far is = rw (e, so_far, is, each_more) (append_assoc front (each n f) (f n ∷ []))

pub gather_none : {A : Type 0} (f : ℕ → List A) → [] ≡ gather 0 f
unfolding gather
gather_none f = refl

-- a list of lists that are empty has no elements
pub gather_nothing : {A : Type 0} (n : ℕ) (f : ℕ → List A) → ((i : ℕ) → i < n → f i ≡ []) → gather n f ≡ []
unfolding gather
gather_nothing zero f none = refl
gather_nothing (suc n) f none = ap (λ xs. xs ++ f n) (gather_nothing n f (λ i h. none i (omega arith))) ∙ none n (omega arith)

gather_suc : {A : Type 0} (n : ℕ) (f : ℕ → List A) → gather (n + 1) f ≡ gather n f ++ f n
unfolding gather
gather_suc n f = rw add-one refl

pub gather_more : {A : Type 0} (n : ℕ) (f : ℕ → List A) (xs ys : List A) → ys ≡ xs ++ f n → xs ≡ gather n f → ys ≡ gather (n + 1) f
gather_more n f xs ys e so_far = rw (e, so_far, gather_suc) refl

-- each that is made has what each made one has
pub All-each : {A : Type 0} (P : A → Type 0) (n : ℕ) (f : ℕ → A) → ((j : ℕ) → j < n → P (f j)) → All P (each n f)
unfolding each
All-each P zero f h = All-nil P
All-each P (suc n) f h = All-push P (each n f) (f n) (All-each P n f (λ j l. h j (omega arith))) (h n (omega arith))

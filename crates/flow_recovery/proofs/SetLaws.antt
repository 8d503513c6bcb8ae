-- Additions to a list of addresses: one step behind another, and one more element of another list at a time.
use Rattle.std.proofs.Common.{◌≡◌, ℕ, ◌+◌, ◌<◌, ◌≤◌, Bool, true, List, [], length, take, get_or, sym, ap, ◌∙◌, subst}
use Rattle.std.specs.Prelude.{◌||◌, AllPairs}
use Rattle.std.specs.List.{list_any}
use Rattle.std.specs.List.Sorted.{IsStrictlySortedBy}
use Rattle.std.specs.Ordering.{nat_cmp}
use Rattle.tests.specs.declared.test.CodeWord.{CodeWord}
use Rattle.std.proofs.Math.Bool.{or_assoc}
use Rattle.std.proofs.lemmas.List.{take_all}
use Rattle.std.proofs.lemmas.List.Folds.{list_any_more}
use Rattle.std.proofs.lemmas.Map.Keys.{below_from_sorted}
use Rattle.flow_recovery.specs.Sets.{lists, has_word_at, Adds, AddsAt}

-- ---- one step behind another
pub adds_then : (s t u : List ℕ) (p q : ℕ → Bool) → Adds s t p → Adds t u q → Adds s u (λ a. p a || q a)
adds_then s t u p q h g = record { each = λ a. g.each a ∙ ap (λ b. b || q a) (h.each a) ∙ or_assoc (lists s a) (p a) (q a) }

-- one more element of a list
pub adds_more : {X : Type 0} (p : X → ℕ → Bool) (xs : List X) (k : ℕ) (x : X) (s t u : List ℕ) → k < length xs → x ≡ get_or xs k x → Adds s t (λ a. list_any (λ y. p y a) (take k xs)) → Adds t u (p x) → Adds s u (λ a. list_any (λ y. p y a) (take (k + 1) xs))
adds_more p xs k x s t u lt is h g = record {
  each = λ a.
      (adds_then s t u (λ b. list_any (λ y. p y b) (take k xs)) (p x) h g).each a
      ∙ ap (λ b. lists s a || b) (ap (λ y. list_any (λ z. p z a) (take k xs) || p y a) is ∙ sym (list_any_more (λ y. p y a) xs k x lt));
}

-- additions to an empty list
pub adds_first : (s t : List ℕ) (p : ℕ → Bool) → s ≡ [] → Adds s t p → (a : ℕ) → lists t a ≡ p a
adds_first s t p empty h a = h.each a ∙ ap (λ xs. lists xs a || p a) empty

-- additions to an empty list, if only addresses of words count
pub at_first : (words : List CodeWord) (s t : List ℕ) (p : ℕ → Bool) → s ≡ [] → AddsAt words s t p → (a : ℕ) → has_word_at words a ≡ true → lists t a ≡ p a
at_first words s t p empty h a at = h.each a at ∙ ap (λ xs. lists xs a || p a) empty

-- behind a step, all elements of a list
pub adds_all :
    {X : Type 0} (p : X → ℕ → Bool) (q : ℕ → Bool) (xs : List X) (k : ℕ) (s t u : List ℕ)
    → length xs ≤ k → Adds s t q → Adds t u (λ a. list_any (λ y. p y a) (take k xs)) → Adds s u (λ a. q a || list_any (λ y. p y a) xs)
adds_all p q xs k s t u all h g = record {
  each = λ a.
      (adds_then s t u q (λ b. list_any (λ y. p y b) (take k xs)) h g).each a
      ∙ ap (λ ys. lists s a || (q a || list_any (λ y. p y a) ys)) (take_all k xs all);
}

-- the keys of a set of numbers, as a list
pub ascends : (keys xs : List ℕ) → IsStrictlySortedBy nat_cmp keys → xs ≡ keys → AllPairs (λ a b. a < b) xs
ascends keys xs h is = subst (AllPairs (λ a b. a < b)) (sym is) (λ i j d lt le. below_from_sorted keys i j d h lt le)

-- The first of a list that passes a test, as a search gives it.
use Rattle.std.proofs.Common.{◌≡◌, ℕ, zero, suc, ◌+◌, Bool, true, false, cond, List, [], ◌∷◌, Some, None, refl, sym, ap, ◌∙◌, arith}
use Rattle.std.specs.Prelude.{slice_get, position}
use Rattle.std.specs.List.{position_from}
use Rattle.std.proofs.lemmas.Bool.{false≢true}
use Rattle.std.proofs.lemmas.Option.{slice_get-get_or}
use Rattle.std.proofs.lemmas.List.Quantifiers.{position-Some}
use Rattle.std.proofs.lemmas.Iterator.Adapters.{position_from-zero}
use Rattle.tests.specs.Admission.Rules.{passes_at}
use Rattle.tests.specs.Admission.Refusals.{IsFirstOf}

pub found : {A : Type 0} (test : A → Bool) (xs : List A) (i : ℕ) → Some i ≡ position test xs → IsFirstOf xs test i
found test [] i e = absurd (cc)
found test (x ∷ xs) i e =
    let p = position-Some test (x ∷ xs) i x (sym e) in
    record {
      below = p.0;
      passes = ap (passes_at test) (slice_get-get_or (x ∷ xs) i x p.0) ∙ p.1;
      least = λ k lt. ap (passes_at test) (slice_get-get_or (x ∷ xs) k x (omega (arith, p.0, lt))) ∙ p.2 k lt;
    }

none_from : {A : Type 0} (test : A → Bool) (i : ℕ) (xs : List A) → position_from test i xs ≡ None → (k : ℕ) → passes_at test (slice_get xs k) ≡ false
none_from test i [] e k = refl
none_from test i (x ∷ xs) e k = by (test x) refl e (none_from test (i + 1) xs) k where
  by : (b : Bool) → test x ≡ b → cond b (Some i) (position_from test (i + 1) xs) ≡ None
      → (position_from test (i + 1) xs ≡ None → (k : ℕ) → passes_at test (slice_get xs k) ≡ false) → (k : ℕ) → passes_at test (slice_get (x ∷ xs) k) ≡ false
  by true h g rest k = absurd (cc)
  by false h g rest zero = h
  by false h g rest (suc k) = rest g k

-- where none is found, none passes, at any number
pub none_found : {A : Type 0} (test : A → Bool) (xs : List A) → None ≡ position test xs → (k : ℕ) → passes_at test (slice_get xs k) ≡ false
none_found test xs e = none_from test 0 xs (sym (e ∙ position_from-zero test xs))

-- so none is the first
pub none_first : {A : Type 0} (test : A → Bool) (xs : List A) → ((k : ℕ) → passes_at test (slice_get xs k) ≡ false) → (i : ℕ) → IsFirstOf xs test i → ⊥
none_first test xs h i s = false≢true (sym (h i) ∙ s.passes)

-- Ranges that ascend with gaps, as the fields of other things, and the one of them in which an address is sought.
use Rattle.std.proofs.Common.{◌≡◌, ◌⊎◌, inl, inr, ⊎_elim, ℕ, ◌+◌, ◌<◌, ◌≤◌, Bool, true, false, List, [], ◌∷◌, length, map, get_or, refl, ap, ◌∙◌, arith}
use Rattle.std.specs.Prelude.{nat_lt, nat_le}
use Rattle.std.specs.List.{list_any}
use Rattle.std.specs.List.Sorted.{IsNonDecreasingBy, IsPartitionPoint}
use Rattle.std.proofs.lemmas.Bool.{leb-true, leb-false, ltb-true, ltb-false, and_from, lt-ltb, cases_lt, false≢true}
use Rattle.std.proofs.lemmas.Bool.Decides.{nat_tests}
use Rattle.std.proofs.lemmas.List.Recursion.{or_is}
use Rattle.std.proofs.lemmas.List.{get_or_default}
use Rattle.tests.specs.Admission.DataRanges.{is_in, is_in_any, do_meet}
use Rattle.tests.specs.Ranges.{AreSpaced}
use Rattle.machine.proofs.Lemmas.{among-map, among_every, every_all, pairs_all}
use Rattle.machine.specs.Members.{Pairs}
use Rattle.tests.proofs.DataRangesLaws.{Spaced, in_from, in_not, spaced_from}

-- ---- by the form of the ranges
gap_pairs : {A : Type 0} (f : A → ℕ × ℕ) (low : ℕ) (xs : List A) → Spaced low (map f xs) → Pairs (λ x y. (f x).1 < (f y).0) xs
gap_pairs f low [] s = tt
gap_pairs f low (x ∷ xs) s = (among_every (λ y. (f x).1 < (f y).0) xs (λ y m. let h = (spaced_from ((f x).1 + 1) (map f xs) (f y) s.2 (among-map f y xs m)).0 in omega (arith, h)), gap_pairs f ((f x).1 + 1) xs s.2)

pub are_spaced : {A : Type 0} (f : A → ℕ × ℕ) (low : ℕ) (xs : List A) → Spaced low (map f xs) → AreSpaced f xs
are_spaced f low xs s = record {
  some = every_all (λ x. (f x).0 < (f x).1) xs (among_every (λ x. (f x).0 < (f x).1) xs (λ x m. (spaced_from low (map f xs) (f x) s (among-map f x xs m)).1));
  gaps = pairs_all (λ x y. (f x).1 < (f y).0) xs (gap_pairs f low xs s);
}

module _ {A : Type 0} (f : A → ℕ × ℕ) (xs : List A) (spaced : AreSpaced f xs) where
  pub ends_ascend : IsNonDecreasingBy (λ x. (f x).1) xs
  ends_ascend i j d le lt =
      ⊎_elim
      (λ x. let p = spaced.gaps i j d x lt in let s = spaced.some j d lt in omega (arith, p, s))
      (λ x. let e : i ≡ j = omega (arith, x, le) in let s : (f (get_or xs i d)).1 ≡ (f (get_or xs j d)).1 = ap (λ k. (f (get_or xs k d)).1) e in omega (arith, s))
      (cases_lt i j)

  -- ---- the first that ends behind an address, by a test of what begins before another
  module _ (lo place : ℕ) (point : IsPartitionPoint (λ x. nat_le (f x).1 lo ≡ true) (λ x. nat_le (f x).1 lo ≡ false) xs place) where
    module _ (hi : ℕ) (test : ℕ × ℕ → Bool) (yes : (r : ℕ × ℕ) → lo < r.1 → r.0 < hi → test r ≡ true) (no : (r : ℕ × ℕ) → (r.1 ≤ lo) ⊎ (hi ≤ r.0) → test r ≡ false) where
      ended : (k : ℕ) (d : A) → k < place → test (f (get_or xs k d)) ≡ false
      ended k d lt = no (f (get_or xs k d)) (inl (leb-true (f (get_or xs k d)).1 lo (point.0 k d (omega arith) lt)))

      none_past : A → length xs ≤ place → false ≡ list_any test (map f xs)
      none_past x le = or_is (λ ts. list_any test (map f ts)) (λ t. test (f t)) refl (λ t ts. refl) xs x false (λ e. absurd (false≢true e)) (λ e k lt. ended k _ (omega (arith, le, lt)))

      -- it is the one, if any is
      one_here : (d : A) → place < length xs → nat_lt (f (get_or xs place d)).0 hi ≡ list_any test (map f xs)
      one_here d lt =
          or_is (λ ts. list_any test (map f ts)) (λ t. test (f t)) refl (λ t ts. refl) xs d (nat_lt (f (get_or xs place d)).0 hi)
          (λ e. (place, lt, yes (f (get_or xs place d)) end (ltb-true (f (get_or xs place d)).0 hi e)))
          (λ e k l. none (ltb-false (f (get_or xs place d)).0 hi e) k d l) where
            end : lo < (f (get_or xs place d)).1
            end = leb-false (f (get_or xs place d)).1 lo (point.1 place d (omega arith) lt)

            none : hi ≤ (f (get_or xs place d)).0 → (k : ℕ) (e : A) → k < length xs → test (f (get_or xs k e)) ≡ false
            none h k e l =
                ⊎_elim
                (λ x. ended k e x)
                (λ x. ⊎_elim
                (λ y.
                let gap = spaced.gaps place k d y l in
                let some = spaced.some place d lt in
                let same : (f (get_or xs k e)).0 ≡ (f (get_or xs k d)).0 = ap (λ t. (f t).0) (get_or_default xs k e d l) in
                no (f (get_or xs k e)) (inr (omega (arith, gap, some, same, h))))
                (λ y.
                let p : place ≡ k = omega (arith, x, y) in
                let same : (f (get_or xs place d)).0 ≡ (f (get_or xs k e)).0 = ap (λ t. (f t).0) (get_or_default xs place d e lt) ∙ ap (λ n. (f (get_or xs n e)).0) p in
                no (f (get_or xs k e)) (inr (omega (arith, same, h))))
                (cases_lt place k))
                (cases_lt k place)

    -- ---- the range in which the address is
    is_here : (r : ℕ × ℕ) → lo < r.1 → r.0 < lo + 1 → is_in r lo ≡ true
    is_here r a b = in_from r lo (omega (arith, b)) a

    not_here : (r : ℕ × ℕ) → (r.1 ≤ lo) ⊎ (lo + 1 ≤ r.0) → is_in r lo ≡ false
    not_here r h = in_not r lo (⊎_elim (λ x. inr x) (λ x. inl (omega (arith, x))) h)

    pub in_past : A → length xs ≤ place → false ≡ is_in_any (map f xs) lo
    in_past = none_past (lo + 1) (λ r. is_in r lo) is_here not_here

    pub in_here : (d : A) → place < length xs → nat_le (f (get_or xs place d)).0 lo ≡ is_in_any (map f xs) lo
    in_here d lt = same (f (get_or xs place d)).0 ∙ one_here (lo + 1) (λ r. is_in r lo) is_here not_here d lt where
      same : (a : ℕ) → nat_le a lo ≡ nat_lt a (lo + 1)
      same a = grind (arith, nat_tests)

    -- ---- the range that another one meets, which begins at the address
    module _ (hi : ℕ) where
      do_meet_from : (t : ℕ × ℕ) → lo < t.1 → t.0 < hi → do_meet (lo, hi) t ≡ true
      do_meet_from t a b = and_from (nat_lt lo t.1) (nat_lt t.0 hi) (lt-ltb lo t.1 a) (lt-ltb t.0 hi b)

      no_meet : (t : ℕ × ℕ) → (t.1 ≤ lo) ⊎ (hi ≤ t.0) → do_meet (lo, hi) t ≡ false
      no_meet t h = ⊎_elim (λ x. grind (arith, nat_tests)) (λ x. grind (arith, nat_tests)) h

      pub meets_past : A → length xs ≤ place → false ≡ list_any (do_meet (lo, hi)) (map f xs)
      meets_past = none_past hi (do_meet (lo, hi)) do_meet_from no_meet

      pub meets_here : (d : A) → place < length xs → nat_lt (f (get_or xs place d)).0 hi ≡ list_any (do_meet (lo, hi)) (map f xs)
      meets_here = one_here hi (do_meet (lo, hi)) do_meet_from no_meet

-- Ascending lists, and the place at which a test changes its answer.
use Rattle.std.proofs.Common.{◌≡◌, ◌⊎◌, inl, inr, ⊎_elim, ℕ, zero, suc, ◌+◌, ◌<◌, ◌≤◌, Bool, true, false, cond, List, [], ◌∷◌, length, get_or, take, drop, Some, None, refl, sym, ap, ◌∙◌, subst, ◌-◌, length-drop, arith}
use Rattle.std.specs.Prelude.{nat_lt, nat_le, ◌==◌, map, filter, AllPairs}
use Rattle.std.specs.List.Sorted.{IsNonDecreasingBy, IsPartitionPoint}
use Rattle.std.proofs.lemmas.Bool.{ltb-true, ltb-false, le-leb, eq-eqb, eqb-true, and_from, cases_lt}
use Rattle.std.proofs.lemmas.Bool.Decides.{nat_tests}
use Rattle.std.proofs.Math.Seq.{take-length}
use Rattle.std.proofs.lemmas.List.{get_or-drop, get_or_default}
use Rattle.qed_model.specs.declared.plan.EntryRow.{EntryRow}
use Rattle.tests.specs.declared.range.Range.{Range}
use Rattle.tests.specs.Admission.DataRanges.{range_of, is_in, Segment}
use Rattle.qed_model.specs.Weave.Placed.{entry_at}

-- ---- filters
-- a front that fails is left out
pub filter_skip :
    {A B : Type 0} (f : A → B) (p : B → Bool) (xs : List A) (n : ℕ) → ((k : ℕ) (d : A) → k < n → k < length xs → p (f (get_or xs k d)) ≡ false)
    → filter p (map f xs) ≡ filter p (map f (drop n xs))
filter_skip f p [] zero h = refl
filter_skip f p [] (suc n) h = refl
filter_skip f p (x ∷ xs) zero h = refl
filter_skip f p (x ∷ xs) (suc n) h = rw (h 0 x (omega arith) (omega arith)) (filter_skip f p xs n (λ k d a b. h (suc k) d (omega (arith, a)) (omega (arith, b))))

pub filter_none : {A B : Type 0} (f : A → B) (p : B → Bool) (xs : List A) → ((k : ℕ) (d : A) → k < length xs → p (f (get_or xs k d)) ≡ false) → filter p (map f xs) ≡ []
filter_none f p [] h = refl
filter_none f p (x ∷ xs) h = rw (h 0 x (omega arith)) (filter_none f p xs (λ k d a. h (suc k) d (omega (arith, a))))

-- a front that passes is kept
pub filter_keep :
    {A B : Type 0} (f : A → B) (p : B → Bool) (xs : List A) (n : ℕ) → ((k : ℕ) (d : A) → k < n → k < length xs → p (f (get_or xs k d)) ≡ true)
    → ((k : ℕ) (d : A) → n ≤ k → k < length xs → p (f (get_or xs k d)) ≡ false) → filter p (map f xs) ≡ map f (take n xs)
filter_keep f p [] zero h g = refl
filter_keep f p [] (suc n) h g = refl
filter_keep f p (x ∷ xs) zero h g = filter_none f p (x ∷ xs) (λ k d a. g k d (omega arith) a)
filter_keep f p (x ∷ xs) (suc n) h g =
    rw (h 0 x (omega arith) (omega arith)) (ap (λ ys. f x ∷ ys) (filter_keep f p xs n (λ k d a b. h (suc k) d (omega (arith, a)) (omega (arith, b))) (λ k d a b. g (suc k) d (omega (arith, a)) (omega (arith, b)))))

-- ---- entries
found_at : (rows : List EntryRow) (a i : ℕ) (d : EntryRow) → i < length rows → ((k : ℕ) (e : EntryRow) → k < i → (get_or rows k e).input < a) → (get_or rows i d).input ≡ a → entry_at rows a ≡ Some (get_or rows i d).output
found_at [] a i d l before here = absurd (omega (arith, l))
found_at (r ∷ rows) a zero d l before here = rw (eq-eqb r.input a here) refl
found_at (r ∷ rows) a (suc i) d l before here = let b = before 0 r (omega arith) in let t : (r.input == a) ≡ false = grind (arith, nat_tests) in rw t (found_at rows a i d (omega (arith, l)) (λ k e x. before (suc k) e (omega (arith, x))) here)

not_found : (rows : List EntryRow) (a : ℕ) → ((k : ℕ) (e : EntryRow) → k < length rows → (get_or rows k e).input ≡ a → ⊥) → entry_at rows a ≡ None
not_found [] a h = refl
not_found (r ∷ rows) a h = by (r.input == a) refl (not_found rows a (λ k d l. h (suc k) d (omega (arith, l)))) where
  by : (b : Bool) → (r.input == a) ≡ b → entry_at rows a ≡ None → cond b (Some r.output) (entry_at rows a) ≡ None
  by true e rest = absurd (h 0 r (omega arith) (eqb-true r.input a e))
  by false e rest = rest

module _ (rows : List EntryRow) (ascend : AllPairs (λ r t. r.input < t.input) rows) where
  -- a row with the address is its entry
  pub entry_near : (a i : ℕ) (d : EntryRow) → i < length rows → (get_or rows i d).input ≡ a → Some (get_or rows i d).output ≡ entry_at rows a
  entry_near a i d l here =
      sym
      (found_at rows a i d l
      (λ k e lt.
      let p = ascend k i e lt l in
      let same : (get_or rows i e).input ≡ (get_or rows i d).input = ap (λ r. r.input) (get_or_default rows i e d l) in
      omega (arith, p, same, here))
      here)

  pub rows_ascend : IsNonDecreasingBy (λ r. r.input) rows
  rows_ascend i j d le lt =
      ⊎_elim
      (λ x. let p = ascend i j d x lt in omega (arith, p))
      (λ x. let e : i ≡ j = omega (arith, x, le) in let s : (get_or rows i d).input ≡ (get_or rows j d).input = ap (λ k. (get_or rows k d).input) e in omega (arith, s))
      (cases_lt i j)

  module _ (a place : ℕ) (point : IsPartitionPoint (λ r. nat_lt r.input a ≡ true) (λ r. nat_lt r.input a ≡ false) rows place) where
    before : (k : ℕ) (d : EntryRow) → k < place → (get_or rows k d).input < a
    before k d lt = ltb-true (get_or rows k d).input a (point.0 k d (omega arith) lt)

    -- the entry at the place is the address's
    pub entry_here : (d : EntryRow) → place < length rows → (get_or rows place d).input ≡ a → Some (get_or rows place d).output ≡ entry_at rows a
    entry_here d lt e = sym (found_at rows a place d lt (λ k x l. before k x l) e)

    -- behind all rows nothing is found
    pub entry_past : length rows ≤ place → None ≡ entry_at rows a
    entry_past le = sym (not_found rows a (λ k d lt e. let b = before k d (omega (arith, le, lt)) in absurd (omega (arith, b, e))))

    pub entry_other : (d : EntryRow) → place < length rows → ((get_or rows place d).input ≡ a → ⊥) → None ≡ entry_at rows a
    entry_other d lt ne = sym (not_found rows a (λ k x l e. ⊎_elim (λ y. let b = before k x y in absurd (omega (arith, b, e))) (λ y. ⊎_elim (later k x l e) (λ z. let p : place ≡ k = omega (arith, y, z) in here k x e l p) (cases_lt place k)) (cases_lt k place))) where
      later : (k : ℕ) (x : EntryRow) → k < length rows → (get_or rows k x).input ≡ a → place < k → ⊥
      later k x l e y = let p = ascend place k x y l in let q = ltb-false (get_or rows place x).input a (point.1 place x (omega arith) lt) in absurd (omega (arith, p, q, e))

      here : (k : ℕ) (x : EntryRow) → (get_or rows k x).input ≡ a → k < length rows → place ≡ k → ⊥
      here k x e l p = ne (ap (λ r. r.input) (get_or_default rows place d x lt) ∙ ap (λ n. (get_or rows n x).input) p ∙ e)

-- ---- ranges
out_of : (r : Range) (q : ℕ) → (r.end ≤ q) ⊎ (q < r.start) → is_in (range_of r) q ≡ false
out_of r q h = ⊎_elim (λ x. grind (arith, nat_tests)) (λ x. grind (arith, nat_tests)) h

-- ---- segments that begin in a range
module _ {A : Type 0} (f : A → Segment) (xs : List A) (r : Range) (from : ℕ) (first : IsPartitionPoint (λ x. nat_lt (f x).address r.start ≡ true) (λ x. nat_lt (f x).address r.start ≡ false) xs from) where
  abbrev inside : Segment → Bool
  inside s = is_in (range_of r) s.address

  starts_in : (k : ℕ) (d : A) → k < length (drop from xs) → r.start ≤ (f (get_or (drop from xs) k d)).address
  starts_in k d lt =
      let size = length-drop from xs in
      let e = first.1 (from + k) d (omega arith) (omega (arith, lt, size)) in
      let same : (f (get_or (drop from xs) k d)).address ≡ (f (get_or xs (from + k) d)).address = ap (λ x. (f x).address) (get_or-drop from xs k d) in
      let le = ltb-false (f (get_or xs (from + k) d)).address r.start e in
      omega (arith, same, le)

  pub held_rest :
      (size : ℕ) → IsPartitionPoint (λ x. nat_lt (f x).address r.end ≡ true) (λ x. nat_lt (f x).address r.end ≡ false) (drop from xs) size
      → map f (take size (drop from xs)) ≡ filter inside (map f xs)
  held_rest size second =
      sym
      (filter_skip f inside xs from (λ k d lt l. out_of r (f (get_or xs k d)).address (inr (ltb-true (f (get_or xs k d)).address r.start (first.0 k d (omega arith) lt))))
      ∙ filter_keep f inside (drop from xs) size
      (λ k d lt l. and_from (nat_le r.start (f (get_or (drop from xs) k d)).address) (nat_lt (f (get_or (drop from xs) k d)).address r.end) (le-leb r.start (f (get_or (drop from xs) k d)).address (starts_in k d l)) (second.0 k d (omega arith) lt))
      (λ k d le l. out_of r (f (get_or (drop from xs) k d)).address (inl (ltb-false (f (get_or (drop from xs) k d)).address r.end (second.1 k d le l)))))

  -- the segments held, as the slice of a slice has them
  pub held_slice :
      (size : ℕ) → IsPartitionPoint (λ x. nat_lt (f x).address r.end ≡ true) (λ x. nat_lt (f x).address r.end ≡ false) (take (length xs - from) (drop from xs)) size
      → map f (take size (take (length xs - from) (drop from xs))) ≡ filter inside (map f xs)
  held_slice size second =
      let whole : take (length xs - from) (drop from xs) ≡ drop from xs = ap (λ n. take n (drop from xs)) (sym (length-drop from xs)) ∙ take-length (drop from xs) in
      ap (λ ys. map f (take size ys)) whole ∙ held_rest size (subst (λ ys. IsPartitionPoint (λ x. nat_lt (f x).address r.end ≡ true) (λ x. nat_lt (f x).address r.end ≡ false) ys size) whole second)

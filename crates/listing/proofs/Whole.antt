-- The words of ranges in the order of their starts are all words of the ranges, in ascending order.
use Rattle.std.proofs.Common.{◌≡◌, inl, inr, ⊎_elim, ℕ, zero, suc, ◌+◌, ◌-◌, ◌*◌, ◌/◌, ◌%◌, ◌<◌, ◌≤◌, max, Bool, true, ◌&&◌, ◌||◌, List, [], ◌∷◌, ◌++◌, length, get_or, refl, sym, ap, ◌∙◌, subst, arith}
use Rattle.std.specs.Prelude.{nat_le, ◌==◌}
use Rattle.std.specs.List.{list_any}
use Rattle.std.specs.List.Sorted.{IsPermutation, IsNonDecreasingBy}
use Rattle.std.proofs.lemmas.Bool.{and_parts, and_from, or_cases, or_left, or_right, leb-true, le-leb, eqb-true, eq-eqb, false≢true, cases_lt}
use Rattle.std.proofs.lemmas.List.Sorted.{list_any-IsPermutation}
use Rattle.tests.specs.declared.range.Span.{Span}
use Rattle.tests.specs.Ranges.{span, spans}
use Rattle.machine.specs.Step.{in_range}
use Rattle.tests.specs.Admission.CodeWords.{ranges_of, word_at, ElfFile}
use Rattle.tests.proofs.Lemmas.{Rising, rising_lower, pairs_of}
use Rattle.machine.proofs.Lemmas.{among_of, contains_of, among-left, among-right, among-either}
use Rattle.machine.specs.Members.{Among}
use Rattle.listing.specs.Listing.{lines, AreWordAddresses, IsListing}
use Rattle.listing.specs.Addresses.{addresses_from, up, down, range_words, addresses}

-- ---- in ascending order
rising-from_on : (a n low : ℕ) (xs : List ℕ) → low ≤ a → Rising (a + 4 * n) xs → Rising low (addresses_from a n ++ xs)
rising-from_on a zero low xs l r = rising_lower (a + 4 * 0) low xs (omega (arith, l)) r
rising-from_on a (suc n) low xs l r =
    let e : a + 4 * suc n ≡ a + 4 + 4 * n = omega arith in
    (l, rising-from_on (a + 4) n (a + 1) xs (omega arith) (subst (λ m. Rising m xs) e r))

rising_step : (start n low d : ℕ) (xs : List ℕ) → low ≤ start → low ≤ d → (0 < n → start + 4 * n ≤ d) → Rising d xs → Rising low (addresses_from start n ++ xs)
rising_step start zero low d xs l k h r = rising_lower d low xs k r
rising_step start (suc n) low d xs l k h r = rising-from_on start (suc n) low xs l (rising_lower d (start + 4 * suc n) xs (h (omega arith)) r)

rising-addresses : (done : ℕ) (rs : List (ℕ × ℕ)) → Rising done (addresses done rs)
rising-addresses done [] = tt
rising-addresses done (r ∷ rs) =
    let start = max (up r.0) done in
    let d = max done (down r.1) in
    rising_step start ((down r.1 - start) / 4) done d (addresses d rs) (omega arith) (omega arith) (λ h. omega (arith, h)) (rising-addresses d rs)

-- ---- the words of one range
record WordOf (start n a : ℕ) : Type 0 where
  place : ℕ
  below : place < n
  is : a ≡ start + 4 * place

word_later : (start n a : ℕ) → WordOf (start + 4) n a → WordOf start (suc n) a
word_later start n a w = let b = w.below in let e = w.is in record { place = w.place + 1; below = omega (arith, b); is = omega (arith, e) }

word_source : (start n a : ℕ) → Among a (addresses_from start n) → WordOf start n a
word_source start zero a m = absurd m
word_source start (suc n) a m = ⊎_elim (λ e. record { place = 0; below = omega arith; is = omega (arith, e) }) (λ r. word_later start n a (word_source (start + 4) n a r)) m

word_among : (start n place a : ℕ) → place < n → a ≡ start + 4 * place → Among a (addresses_from start n)
word_among start zero place a lt e = absurd (omega (arith, lt))
word_among start (suc n) zero a lt e = inl (omega (arith, e))
word_among start (suc n) (suc place) a lt e = inr (word_among (start + 4) n place a (omega (arith, lt)) (omega (arith, e)))

-- the word at an address lies in a range
abbrev in_one : ℕ → ℕ × ℕ → Bool
in_one a r = nat_le r.0 a && nat_le (a + 4) r.1

one_parts : (a : ℕ) (r : ℕ × ℕ) → in_one a r ≡ true → (r.0 ≤ a) × (a + 4 ≤ r.1)
one_parts a r h = let p = and_parts (nat_le r.0 a) (nat_le (a + 4) r.1) h in (leb-true r.0 a p.0, leb-true (a + 4) r.1 p.1)

one_from : (a : ℕ) (r : ℕ × ℕ) → r.0 ≤ a → a + 4 ≤ r.1 → in_one a r ≡ true
one_from a r from to = and_from (nat_le r.0 a) (nat_le (a + 4) r.1) (le-leb r.0 a from) (le-leb (a + 4) r.1 to)

placed : (start end a place : ℕ) → a ≡ start + 4 * place → place < (end - start) / 4 → (start ≤ a) × (a + 4 ≤ end)
placed start end a place e lt = (omega (arith, e), omega (arith, e, lt))

whole_start : (low done : ℕ) → done % 4 ≡ 0 → max (up low) done % 4 ≡ 0
whole_start low done e = omega (arith, e)

words_in : (a done : ℕ) (r : ℕ × ℕ) → done % 4 ≡ 0 → Among a (range_words done r) → (a % 4 ≡ 0) × (in_one a r ≡ true)
words_in a done r e m =
    let start = max (up r.0) done in
    let w = word_source start ((down r.1 - start) / 4) a m in
    let p = placed start (down r.1) a w.place w.is w.below in
    let is = w.is in
    let z = whole_start r.0 done e in
    let u : r.0 ≤ up r.0 = omega arith in
    let d : down r.1 ≤ r.1 = omega arith in
    let s : up r.0 ≤ start = omega arith in
    let from = p.0 in
    let to = p.1 in
    (divides start w.place is z, one_from a r (omega (arith, from, u, s)) (omega (arith, to, d))) where
      divides : (start place : ℕ) → a ≡ start + 4 * place → start % 4 ≡ 0 → a % 4 ≡ 0
      divides start place is z = omega (arith, is, z)

in_words : (a done : ℕ) (r : ℕ × ℕ) → done % 4 ≡ 0 → a % 4 ≡ 0 → done ≤ a → r.0 ≤ a → a < down r.1 → Among a (range_words done r)
in_words a done r e f l from to =
    let start = max (up r.0) done in
    let u : up r.0 ≤ a = omega (arith, from, f) in
    let s : start ≤ a = omega (arith, u, l) in
    let z = whole_start r.0 done e in
    let d : a + 4 ≤ down r.1 = omega (arith, to, f) in
    word_among start ((down r.1 - start) / 4) ((a - start) / 4) a (omega (arith, s, d)) (omega (arith, s, z, f))

-- ---- ranges in the order of their starts
abbrev Starts : ℕ → List (ℕ × ℕ) → Type 0
Starts low [] = Unit {0}
Starts low (r ∷ rs) = (low ≤ r.0) × Starts r.0 rs

starts_below : (low a : ℕ) (rs : List (ℕ × ℕ)) → Starts low rs → in_range a rs ≡ true → low ≤ a
starts_below low a [] s h = absurd (false≢true h)
starts_below low a (r ∷ rs) s h =
    let from = s.0 in
    ⊎_elim
    (λ x. let p = one_parts a r x in let q = p.0 in omega (arith, from, q))
    (λ x. let q = starts_below r.0 a rs s.1 x in omega (arith, from, q))
    (or_cases (in_one a r) (in_range a rs) h)

whole_done : (done high : ℕ) → done % 4 ≡ 0 → max done (down high) % 4 ≡ 0
whole_done done high e = omega (arith, e)

listed_in : (a done : ℕ) (rs : List (ℕ × ℕ)) → done % 4 ≡ 0 → Among a (addresses done rs) → (a % 4 ≡ 0) × (in_range a rs ≡ true)
listed_in a done [] e m = absurd m
listed_in a done (r ∷ rs) e m =
    let d = max done (down r.1) in
    ⊎_elim
    (λ x. let p = words_in a done r e x in (p.0, or_left (in_one a r) (in_range a rs) p.1))
    (λ x. let p = listed_in a d rs (whole_done done r.1 e) x in (p.0, or_right (in_one a r) (in_range a rs) p.1))
    (among-either a (range_words done r) (addresses d rs) m)

in_listed : (a done low : ℕ) (rs : List (ℕ × ℕ)) → Starts low rs → done % 4 ≡ 0 → a % 4 ≡ 0 → done ≤ a → in_range a rs ≡ true → Among a (addresses done rs)
in_listed a done low [] s e f l h = absurd (false≢true h)
in_listed a done low (r ∷ rs) s e f l h =
    ⊎_elim
    (λ lt. among-left a (range_words done r) (addresses (max done (down r.1)) rs) (in_words a done r e f l from (omega (arith, lt, l))))
    (λ le. among-right a (range_words done r) (addresses (max done (down r.1)) rs) (in_listed a (max done (down r.1)) r.0 rs s.1 (whole_done done r.1 e) f le (later le)))
    (cases_lt a (max done (down r.1)))
  where
    from : r.0 ≤ a
    from = ⊎_elim (λ x. (one_parts a r x).0) (λ x. starts_below r.0 a rs s.1 x) (or_cases (in_one a r) (in_range a rs) h)

    later : max done (down r.1) ≤ a → in_range a rs ≡ true
    later le =
        ⊎_elim
        (λ x. let p = one_parts a r x in let to = p.1 in let d : a + 4 ≤ down r.1 = omega (arith, to, f) in absurd (omega (arith, le, d)))
        (λ x. x)
        (or_cases (in_one a r) (in_range a rs) h)

-- ---- ranges that are sorted
starts_from : (low : ℕ) (rs : List Span) → ((d : Span) → 0 < length rs → low ≤ (get_or rs 0 d).start) → IsNonDecreasingBy (λ r. r.start) rs → Starts low (spans rs)
starts_from low [] l sorted = tt
starts_from low (r ∷ rs) l sorted = (
  l r (omega arith),
  starts_from r.start rs (λ d lt. sorted 0 1 d (omega arith) (omega (arith, lt))) (λ i j d le lt. sorted (suc i) (suc j) d (omega (arith, le)) (omega (arith, lt))),
)

any_range : (a : ℕ) (rs : List Span) → in_range a (spans rs) ≡ list_any (λ r. in_one a (span r)) rs
any_range a [] = refl
any_range a (r ∷ rs) = ap (λ b. in_one a (span r) || b) (any_range a rs)

same_range : (a : ℕ) (xs ys : List Span) → IsPermutation xs ys → in_range a (spans xs) ≡ in_range a (spans ys)
same_range a xs ys moved = any_range a xs ∙ list_any-IsPermutation (λ r. in_one a (span r)) xs ys moved ∙ sym (any_range a ys)

-- ---- the words of the file
module _ (f : ElfFile) (xs ys : List Span) (e : spans xs ≡ ranges_of f) (moved : IsPermutation xs ys) (sorted : IsNonDecreasingBy (λ r. r.start) ys) where
  same : (a : ℕ) → in_range a (spans ys) ≡ in_range a (ranges_of f)
  same a = sym (same_range a xs ys moved) ∙ ap (in_range a) e

  starts : Starts 0 (spans ys)
  starts = starts_from 0 ys (λ d lt. omega arith) sorted

  all_words : AreWordAddresses f (addresses 0 (spans ys))
  all_words = record {
    ascend = pairs_of 0 (addresses 0 (spans ys)) (rising-addresses 0 (spans ys));
    all = λ a. (
      (λ c. let p = listed_in a 0 (spans ys) refl (among_of a (addresses 0 (spans ys)) c) in and_from (a % 4 == 0) (in_range a (ranges_of f)) (eq-eqb (a % 4) 0 p.0) (sym (same a) ∙ p.1)),
      (λ h. let p = and_parts (a % 4 == 0) (in_range a (ranges_of f)) h in contains_of a (addresses 0 (spans ys)) (in_listed a 0 0 (spans ys) starts refl (eqb-true (a % 4) 0 p.0) (omega arith) (same a ∙ p.1))),
    );
  }

  pub is_listing : (text : List ℕ) → text ≡ lines (word_at f) (addresses 0 (spans ys)) → IsListing f text
  is_listing text is = record { addresses = addresses 0 (spans ys); all = all_words; is = is }

-- Sorted ranges that are joined from the front are the joined ranges.
use Rattle.std.proofs.Common.{◌≡◌, ℕ, suc, ◌+◌, ◌<◌, ◌≤◌, max, true, false, cond, ◌&&◌, ◌||◌, List, [], ◌∷◌, length, get_or, refl, sym, ap, ◌∙◌, arith}
use Rattle.std.specs.Prelude.{nat_lt, nat_le}
use Rattle.std.specs.List.Sorted.{IsPermutation, IsNonDecreasingBy}
use Rattle.std.proofs.Math.Bool.{or_assoc}
use Rattle.std.proofs.lemmas.Bool.{leb-true, leb-false}
use Rattle.std.proofs.lemmas.Bool.Decides.{nat_tests}
use Rattle.std.proofs.lemmas.List.Elements.{All-head, All-tail}
use Rattle.std.proofs.lemmas.List.Sorted.{All-permutation, IsPermutation-map, list_any-IsPermutation}
use Rattle.tests.specs.Admission.DataRanges.{is_in, is_in_any, joined_ranges}
use Rattle.tests.proofs.Lemmas.{Spaced, AllSome, spaced-joined, in_any-joined, same_ranges}
use Rattle.tests.specs.declared.range.Span.{Span}
use Rattle.tests.specs.Ranges.{span, spans}
use Rattle.test_admission.specs.Spans.{glue, glued, HaveSome}

-- ---- ranges in the order of their starts
-- each begins at the start of the one before it, or behind it, and has some address
abbrev pub Starts : ℕ → List (ℕ × ℕ) → Type 0
Starts low [] = Unit {0}
Starts low (r ∷ rs) = (low ≤ r.0) × (r.0 < r.1) × Starts r.0 rs

starts_lower : (low l : ℕ) (rs : List (ℕ × ℕ)) → l ≤ low → Starts low rs → Starts l rs
starts_lower low l [] h s = tt
starts_lower low l (r ∷ rs) h s = (omega (arith, h, s.0), s.1, s.2)

spaced-glue : (low : ℕ) (r : ℕ × ℕ) (ts : List (ℕ × ℕ)) → low ≤ r.0 → r.0 < r.1 → Starts r.0 ts → Spaced low (glue r ts)
spaced-glue low r [] l s h = (l, s, tt)
spaced-glue low r (t ∷ ts) l s h =
    elim (nat_le t.0 r.1) as (λ b. nat_le t.0 r.1 ≡ b → Spaced low (cond b (glue (r.0, max r.1 t.1) ts) (r ∷ glue t ts))) [
      | true ↦ λ e. spaced-glue low (r.0, max r.1 t.1) ts l (omega (arith, s)) (starts_lower t.0 r.0 ts h.0 h.2)
      | false ↦ λ e. let lt = leb-false t.0 r.1 e in (l, s, spaced-glue (r.1 + 1) t ts (omega (arith, lt)) h.1 h.2)
    ] refl

one_range_of : (a b c d q : ℕ) → a < b → c < d → a ≤ c → c ≤ b → (nat_le a q && nat_lt q (max b d)) ≡ ((nat_le a q && nat_lt q b) || (nat_le c q && nat_lt q d))
one_range_of a b c d q x y u v = grind (arith, nat_tests)

in_any-glue : (q : ℕ) (r : ℕ × ℕ) (ts : List (ℕ × ℕ)) → r.0 < r.1 → Starts r.0 ts → is_in_any (glue r ts) q ≡ (is_in r q || is_in_any ts q)
in_any-glue q r [] s h = refl
in_any-glue q r (t ∷ ts) s h =
    elim (nat_le t.0 r.1) as (λ b. nat_le t.0 r.1 ≡ b → is_in_any (cond b (glue (r.0, max r.1 t.1) ts) (r ∷ glue t ts)) q ≡ (is_in r q || (is_in t q || is_in_any ts q))) [
      | true ↦ λ e.
          in_any-glue q (r.0, max r.1 t.1) ts (omega (arith, s)) (starts_lower t.0 r.0 ts h.0 h.2)
          ∙ ap (λ b. b || is_in_any ts q) (one_range_of r.0 r.1 t.0 t.1 q s h.1 h.0 (leb-true t.0 r.1 e))
          ∙ or_assoc (is_in r q) (is_in t q) (is_in_any ts q)
      | false ↦ λ e. ap (λ b. is_in r q || b) (in_any-glue q t ts h.1 h.2)
    ] refl

spaced-glued : (rs : List (ℕ × ℕ)) → Starts 0 rs → Spaced 0 (glued rs)
spaced-glued [] h = tt
spaced-glued (r ∷ rs) h = spaced-glue 0 r rs (omega arith) h.1 h.2

in_any-glued : (q : ℕ) (rs : List (ℕ × ℕ)) → Starts 0 rs → is_in_any (glued rs) q ≡ is_in_any rs q
in_any-glued q [] h = refl
in_any-glued q (r ∷ rs) h = in_any-glue q r rs h.1 h.2

-- ---- a sort
some_bounds : (ss : List Span) → HaveSome ss → AllSome (spans ss)
some_bounds [] h = tt
some_bounds (s ∷ ss) h = (All-head (λ t. t.start < t.end) s ss h, some_bounds ss (All-tail (λ t. t.start < t.end) s ss h))

starts_from : (low : ℕ) (ss : List Span) → ((d : Span) → 0 < length ss → low ≤ (get_or ss 0 d).start) → IsNonDecreasingBy (λ s. s.start) ss → HaveSome ss → Starts low (spans ss)
starts_from low [] l up h = tt
starts_from low (s ∷ ss) l up h = (
  l s (omega arith),
  All-head (λ t. t.start < t.end) s ss h,
  starts_from s.start ss
      (λ d lt. up 0 1 d (omega arith) (omega (arith, lt)))
      (λ i j d le lt. up (suc i) (suc j) d (omega (arith, le)) (omega (arith, lt)))
      (All-tail (λ t. t.start < t.end) s ss h),
)

-- ---- so sorting and joining from the front give the joined ranges
module _ (xs ys : List Span) (some : HaveSome xs) (moved : IsPermutation xs ys) (up : IsNonDecreasingBy (λ s. s.start) ys) where
  starts : Starts 0 (spans ys)
  starts = starts_from 0 ys (λ d lt. omega arith) up (All-permutation (λ s. s.start < s.end) xs ys moved some)

  pub glued_spaced : Spaced 0 (glued (spans ys))
  glued_spaced = spaced-glued (spans ys) starts

  pub glued_joined : glued (spans ys) ≡ joined_ranges (spans xs)
  glued_joined =
      same_ranges 0 0 (glued (spans ys)) (joined_ranges (spans xs)) glued_spaced (spaced-joined (spans xs) (some_bounds xs some))
      (λ q.
      in_any-glued q (spans ys) starts
      ∙ sym (list_any-IsPermutation (λ r. is_in r q) (spans xs) (spans ys) (IsPermutation-map span xs ys moved))
      ∙ sym (in_any-joined q (spans xs) (some_bounds xs some)))

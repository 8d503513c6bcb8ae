-- Data ranges as a test and as a set.
use Rattle.std.proofs.Common.{◌≡◌, ℕ, ◌+◌, ◌^◌, ◌<◌, ◌≤◌, inl, inr, ⊎_elim, true, List, [], ◌∷◌, arith}
use Rattle.std.proofs.lemmas.Bool.{false≢true, or_cases, or_left, or_right, and_from, and_parts, le-leb, lt-ltb, leb-true, ltb-true}
use Rattle.tests.specs.Admission.DataRanges.{is_in_any}
use Rattle.qed_model.specs.Promise.Changed.{IsDataWord}
use Rattle.weave_core.specs.World.{AllBelow, InSpans, wrap, offset}
use Rattle.weave_core.specs.Lock.{word_bytes, span_bytes}

-- what passes the test is in a range
pub in_spans_is : (spans : List (ℕ × ℕ)) (q : ℕ) → is_in_any spans q ≡ true → InSpans spans q
in_spans_is [] q e = absurd (false≢true e)
in_spans_is (r ∷ rs) q e = ⊎_elim (λ h. let p = and_parts _ _ h in inl (leb-true r.0 q p.0, ltb-true q r.1 p.1)) (λ h. inr (in_spans_is rs q h)) (or_cases _ _ e)

-- the bytes of a data word pass it
pub in_spans_word : (spans : List (ℕ × ℕ)) (top a q : ℕ) → AllBelow spans top → top ≤ 2 ^ 64 → IsDataWord spans a → word_bytes a q ≡ true → span_bytes spans q ≡ true
in_spans_word [] top a q low small d e = absurd d
in_spans_word (r ∷ rs) top a q low small (inl d) e =
    let o : offset a q < 8 = ltb-true (offset a q) 8 e in
    let l : r.0 ≤ wrap q = omega (arith, o, d.1, d.2, low.0, small) in
    let h : wrap q < r.1 = omega (arith, o, d.1, d.2, low.0, small) in
    or_left _ _ (and_from _ _ (le-leb r.0 (wrap q) l) (lt-ltb (wrap q) r.1 h))
in_spans_word (r ∷ rs) top a q low small (inr d) e = or_right _ _ (in_spans_word rs top a q low.1 small d e)

-- a data word ends before the end of the ranges
pub word_below : (spans : List (ℕ × ℕ)) (a top : ℕ) → AllBelow spans top → IsDataWord spans a → a + 8 ≤ top
word_below [] a top low d = absurd d
word_below (r ∷ rs) a top low (inl d) = omega (arith, d.2, low.0)
word_below (r ∷ rs) a top low (inr d) = word_below rs a top low.1 d

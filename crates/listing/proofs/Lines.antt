-- Lines of words that are listed one after another.
use Rattle.std.proofs.Common.{◌≡◌, ℕ, zero, suc, ◌+◌, ◌-◌, ◌*◌, ◌<◌, max, List, [], ◌∷◌, ◌++◌, length, get_or, drop, refl, sym, ap, ◌∙◌, arith, append_assoc, add-one, drop-cons}
use Rattle.tests.specs.declared.range.Span.{Span}
use Rattle.tests.specs.Ranges.{span, spans}
use Rattle.listing.specs.Listing.{line, lines}
use Rattle.listing.specs.Addresses.{addresses_from, down, range_words, addresses}

lines-append : (w : ℕ → ℕ) (xs ys : List ℕ) → lines w (xs ++ ys) ≡ lines w xs ++ lines w ys
lines-append w [] ys = refl
lines-append w (x ∷ xs) ys = ap (λ t. line x (w x) ++ t) (lines-append w xs ys) ∙ sym (append_assoc (line x (w x)) (lines w xs) (lines w ys))

-- lines of equal words are equal
pub same_lines : (w v : ℕ → ℕ) (a n : ℕ) → ((k : ℕ) → k < n → w (a + 4 * k) ≡ v (a + 4 * k)) → lines w (addresses_from a n) ≡ lines v (addresses_from a n)
same_lines w v a zero h = refl
same_lines w v a (suc n) h =
    let z : a + 4 * 0 ≡ a = omega arith in
    let here : w a ≡ v a = ap w (sym z) ∙ h 0 (omega arith) ∙ ap v z in
    ap (λ x. line a x ++ lines w (addresses_from (a + 4) n)) here
    ∙ ap (λ t. line a (v a) ++ t) (same_lines w v (a + 4) n (λ k lt. let e : a + 4 * (k + 1) ≡ a + 4 + 4 * k = omega arith in ap w (sym e) ∙ h (k + 1) (omega (arith, lt)) ∙ ap v e))

-- ---- one more word
pub line_step :
    (w : ℕ → ℕ) (start count number : ℕ) (text more all : List ℕ) → number < count → more ≡ text ++ line (start + 4 * number) (w (start + 4 * number))
    → text ++ lines w (addresses_from (start + 4 * number) (count - number)) ≡ all
    → more ++ lines w (addresses_from (start + 4 * (number + 1)) (count - (number + 1))) ≡ all
line_step w start count number text more all lt e h =
    let n : count - number ≡ suc (count - (number + 1)) = omega (arith, lt) in
    let s : start + 4 * (number + 1) ≡ start + 4 * number + 4 = omega arith in
    let a = start + 4 * number in
    let rest = count - (number + 1) in
    ap (λ xs. xs ++ lines w (addresses_from (start + 4 * (number + 1)) rest)) e
    ∙ ap (λ m. (text ++ line a (w a)) ++ lines w (addresses_from m rest)) s
    ∙ append_assoc text (line a (w a)) (lines w (addresses_from (a + 4) rest))
    ∙ ap (λ m. text ++ lines w (addresses_from a m)) (sym n)
    ∙ h

-- ---- one more range
rest_spans : (rs : List Span) (i : ℕ) (d : Span) → i < length rs → spans (drop i rs) ≡ span (get_or rs i d) ∷ spans (drop (i + 1) rs)
rest_spans rs i d lt = let split : drop i rs ≡ get_or rs i d ∷ drop (i + 1) rs = rw add-one (drop-cons rs i d lt) in ap spans split

pub range_step :
    (w : ℕ → ℕ) (rs : List Span) (i : ℕ) (d : Span) (done next : ℕ) (text more all : List ℕ) → i < length rs
    → more ≡ text ++ lines w (range_words done (span (get_or rs i d))) → next ≡ max done (down (get_or rs i d).end)
    → text ++ lines w (addresses done (spans (drop i rs))) ≡ all
    → more ++ lines w (addresses next (spans (drop (i + 1) rs))) ≡ all
range_step w rs i d done next text more all lt e n h =
    let r = get_or rs i d in
    let rest = spans (drop (i + 1) rs) in
    let later = addresses (max done (down r.end)) rest in
    ap (λ m. more ++ lines w (addresses m rest)) n
    ∙ ap (λ xs. xs ++ lines w later) e
    ∙ append_assoc text (lines w (range_words done (span r))) (lines w later)
    ∙ ap (λ t. text ++ t) (sym (lines-append w (range_words done (span r)) later))
    ∙ ap (λ ss. text ++ lines w (addresses done ss)) (sym (rest_spans rs i d lt))
    ∙ h

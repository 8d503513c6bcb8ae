-- Words in ranges: of lists that are joined, sorted or pushed to, and where they are sought.
use Rattle.std.proofs.Common.{◌≡◌, ℕ, ◌+◌, ◌-◌, ◌<◌, ◌≤◌, Bool, true, false, List, [], ◌∷◌, ◌++◌, length, take, refl, sym, ap, ◌∙◌, arith, get_or, ⊎_elim}
use Rattle.std.specs.Prelude.{◌&&◌, ◌||◌, nat_le, max, All}
use Rattle.std.specs.List.{list_any, AllWithin}
use Rattle.std.specs.List.Sorted.{IsPermutation, IsNonDecreasingBy}
use Rattle.std.proofs.lemmas.List.{get_or_default}
use Rattle.std.proofs.lemmas.List.Folds.{list_any-append, list_any_at, list_any_more, list_any_none}
use Rattle.std.proofs.lemmas.List.Sorted.{list_any-IsPermutation}
use Rattle.std.proofs.lemmas.Bool.{cases_lt, false≢true}
use Rattle.std.proofs.lemmas.Bool.Decides.{nat_tests}
use Rattle.machine.specs.Step.{in_range}
use Rattle.tests.specs.declared.range.Span.{Span}
use Rattle.tests.specs.Ranges.{span, spans}
use Rattle.rv_step.specs.Reached.{spans_word, AreRising, BeginBy, HasWordsAmong, IsFarthest}

any_has : (a : ℕ) (rs : List (ℕ × ℕ)) → in_range a rs ≡ list_any (spans_word a) rs
any_has a [] = refl
any_has a (r ∷ rs) = ap (λ t. spans_word a r || t) (any_has a rs)

any_span : (a : ℕ) (cs : List Span) → in_range a (spans cs) ≡ list_any (λ c. spans_word a (span c)) cs
any_span a [] = refl
any_span a (c ∷ cs) = ap (λ t. spans_word a (span c) || t) (any_span a cs)

-- the order does not matter
pub permuted : (a : ℕ) (xs ys : List Span) → IsPermutation xs ys → in_range a (spans ys) ≡ in_range a (spans xs)
permuted a xs ys p = any_span a ys ∙ sym (list_any-IsPermutation (λ c. spans_word a (span c)) xs ys p) ∙ sym (any_span a xs)

pub none_has : (a : ℕ) (rs : List (ℕ × ℕ)) → All (λ r. spans_word a r ≡ false) rs → in_range a rs ≡ false
none_has a rs h = any_has a rs ∙ list_any_none (spans_word a) rs h

pub one_has : (a : ℕ) (rs : List (ℕ × ℕ)) (k : ℕ) (d : ℕ × ℕ) → k < length rs → spans_word a (get_or rs k d) ≡ true → in_range a rs ≡ true
one_has a rs k d h e = any_has a rs ∙ list_any_at (spans_word a) rs k d h e

-- ---- a range behind others
far_same : (a s e f p q : ℕ) → p ≤ s → spans_word a (p, q) ≡ false → f ≡ max e q → (spans_word a (s, f) || false) ≡ spans_word a (s, e)
far_same a s e f p q h n m = grind (arith, nat_tests)

not_has : (a : ℕ) (rs : List (ℕ × ℕ)) (k : ℕ) (d : ℕ × ℕ) → k < length rs → in_range a rs ≡ false → spans_word a (get_or rs k d) ≡ false
not_has a rs k d h e = elim (spans_word a (get_or rs k d)) as (λ t. spans_word a (get_or rs k d) ≡ t → t ≡ false) [
  | true ↦ λ y. absurd (false≢true (sym e ∙ one_has a rs k d h y))
  | false ↦ λ y. refl
] refl

only_word : (a : ℕ) (rs : List (ℕ × ℕ)) (s e f : ℕ) → BeginBy s rs → IsFarthest rs e f → in_range a rs ≡ false → (spans_word a (s, f) || false) ≡ spans_word a (s, e)
only_word a rs s e f begin far miss = ⊎_elim
    (λ some. far_same a s e f (get_or rs (length rs - 1) (0, 0)).0 (get_or rs (length rs - 1) (0, 0)).1 (begin (length rs - 1) (0, 0) (omega (arith, some))) (not_has a rs (length rs - 1) (0, 0) (omega (arith, some)) miss) (far.1 (0, 0) some))
    (λ none. let is : f ≡ e = far.0 (omega (arith, none)) in rw is (or_false (spans_word a (s, e))))
    (cases_lt 0 (length rs))
  where
    or_false : (b : Bool) → (b || false) ≡ b
    or_false true = refl
    or_false false = refl

same_behind : (b x y : Bool) → (b ≡ false → x ≡ y) → (b || x) ≡ (b || y)
same_behind true x y h = refl
same_behind false x y h = h refl

pub pushed : (a : ℕ) (rs : List (ℕ × ℕ)) (s e f : ℕ) → BeginBy s rs → IsFarthest rs e f → in_range a (rs ++ (s, f) ∷ []) ≡ (in_range a rs || spans_word a (s, e))
pushed a rs s e f begin far =
    any_has a (rs ++ (s, f) ∷ [])
    ∙ list_any-append (spans_word a) rs ((s, f) ∷ [])
    ∙ ap (λ t. t || (spans_word a (s, f) || false)) (sym (any_has a rs))
    ∙ same_behind (in_range a rs) (spans_word a (s, f) || false) (spans_word a (s, e)) (only_word a rs s e f begin far)

-- ---- one range more of those that stand in order
pub one_more : (a : ℕ) (cs : List Span) (i : ℕ) (d : Span) → i < length cs → in_range a (spans (take (i + 1) cs)) ≡ (in_range a (spans (take i cs)) || spans_word a (span (get_or cs i d)))
one_more a cs i d h = any_span a (take (i + 1) cs) ∙ list_any_more (λ x. spans_word a (span x)) cs i d h ∙ ap (λ t. t || spans_word a (span (get_or cs i d))) (sym (any_span a (take i cs)))

pub begin_on : (cs : List Span) (i j : ℕ) (d e : Span) (x : ℕ) → IsNonDecreasingBy (λ c. c.start) cs → i ≤ j → j < length cs → x ≤ (get_or cs i d).start → x ≤ (get_or cs j e).start
begin_on cs i j d e x up le l h =
    let more = up i j e le l in
    let here : (get_or cs i d).start ≡ (get_or cs i e).start = ap (λ c. c.start) (get_or_default cs i d e (omega (arith, le, l))) in
    omega (arith, h, here, more)

-- ---- the last range that begins at the address or before it
pub before_all : (a : ℕ) (rs : List (ℕ × ℕ)) → AllWithin (λ r. nat_le r.0 a ≡ false) rs 0 (length rs) → in_range a rs ≡ false
before_all a rs h = none_has a rs (λ k d l. grind (arith, nat_tests, h k d (omega arith) l))

far_end : (a : ℕ) (x r : ℕ × ℕ) → x.1 ≤ r.1 → nat_le (a + 4) r.1 ≡ false → spans_word a x ≡ false
far_end a x r l miss = grind (arith, nat_tests)

late : (a : ℕ) (x : ℕ × ℕ) → nat_le x.0 a ≡ false → spans_word a x ≡ false
late a x miss = grind (arith, nat_tests)

-- of the ranges before number n the last ends first
beyond : (a : ℕ) (rs : List (ℕ × ℕ)) (n : ℕ) (d : ℕ × ℕ) → AreRising rs → 0 < n → n ≤ length rs → AllWithin (λ r. nat_le r.0 a ≡ false) rs n (length rs) → nat_le (a + 4) (get_or rs (n - 1) d).1 ≡ false → All (λ r. spans_word a r ≡ false) rs
beyond a rs n d up some most behind miss = λ k e h. ⊎_elim
    (λ below. far_end a (get_or rs k e) (get_or rs (n - 1) e) (up.ends k (n - 1) e (omega (arith, below)) (omega (arith, some, most))) (ap (λ r. nat_le (a + 4) r.1) (get_or_default rs (n - 1) e d (omega (arith, some, most))) ∙ miss))
    (λ past. late a (get_or rs k e) (behind k e past h))
    (cases_lt k n)

pub nearest_tells : (a : ℕ) (rs : List (ℕ × ℕ)) (n : ℕ) (d : ℕ × ℕ) → AreRising rs → 0 < n → n ≤ length rs → nat_le (get_or rs (n - 1) d).0 a ≡ true → AllWithin (λ r. nat_le r.0 a ≡ false) rs n (length rs) → in_range a rs ≡ nat_le (a + 4) (get_or rs (n - 1) d).1
nearest_tells a rs n d up some most begun behind = elim (nat_le (a + 4) (get_or rs (n - 1) d).1) as (λ t. nat_le (a + 4) (get_or rs (n - 1) d).1 ≡ t → in_range a rs ≡ t) [
  | true ↦ λ e. one_has a rs (n - 1) d (omega (arith, some, most)) (ap (λ t. t && nat_le (a + 4) (get_or rs (n - 1) d).1) begun ∙ e)
  | false ↦ λ e. none_has a rs (beyond a rs n d up some most behind e)
] refl

pub is_among : (rs : List (ℕ × ℕ)) (k : ℕ) (d : ℕ × ℕ) → k < length rs → HasWordsAmong rs (get_or rs k d)
is_among rs k d l = λ a e. one_has a rs k d l e

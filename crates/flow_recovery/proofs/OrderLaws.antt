-- Lists of addresses in ascending order.
use Rattle.std.proofs.Common.{◌≡◌, inl, inr, ℕ, zero, suc, ◌<◌, ◌≤◌, Bool, true, false, cond, List, [], ◌∷◌, length, map, get_or, refl, sym, ap, ◌∙◌, subst, arith}
use Rattle.std.specs.Prelude.{AllPairs, ◌==◌, ◌||◌, if◌then◌else◌, nat_lt, filter}
use Rattle.std.specs.List.Sorted.{IsNonDecreasing}
use Rattle.std.proofs.lemmas.Bool.{false≢true, eqb-true, eq-eqb, false_from_ne_true, ltb-true, ltb-false}
use Rattle.tests.specs.declared.test.CodeWord.{CodeWord}
use Rattle.machine.specs.Members.{Among, Every, Pairs}
use Rattle.machine.proofs.Lemmas.{any_passing, passing, among-filter, among-kept, every_among}
use Rattle.flow_recovery.specs.Sets.{lists, not_below, is_first}
use Rattle.flow_recovery.specs.Words.{of_code}

-- ---- pairs, by their places
every_of : {A : Type 0} (P : A → Type 0) (xs : List A) → ((j : ℕ) (d : A) → j < length xs → P (get_or xs j d)) → Every P xs
every_of P [] h = tt
every_of P (x ∷ xs) h = (h zero x (omega arith), every_of P xs (λ j d lt. h (suc j) d (omega (arith, lt))))

pub pairs_of : {A : Type 0} (R : A → A → Type 0) (xs : List A) → AllPairs R xs → Pairs R xs
pairs_of R [] h = tt
pairs_of R (x ∷ xs) h =
    (every_of (R x) xs (λ j d lt. h zero (suc j) d (omega arith) (omega (arith, lt))), pairs_of R xs (λ i j d lt le. h (suc i) (suc j) d (omega (arith, lt)) (omega (arith, le))))

-- ---- members, by the test of a list
pub listed : (xs : List ℕ) (a : ℕ) → Among a xs → lists xs a ≡ true
listed xs a m = any_passing (λ b. b == a) a xs m (eq-eqb a a refl)

pub among_listed : (xs : List ℕ) (a : ℕ) → lists xs a ≡ true → Among a xs
among_listed xs a e = let p = passing (λ b. b == a) xs e in subst (λ x. Among x xs) (eqb-true p.member a p.passes) p.among

-- two tests that agree on the members of a list keep equal lists
pub filter_alike : {A : Type 0} (p q : A → Bool) (xs : List A) → ((x : A) → Among x xs → p x ≡ q x) → filter p xs ≡ filter q xs
filter_alike p q [] same = refl
filter_alike p q (x ∷ xs) same =
    ap (λ b. cond b (x ∷ filter p xs) (filter p xs)) (same x (inl refl)) ∙ ap (λ ys. cond (q x) (x ∷ ys) ys) (filter_alike p q xs (λ y m. same y (inr m)))

-- what is kept of a list lists what passes
kept_by : (p : ℕ → Bool) (xs : List ℕ) (a : ℕ) → Among a xs → (b c : Bool) → lists (filter p xs) a ≡ b → p a ≡ c → b ≡ c
kept_by p xs a m true true e h = refl
kept_by p xs a m false false e h = refl
kept_by p xs a m true false e h = sym (among-kept p a xs (among_listed (filter p xs) a e)).1 ∙ h
kept_by p xs a m false true e h = sym e ∙ listed (filter p xs) a (among-filter p a xs h m)

pub kept_lists : (p : ℕ → Bool) (xs : List ℕ) (a : ℕ) → Among a xs → lists (filter p xs) a ≡ p a
kept_lists p xs a m = kept_by p xs a m (lists (filter p xs) a) (p a) refl refl

-- ---- one list along another
none_above : (a b : ℕ) (bs : List ℕ) → a < b → Every (λ c. b ≤ c) bs → lists bs a ≡ false
none_above a b [] lt h = refl
none_above a b (c ∷ cs) lt h =
    let le = h.0 in
    ap (λ z. z || lists cs a) (false_from_ne_true (c == a) (λ e. let s = eqb-true c a e in omega (arith, s, le, lt))) ∙ none_above a b cs lt h.1

from_pairs : (a : ℕ) (bs : List ℕ) → Pairs (λ x y. x ≤ y) bs → Pairs (λ x y. x ≤ y) (not_below a bs)
from_pairs a [] h = tt
from_pairs a (b ∷ bs) h = elim (nat_lt b a) as (λ z. Pairs (λ x y. x ≤ y) (if z then not_below a bs else b ∷ bs)) [ true ↦ from_pairs a bs h.1 | false ↦ h ]

from_by : (a b : ℕ) (bs : List ℕ) (x : ℕ) (z : Bool) → nat_lt b a ≡ z → a ≤ x → lists (not_below a bs) x ≡ lists bs x → lists (if z then not_below a bs else b ∷ bs) x ≡ lists (b ∷ bs) x
from_by a b bs x false e le h = refl
from_by a b bs x true e le h =
    let lt = ltb-true b a e in
    h ∙ ap (λ z. z || lists bs x) (sym (false_from_ne_true (b == x) (λ s. let t = eqb-true b x s in omega (arith, t, lt, le))))

from_lists : (a : ℕ) (bs : List ℕ) (x : ℕ) → a ≤ x → lists (not_below a bs) x ≡ lists bs x
from_lists a [] x le = refl
from_lists a (b ∷ bs) x le = from_by a b bs x (nat_lt b a) refl le (from_lists a bs x le)

first_by : (a b : ℕ) (bs : List ℕ) (z y : Bool) → nat_lt b a ≡ z → (b == a) ≡ y → Every (λ c. b ≤ c) bs → is_first a (not_below a bs) ≡ lists bs a → is_first a (if z then not_below a bs else b ∷ bs) ≡ (y || lists bs a)
first_by a b bs true true e s h rec = let lt = ltb-true b a e in let t = eqb-true b a s in absurd (omega (arith, t, lt))
first_by a b bs true false e s h rec = rec
first_by a b bs false true e s h rec = s
first_by a b bs false false e s h rec =
    let le = ltb-false b a e in
    let ne : b ≡ a → ⊥ = λ t. false≢true (sym s ∙ eq-eqb b a t) in
    s ∙ sym (none_above a b bs (omega (arith, le, ne)) h)

first_lists : (a : ℕ) (bs : List ℕ) → Pairs (λ x y. x ≤ y) bs → is_first a (not_below a bs) ≡ lists bs a
first_lists a [] h = refl
first_lists a (b ∷ bs) h = first_by a b bs (nat_lt b a) (b == a) refl refl h.0 (first_lists a bs h.1)

pub of_code_is : (named : List ℕ) (cs : List CodeWord) → Pairs (λ x y. x ≤ y) named → Pairs (λ x y. x < y) (map (λ (c : CodeWord). c.at) cs) → of_code named cs ≡ filter (lists named) (map (λ c. c.at) cs)
of_code_is named [] h k = refl
of_code_is named (c ∷ cs) h k =
    let rest = not_below c.at named in
    let behind : of_code rest cs ≡ filter (lists named) (map (λ (d : CodeWord). d.at) cs) =
    of_code_is rest cs (from_pairs c.at named h) k.1
    ∙ filter_alike (lists rest) (lists named) (map (λ (d : CodeWord). d.at) cs) (λ a m. let lt = every_among (λ y. c.at < y) a (map (λ (d : CodeWord). d.at) cs) k.0 m in from_lists c.at named a (omega (arith, lt))) in
    ap (λ b. if b then c.at ∷ of_code rest cs else of_code rest cs) (first_lists c.at named h) ∙ ap (λ ys. if lists named c.at then c.at ∷ ys else ys) behind

-- a list that ascends, by places
pub rising : (xs : List ℕ) → IsNonDecreasing xs → Pairs (λ x y. x ≤ y) xs
rising xs h = pairs_of (λ x y. x ≤ y) xs (λ i j d lt le. h i j d (omega (arith, lt)) le)

-- Segments in ascending order: a sorted list of segments with different addresses is the ordered list.
use Rattle.std.proofs.Common.{◌≡◌, inl, inr, ⊎_elim, ℕ, suc, ◌+◌, ◌<◌, ◌≤◌, Bool, true, false, cond, List, [], ◌∷◌, ◌++◌, length, map, get_or, refl, sym, ap, ◌∙◌, arith}
use Rattle.std.specs.Prelude.{◌==◌, nat_le, All, filter}
use Rattle.std.specs.List.{sum_by}
use Rattle.std.specs.List.Sorted.{IsPermutation, IsNonDecreasingBy}
use Rattle.std.proofs.lemmas.Bool.{eqb-true, eq-eqb, leb-true, leb-false, cases_lt}
use Rattle.std.proofs.lemmas.List.{get_or-map, length-map}
use Rattle.std.proofs.lemmas.List.Sums.{sum_by-cons}
use Rattle.std.proofs.lemmas.List.Sorted.{sum_by-IsPermutation, All-permutation, IsPermutation-sym}
use Rattle.tests.specs.Admission.Places.{insert_segment, by_address, Segment}
use Rattle.machine.proofs.Lemmas.{all_among, every_all, among_every}
use Rattle.machine.specs.Members.{Among}
use Rattle.tests.proofs.Lemmas.{ordered_among, among-ordered}

-- ---- members of a list in another order
pub permuted_among : {A : Type 0} (x : A) (xs ys : List A) → IsPermutation xs ys → Among x ys → Among x xs
permuted_among x xs ys p m =
    let all : All (λ y. Among y xs) xs = every_all (λ y. Among y xs) xs (among_every (λ y. Among y xs) xs (λ y k. k)) in
    all_among (λ y. Among y xs) x ys (All-permutation (λ y. Among y xs) xs ys p all) m

pub among_permuted : {A : Type 0} (x : A) (xs ys : List A) → IsPermutation xs ys → Among x xs → Among x ys
among_permuted x xs ys p m = permuted_among x ys xs (IsPermutation-sym xs ys p) m

-- ---- how many segments have an address
abbrev hit : ℕ → Segment → ℕ
hit a s = cond (s.address == a) 1 0

abbrev pub hits : ℕ → List Segment → ℕ
hits a [] = 0
hits a (s ∷ ss) = hit a s + hits a ss

hits_sum : (a : ℕ) (ss : List Segment) → sum_by (hit a) ss ≡ hits a ss
hits_sum a [] = refl
hits_sum a (s ∷ ss) = sum_by-cons (hit a) s ss ∙ ap (λ n. hit a s + n) (hits_sum a ss)

pub hits-permuted : (a : ℕ) (xs ys : List Segment) → IsPermutation xs ys → hits a ys ≡ hits a xs
hits-permuted a xs ys p = sym (hits_sum a ys) ∙ sum_by-IsPermutation (hit a) xs ys p ∙ hits_sum a xs

pub hits-append : (a : ℕ) (xs ys : List Segment) → hits a (xs ++ ys) ≡ hits a xs + hits a ys
hits-append a [] ys = omega arith
hits-append a (x ∷ xs) ys = let h = hits-append a xs ys in omega (arith, h)

hit_here : (a : ℕ) (s : Segment) → s.address ≡ a → hit a s ≡ 1
hit_here a s e = rw (eq-eqb s.address a e) refl

pub hits_none : (a : ℕ) (ss : List Segment) → ((s : Segment) → Among s ss → s.address ≡ a → ⊥) → hits a ss ≡ 0
hits_none a [] h = refl
hits_none a (s ∷ ss) h = by (s.address == a) refl (hits_none a ss (λ t m. h t (inr m))) where
  by : (b : Bool) → (s.address == a) ≡ b → hits a ss ≡ 0 → cond b 1 0 + hits a ss ≡ 0
  by true e z = absurd (h s (inl refl) (eqb-true s.address a e))
  by false e z = omega (arith, z)

none_hit : (a : ℕ) (ss : List Segment) (s : Segment) → hits a ss ≡ 0 → Among s ss → s.address ≡ a → ⊥
none_hit a [] s z m e = m
none_hit a (t ∷ ss) s z m e =
    ⊎_elim
    (λ is. let one = hit_here a t (ap (λ x. x.address) (sym is) ∙ e) in absurd (omega (arith, z, one)))
    (λ r. none_hit a ss s (omega (arith, z)) r e)
    m

-- each address occurs at most once
abbrev pub AreOnce : List Segment → Type 0
AreOnce ss = (a : ℕ) → hits a ss ≤ 1

once_tail : (s : Segment) (ss : List Segment) → AreOnce (s ∷ ss) → AreOnce ss
once_tail s ss h a = let p = h a in omega (arith, p)

once_head : (s : Segment) (ss : List Segment) → AreOnce (s ∷ ss) → (t : Segment) → Among t ss → s.address ≡ t.address → ⊥
once_head s ss h t m e =
    let p = h s.address in
    let one = hit_here s.address s refl in
    none_hit s.address ss t (omega (arith, p, one)) m (sym e)

pub once-permuted : (xs ys : List Segment) → IsPermutation xs ys → AreOnce xs → AreOnce ys
once-permuted xs ys p h a = let e = hits-permuted a xs ys p in let l = h a in omega (arith, e, l)

pub hits-filter : (a : ℕ) (test : Segment → Bool) (ss : List Segment) → hits a (filter test ss) ≤ hits a ss
hits-filter a test [] = omega arith
hits-filter a test (s ∷ ss) = let h = hits-filter a test ss in elim (test s) as (λ b. hits a (cond b (s ∷ filter test ss) (filter test ss)) ≤ hit a s + hits a ss) [ true ↦ omega (arith, h) | false ↦ omega (arith, h) ]

-- ---- segments that rise
abbrev pub Rise : ℕ → List Segment → Type 0
Rise low [] = Unit {0}
Rise low (s ∷ ss) = (low ≤ s.address) × Rise (s.address + 1) ss

pub rise_lower : (low l : ℕ) (ss : List Segment) → l ≤ low → Rise low ss → Rise l ss
rise_lower low l [] h r = tt
rise_lower low l (s ∷ ss) h r = (omega (arith, h, r.0), r.1)

pub rise_from : (low : ℕ) (ss : List Segment) (s : Segment) → Rise low ss → Among s ss → low ≤ s.address
rise_from low [] s r m = absurd m
rise_from low (t ∷ ss) s r m =
    ⊎_elim
    (λ e. let a : s.address ≡ t.address = ap (λ x. x.address) e in omega (arith, a, r.0))
    (λ k. let h = rise_from (t.address + 1) ss s r.1 k in omega (arith, h, r.0))
    m

pub rise-filter : (low : ℕ) (test : Segment → Bool) (ss : List Segment) → Rise low ss → Rise low (filter test ss)
rise-filter low test [] r = tt
rise-filter low test (s ∷ ss) r =
    let h = rise-filter (s.address + 1) test ss r.1 in
    elim (test s) as (λ b. Rise low (cond b (s ∷ filter test ss) (filter test ss))) [ true ↦ (r.0, h) | false ↦ rise_lower (s.address + 1) low (filter test ss) (omega (arith, r.0)) h ]

-- two rising lists with equal members are equal
pub rise_same :
    (low l : ℕ) (xs ys : List Segment) → Rise low xs → Rise l ys → ((s : Segment) → Among s xs → Among s ys) → ((s : Segment) → Among s ys → Among s xs) → xs ≡ ys
rise_same low l [] [] a b h g = refl
rise_same low l [] (y ∷ ys) a b h g = absurd (g y (inl refl))
rise_same low l (x ∷ xs) [] a b h g = absurd (h x (inl refl))
rise_same low l (x ∷ xs) (y ∷ ys) a b h g = λ i. head i ∷ rise_same (x.address + 1) (y.address + 1) xs ys a.1 b.1 to from i where
  head : x ≡ y
  head = ⊎_elim (λ e. e) (λ m. ⊎_elim (λ e. sym e) (λ k. let p = rise_from (y.address + 1) ys x b.1 m in let q = rise_from (x.address + 1) xs y a.1 k in absurd (omega (arith, p, q))) (g y (inl refl))) (h x (inl refl))

  same : x.address ≡ y.address
  same = ap (λ s. s.address) head

  to : (s : Segment) → Among s xs → Among s ys
  to s m = ⊎_elim (λ e. let p = rise_from (x.address + 1) xs s a.1 m in let q : s.address ≡ y.address = ap (λ t. t.address) e in absurd (omega (arith, p, q, same))) (λ k. k) (h s (inr m))

  from : (s : Segment) → Among s ys → Among s xs
  from s m = ⊎_elim (λ e. let p = rise_from (y.address + 1) ys s b.1 m in let q : s.address ≡ x.address = ap (λ t. t.address) e in absurd (omega (arith, p, q, same))) (λ k. k) (g s (inr m))

-- insertion in order keeps a list rising
rise-insert : (low : ℕ) (s : Segment) (ts : List Segment) → Rise low ts → low ≤ s.address → ((t : Segment) → Among t ts → s.address ≡ t.address → ⊥) → Rise low (insert_segment s ts)
rise-insert low s [] r le ne = (le, tt)
rise-insert low s (t ∷ ts) r le ne = by (nat_le s.address t.address) refl (λ g. rise-insert (t.address + 1) s ts r.1 g (λ u m. ne u (inr m))) where
  by : (b : Bool) → nat_le s.address t.address ≡ b → (t.address + 1 ≤ s.address → Rise (t.address + 1) (insert_segment s ts)) → Rise low (cond b (s ∷ t ∷ ts) (t ∷ insert_segment s ts))
  by true e rec = let h = leb-true s.address t.address e in (le, (⊎_elim (λ lt. omega (arith, lt)) (λ ge. absurd (ne t (inl refl) (omega (arith, h, ge)))) (cases_lt s.address t.address), r.1))
  by false e rec = let h = leb-false s.address t.address e in (r.0, rec (omega (arith, h)))

rise-order : (ss : List Segment) → AreOnce ss → Rise 0 (by_address ss)
rise-order [] h = tt
rise-order (s ∷ ss) h = rise-insert 0 s (by_address ss) (rise-order ss (once_tail s ss h)) (omega arith) (λ t m. once_head s ss h t (ordered_among ss t m))

-- a sorted list rises
pub sorted_rises : (low : ℕ) (ss : List Segment) → IsNonDecreasingBy (λ s. s.address) ss → AreOnce ss → ((s : Segment) → Among s ss → low ≤ s.address) → Rise low ss
sorted_rises low [] up h le = tt
sorted_rises low (s ∷ []) up h le = (le s (inl refl), tt)
sorted_rises low (s ∷ t ∷ ss) up h le =
    let first : s.address ≤ t.address = up 0 1 s (omega arith) (omega arith) in
    let tail : IsNonDecreasingBy (λ x. x.address) (t ∷ ss) = λ i j d a b. up (suc i) (suc j) d (omega (arith, a)) (omega (arith, b)) in
    (le s (inl refl), sorted_rises (s.address + 1) (t ∷ ss) tail (once_tail s (t ∷ ss) h) (λ u m. behind u m (at_least u tail m) first))
  where
    at_least : (u : Segment) → IsNonDecreasingBy (λ x. x.address) (t ∷ ss) → Among u (t ∷ ss) → t.address ≤ u.address
    at_least u up m = all_among (λ x. t.address ≤ x.address) u (t ∷ ss) (λ k d lt. up 0 k d (omega arith) lt) m

    behind : (u : Segment) → Among u (t ∷ ss) → t.address ≤ u.address → s.address ≤ t.address → s.address + 1 ≤ u.address
    behind u m a b = ⊎_elim (λ x. omega (arith, x)) (λ x. absurd (once_head s (t ∷ ss) h u m (omega (arith, x, a, b)))) (cases_lt s.address u.address)

pub order_is : (xs ys : List Segment) → IsPermutation xs ys → IsNonDecreasingBy (λ s. s.address) ys → AreOnce xs → ys ≡ by_address xs
order_is xs ys p up h =
    rise_same 0 0 ys (by_address xs) (sorted_rises 0 ys up (once-permuted xs ys p h) (λ s m. omega arith)) (rise-order xs h)
    (λ s m. among-ordered xs s (permuted_among s xs ys p m))
    (λ s m. among_permuted s xs ys p (ordered_among xs s m))

-- a list sorted by an address of something else
pub non_decreasing-map : {A : Type 0} (f : A → Segment) (xs : List A) → IsNonDecreasingBy (λ x. (f x).address) xs → IsNonDecreasingBy (λ s. s.address) (map f xs)
non_decreasing-map f [] up i j d a b = absurd (omega (arith, b))
non_decreasing-map f (x ∷ xs) up i j d a b =
    let size = length-map (x ∷ xs) f in
    let lt : j < length (x ∷ xs) = omega (arith, b, size) in
    let h = up i j x a lt in
    let p : (get_or (map f (x ∷ xs)) i d).address ≡ (f (get_or (x ∷ xs) i x)).address = ap (λ s. s.address) (get_or-map f (x ∷ xs) i x d (omega (arith, a, lt))) in
    let q : (get_or (map f (x ∷ xs)) j d).address ≡ (f (get_or (x ∷ xs) j x)).address = ap (λ s. s.address) (get_or-map f (x ∷ xs) j x d lt) in
    omega (arith, h, p, q)

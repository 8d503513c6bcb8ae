-- The data ranges: joining gives the ranges that the sentences on them describe, and there is one such list.
use Rattle.std.proofs.Common.{◌≡◌, ◌⊎◌, inl, inr, ⊎_elim, ℕ, suc, ◌+◌, ◌%◌, ◌<◌, ◌≤◌, min, max, Bool, true, false, cond, ◌&&◌, ◌||◌, List, [], ◌∷◌, get_or, refl, sym, ap, ◌∙◌, subst, arith}
use Rattle.std.specs.Prelude.{nat_lt, nat_le, All, AllPairs, map, filter}
use Rattle.std.proofs.Math.Bool.{or_assoc}
use Rattle.std.proofs.lemmas.Bool.Decides.{nat_tests}
use Rattle.std.proofs.lemmas.Bool.{leb-true, ltb-true, ltb-false, and_parts, and_from, le-leb, lt-ltb, false≢true}
use Rattle.std.proofs.lemmas.List.{get_or_default}
use Rattle.tests.specs.Admission.DataRanges.{Segment, rounded, data_segments, data_parts, is_in, is_in_any, AreJoined, join, joined_ranges, data_ranges}
use Rattle.machine.proofs.Lemmas.{passing, any_passing, none_passing, among_every, every_all, pairs_all}
use Rattle.machine.specs.Members.{Among, Pairs}

-- ---- ranges that ascend with gaps
-- the first begins at `low` or behind it, each has some address, and each next one leaves a gap
abbrev pub Spaced : ℕ → List (ℕ × ℕ) → Type 0
Spaced low [] = Unit {0}
Spaced low (r ∷ rs) = (low ≤ r.0) × (r.0 < r.1) × Spaced (r.1 + 1) rs

pub spaced_lower : (low l : ℕ) (rs : List (ℕ × ℕ)) → l ≤ low → Spaced low rs → Spaced l rs
spaced_lower low l [] h s = tt
spaced_lower low l (r ∷ rs) h s = (omega (arith, h, s.0), s.1, s.2)

-- each range has some address
abbrev pub AllSome : List (ℕ × ℕ) → Type 0
AllSome [] = Unit {0}
AllSome (r ∷ rs) = (r.0 < r.1) × AllSome rs

-- both ends of each are multiples of 8
abbrev pub AllAligned : List (ℕ × ℕ) → Type 0
AllAligned [] = Unit {0}
AllAligned (r ∷ rs) = (r.0 % 8 ≡ 0) × (r.1 % 8 ≡ 0) × AllAligned rs

-- ---- joining keeps the form
spaced-join : (low : ℕ) (r : ℕ × ℕ) (ts : List (ℕ × ℕ)) → low ≤ r.0 → r.0 < r.1 → Spaced low ts → Spaced low (join r ts)
spaced-join low r [] l s t = (l, s, tt)
spaced-join low r (t ∷ ts) l s h =
    elim (nat_lt r.1 t.0) as (λ b. nat_lt r.1 t.0 ≡ b → Spaced low (cond b (r ∷ t ∷ ts) (cond (nat_lt t.1 r.0) (t ∷ join r ts) (join (min r.0 t.0, max r.1 t.1) ts)))) [
      | true ↦ λ e. let lt = ltb-true r.1 t.0 e in (l, s, (omega (arith, lt), h.1, h.2))
      | false ↦ λ e. elim (nat_lt t.1 r.0) as (λ b. nat_lt t.1 r.0 ≡ b → Spaced low (cond b (t ∷ join r ts) (join (min r.0 t.0, max r.1 t.1) ts))) [
        | true ↦ λ d. let lt = ltb-true t.1 r.0 d in (h.0, h.1, spaced-join (t.1 + 1) r ts (omega (arith, lt)) s h.2)
        | false ↦ λ d. spaced-join low (min r.0 t.0, max r.1 t.1) ts (omega (arith, l, h.0)) (omega (arith, s, h.1)) (spaced_lower (t.1 + 1) low ts (omega (arith, h.0, h.1)) h.2)
      ] refl
    ] refl

aligned-join : (r : ℕ × ℕ) (ts : List (ℕ × ℕ)) → r.0 % 8 ≡ 0 → r.1 % 8 ≡ 0 → AllAligned ts → AllAligned (join r ts)
aligned-join r [] a b h = (a, b, tt)
aligned-join r (t ∷ ts) a b h =
    elim (nat_lt r.1 t.0) as (λ x. AllAligned (cond x (r ∷ t ∷ ts) (cond (nat_lt t.1 r.0) (t ∷ join r ts) (join (min r.0 t.0, max r.1 t.1) ts)))) [
      | true ↦ (a, b, h)
      | false ↦ elim (nat_lt t.1 r.0) as (λ x. AllAligned (cond x (t ∷ join r ts) (join (min r.0 t.0, max r.1 t.1) ts))) [
        | true ↦ (h.0, h.1, aligned-join r ts a b h.2)
        | false ↦ aligned-join (min r.0 t.0, max r.1 t.1) ts (omega (arith, a, h.0)) (omega (arith, b, h.1)) h.2
      ]
    ]

-- joining keeps the addresses
or_swap : (a b c : Bool) → (b || (a || c)) ≡ (a || (b || c))
or_swap true true c = refl
or_swap true false c = refl
or_swap false b c = refl

one_range_of : (a b c d q : ℕ) → a < b → c < d → c ≤ b → a ≤ d → (nat_le (min a c) q && nat_lt q (max b d)) ≡ ((nat_le a q && nat_lt q b) || (nat_le c q && nat_lt q d))
one_range_of a b c d q x y u v = grind (arith, nat_tests)

in_any-join : (q low : ℕ) (r : ℕ × ℕ) (ts : List (ℕ × ℕ)) → r.0 < r.1 → Spaced low ts → is_in_any (join r ts) q ≡ (is_in r q || is_in_any ts q)
in_any-join q low r [] s h = refl
in_any-join q low r (t ∷ ts) s h =
    elim (nat_lt r.1 t.0) as (λ b. nat_lt r.1 t.0 ≡ b → is_in_any (cond b (r ∷ t ∷ ts) (cond (nat_lt t.1 r.0) (t ∷ join r ts) (join (min r.0 t.0, max r.1 t.1) ts))) q ≡ (is_in r q || (is_in t q || is_in_any ts q))) [
      | true ↦ λ e. refl
      | false ↦ λ e. elim (nat_lt t.1 r.0) as (λ b. nat_lt t.1 r.0 ≡ b → is_in_any (cond b (t ∷ join r ts) (join (min r.0 t.0, max r.1 t.1) ts)) q ≡ (is_in r q || (is_in t q || is_in_any ts q))) [
        | true ↦ λ d. ap (λ b. is_in t q || b) (in_any-join q (t.1 + 1) r ts s h.2) ∙ or_swap (is_in r q) (is_in t q) (is_in_any ts q)
        | false ↦ λ d.
            in_any-join q (t.1 + 1) (min r.0 t.0, max r.1 t.1) ts (omega (arith, s, h.1)) h.2
            ∙ ap (λ b. b || is_in_any ts q) (one_range_of r.0 r.1 t.0 t.1 q s h.1 (ltb-false r.1 t.0 e) (ltb-false t.1 r.0 d))
            ∙ or_assoc (is_in r q) (is_in t q) (is_in_any ts q)
      ] refl
    ] refl

pub spaced-joined : (rs : List (ℕ × ℕ)) → AllSome rs → Spaced 0 (joined_ranges rs)
spaced-joined [] h = tt
spaced-joined (r ∷ rs) h = spaced-join 0 r (joined_ranges rs) (omega arith) h.0 (spaced-joined rs h.1)

pub aligned-joined : (rs : List (ℕ × ℕ)) → AllAligned rs → AllAligned (joined_ranges rs)
aligned-joined [] h = tt
aligned-joined (r ∷ rs) h = aligned-join r (joined_ranges rs) h.0 h.1 (aligned-joined rs h.2)

pub in_any-joined : (q : ℕ) (rs : List (ℕ × ℕ)) → AllSome rs → is_in_any (joined_ranges rs) q ≡ is_in_any rs q
in_any-joined q [] h = refl
in_any-joined q (r ∷ rs) h = in_any-join q 0 r (joined_ranges rs) h.0 (spaced-joined rs h.1) ∙ ap (λ b. is_in r q || b) (in_any-joined q rs h.1)

-- ---- addresses of ranges
pub in_from : (r : ℕ × ℕ) (q : ℕ) → r.0 ≤ q → q < r.1 → is_in r q ≡ true
in_from r q a b = and_from (nat_le r.0 q) (nat_lt q r.1) (le-leb r.0 q a) (lt-ltb q r.1 b)

pub in_parts : (r : ℕ × ℕ) (q : ℕ) → is_in r q ≡ true → (r.0 ≤ q) × (q < r.1)
in_parts r q h = let p = and_parts (nat_le r.0 q) (nat_lt q r.1) h in (leb-true r.0 q p.0, ltb-true q r.1 p.1)

pub in_not : (r : ℕ × ℕ) (q : ℕ) → (q < r.0) ⊎ (r.1 ≤ q) → is_in r q ≡ false
in_not r q h = by (is_in r q) refl where
  by : (b : Bool) → is_in r q ≡ b → is_in r q ≡ false
  by true e = let p = in_parts r q e in absurd (⊎_elim (λ x. omega (arith, x, p.0)) (λ x. omega (arith, x, p.1)) h)
  by false e = e

-- each begins where the list may begin, or later
pub spaced_from : (low : ℕ) (rs : List (ℕ × ℕ)) (r : ℕ × ℕ) → Spaced low rs → Among r rs → (low ≤ r.0) × (r.0 < r.1)
spaced_from low [] r s m = absurd m
spaced_from low (t ∷ rs) r s m =
    ⊎_elim
    (λ e. subst (λ x. (low ≤ x.0) × (x.0 < x.1)) (sym e) (s.0, s.1))
    (λ k. let p = spaced_from (t.1 + 1) rs r s.2 k in (omega (arith, p.0, s.0, s.1), p.1))
    m

-- no address before that is in one of them
none_before : (low q : ℕ) (rs : List (ℕ × ℕ)) → Spaced low rs → q < low → is_in_any rs q ≡ false
none_before low q rs s lt = none_passing (λ r. is_in r q) rs (λ r m. let p = spaced_from low rs r s m in in_not r q (inl (omega (arith, p.0, lt))))

-- one range alone has an address
pub one_range : (low : ℕ) (rs : List (ℕ × ℕ)) (r t : ℕ × ℕ) (q : ℕ) → Spaced low rs → Among r rs → Among t rs → is_in r q ≡ true → is_in t q ≡ true → r ≡ t
one_range low [] r t q s m k a b = absurd m
one_range low (x ∷ rs) r t q s m k a b =
    ⊎_elim
    (λ e. ⊎_elim
    (λ d. e ∙ sym d)
    (λ l. let p = spaced_from (x.1 + 1) rs t s.2 l in let u = in_parts x q (subst (λ y. is_in y q ≡ true) e a) in let v = in_parts t q b in absurd (omega (arith, p.0, u.1, v.0)))
    k)
    (λ j. ⊎_elim
    (λ d. let p = spaced_from (x.1 + 1) rs r s.2 j in let u = in_parts x q (subst (λ y. is_in y q ≡ true) d b) in let v = in_parts r q a in absurd (omega (arith, p.0, u.1, v.0)))
    (λ l. one_range (x.1 + 1) rs r t q s.2 j l a b)
    k)
    m

-- ---- the sentences
some-spaced : (low : ℕ) (rs : List (ℕ × ℕ)) → Spaced low rs → All (λ r. r.0 < r.1) rs
some-spaced low rs s = every_all (λ r. r.0 < r.1) rs (among_every (λ r. r.0 < r.1) rs (λ r m. (spaced_from low rs r s m).1))

gap_pairs : (low : ℕ) (rs : List (ℕ × ℕ)) → Spaced low rs → Pairs (λ r t. r.1 < t.0) rs
gap_pairs low [] s = tt
gap_pairs low (r ∷ rs) s = (among_every (λ t. r.1 < t.0) rs (λ t m. let h = (spaced_from (r.1 + 1) rs t s.2 m).0 in omega (arith, h)), gap_pairs (r.1 + 1) rs s.2)

gaps-spaced : (low : ℕ) (rs : List (ℕ × ℕ)) → Spaced low rs → AllPairs (λ r t. r.1 < t.0) rs
gaps-spaced low rs s = pairs_all (λ r t. r.1 < t.0) rs (gap_pairs low rs s)

-- so joined ranges are what the sentences say
pub are_joined : (parts : List (ℕ × ℕ)) → AllSome parts → AreJoined parts (joined_ranges parts)
are_joined parts h =
    let s = spaced-joined parts h in
    record { some = some-spaced 0 (joined_ranges parts) s; gaps = gaps-spaced 0 (joined_ranges parts) s; same = λ q. in_any-joined q parts h }

-- ---- there is one such list
-- the sentences give the form
spaced_rest : (low : ℕ) (rs : List (ℕ × ℕ)) → All (λ r. low ≤ r.0) rs → All (λ r. r.0 < r.1) rs → AllPairs (λ r t. r.1 < t.0) rs → Spaced low rs
spaced_rest low [] f s g = tt
spaced_rest low (r ∷ rs) f s g = (
  f 0 r (omega arith),
  s 0 r (omega arith),
  spaced_rest (r.1 + 1) rs
      (λ k d lt. let p = g 0 (suc k) r (omega arith) (omega (arith, lt)) in let e : (get_or rs k r).0 ≡ (get_or rs k d).0 = ap (λ x. x.0) (get_or_default rs k r d lt) in omega (arith, p, e))
      (λ k d lt. s (suc k) d (omega (arith, lt)))
      (λ i j d lt le. g (suc i) (suc j) d (omega (arith, lt)) (omega (arith, le))),
)

pub spaced_of : (parts rs : List (ℕ × ℕ)) → AreJoined parts rs → Spaced 0 rs
spaced_of parts rs j = spaced_rest 0 rs (λ k d lt. omega arith) j.some j.gaps

-- the first of two lists with the same addresses begins no later
first_from : (low : ℕ) (r : ℕ × ℕ) (rs ts : List (ℕ × ℕ)) → r.0 < r.1 → Spaced low ts → ((q : ℕ) → is_in_any (r ∷ rs) q ≡ is_in_any ts q) → low ≤ r.0
first_from low r rs ts some s same =
    let here : is_in_any (r ∷ rs) r.0 ≡ true = any_passing (λ x. is_in x r.0) r (r ∷ rs) (inl refl) (in_from r r.0 (omega arith) some) in
    let p = passing (λ x. is_in x r.0) ts (sym (same r.0) ∙ here) in
    let f = spaced_from low ts p.member s p.among in
    let i = in_parts p.member r.0 p.passes in
    by (nat_le low r.0) refl p.member f i where
      by : (b : Bool) → nat_le low r.0 ≡ b → (m : ℕ × ℕ) → (low ≤ m.0) × (m.0 < m.1) → (m.0 ≤ r.0) × (r.0 < m.1) → low ≤ r.0
      by b e m f i = omega (arith, f.0, i.0)

-- the first of two lists with the same addresses ends no later
first_to : (a b c : ℕ) (rs ts : List (ℕ × ℕ)) → a < c → Spaced (b + 1) rs → ((q : ℕ) → is_in_any ((a, b) ∷ rs) q ≡ is_in_any ((a, c) ∷ ts) q) → a < b → c ≤ b
first_to a b c rs ts some s same ab =
    by (nat_lt b c) refl where
      by : (x : Bool) → nat_lt b c ≡ x → c ≤ b
      by false e = ltb-false b c e
      by true e =
          let lt = ltb-true b c e in
          let there : is_in_any ((a, c) ∷ ts) b ≡ true = any_passing (λ x. is_in x b) (a, c) ((a, c) ∷ ts) (inl refl) (in_from (a, c) b (omega (arith, ab)) lt) in
          let missing : is_in_any ((a, b) ∷ rs) b ≡ false = none_passing (λ x. is_in x b) ((a, b) ∷ rs) (λ r m. ⊎_elim (λ e. subst (λ y. is_in y b ≡ false) (sym e) (in_not (a, b) b (inr (omega arith)))) (λ k. let p = spaced_from (b + 1) rs r s k in in_not r b (inl (omega (arith, p.0)))) m) in
          absurd (false≢true (sym missing ∙ same b ∙ there))

-- the rest has the same addresses
rest_same :
    (r : ℕ × ℕ) (rs ts : List (ℕ × ℕ)) → Spaced (r.1 + 1) rs → Spaced (r.1 + 1) ts → ((q : ℕ) → is_in_any (r ∷ rs) q ≡ is_in_any (r ∷ ts) q) → (q : ℕ)
    → is_in_any rs q ≡ is_in_any ts q
rest_same r rs ts s t same q = by (nat_lt q (r.1 + 1)) refl where
  by : (b : Bool) → nat_lt q (r.1 + 1) ≡ b → is_in_any rs q ≡ is_in_any ts q
  by true e = let lt = ltb-true q (r.1 + 1) e in none_before (r.1 + 1) q rs s lt ∙ sym (none_before (r.1 + 1) q ts t lt)
  by false e =
      let le = ltb-false q (r.1 + 1) e in
      let out : is_in r q ≡ false = in_not r q (inr (omega (arith, le))) in
      ap (λ b. b || is_in_any rs q) (sym out) ∙ same q ∙ ap (λ b. b || is_in_any ts q) out

same_pair : (r t : ℕ × ℕ) → r.0 ≡ t.0 → r.1 ≡ t.1 → r ≡ t
same_pair r t e h = λ i. (e i, h i)

pub same_ranges : (low l : ℕ) (rs ts : List (ℕ × ℕ)) → Spaced low rs → Spaced l ts → ((q : ℕ) → is_in_any rs q ≡ is_in_any ts q) → rs ≡ ts
same_ranges low l [] [] s t same = refl
same_ranges low l [] (x ∷ ts) s t same = absurd (false≢true (same x.0 ∙ any_passing (λ y. is_in y x.0) x (x ∷ ts) (inl refl) (in_from x x.0 (omega arith) t.1)))
same_ranges low l (r ∷ rs) [] s t same = absurd (false≢true (sym (same r.0) ∙ any_passing (λ y. is_in y r.0) r (r ∷ rs) (inl refl) (in_from r r.0 (omega arith) s.1)))
same_ranges low l (r ∷ rs) (x ∷ ts) s t same =
    let a = first_from x.0 r rs (x ∷ ts) s.1 (omega arith, t.1, t.2) same in
    let b = first_from r.0 x ts (r ∷ rs) t.1 (omega arith, s.1, s.2) (λ q. sym (same q)) in
    let e : r.0 ≡ x.0 = omega (arith, a, b) in
    let left : (q : ℕ) → is_in_any ((r.0, r.1) ∷ rs) q ≡ is_in_any ((r.0, x.1) ∷ ts) q = λ q. same q ∙ ap (λ n. is_in (n, x.1) q || is_in_any ts q) (sym e) in
    let c = first_to r.0 r.1 x.1 rs ts (omega (arith, e, t.1)) s.2 left s.1 in
    let d = first_to r.0 x.1 r.1 ts rs s.1 t.2 (λ q. sym (left q)) (omega (arith, e, t.1)) in
    let h : r.1 ≡ x.1 = omega (arith, c, d) in
    let is : r ≡ x = same_pair r x e h in
    let rest = same_ranges (r.1 + 1) (r.1 + 1) rs ts s.2 (subst (λ n. Spaced (n + 1) ts) (sym h) t.2) (rest_same r rs ts s.2 (subst (λ n. Spaced (n + 1) ts) (sym h) t.2) (λ q. same q ∙ ap (λ y. is_in y q || is_in_any ts q) (sym is))) in
    λ i. is i ∷ rest i

-- two lists that the sentences describe are one
pub joined_only : (parts rs ts : List (ℕ × ℕ)) → AreJoined parts rs → AreJoined parts ts → rs ≡ ts
joined_only parts rs ts a b = same_ranges 0 0 rs ts (spaced_of parts rs a) (spaced_of parts ts b) (λ q. a.same q ∙ sym (b.same q))

-- ---- of an image
-- each segment has memory
abbrev pub AllRoom : List Segment → Type 0
AllRoom [] = Unit {0}
AllRoom (s ∷ ss) = (0 < s.memory) × AllRoom ss

some-rounded : (ss : List Segment) → AllRoom ss → AllSome (map rounded ss)
some-rounded [] h = tt
some-rounded (s ∷ ss) h = (omega (arith, h.0), some-rounded ss h.1)

aligned-rounded : (ss : List Segment) → AllAligned (map rounded ss)
aligned-rounded [] = tt
aligned-rounded (s ∷ ss) = (omega arith, omega arith, aligned-rounded ss)

room-kept : (test : Segment → Bool) (ss : List Segment) → AllRoom ss → AllRoom (filter test ss)
room-kept test [] h = tt
room-kept test (s ∷ ss) h = elim (test s) as (λ b. AllRoom (cond b (s ∷ filter test ss) (filter test ss))) [ true ↦ (h.0, room-kept test ss h.1) | false ↦ room-kept test ss h.1 ]

pub some_parts : (image : List Segment) → AllRoom image → AllSome (data_parts image)
some_parts image h = some-rounded (data_segments image) (room-kept _ image h)

-- the data ranges are what the sentences say
pub are_data_ranges : (image : List Segment) → AllRoom image → AreJoined (data_parts image) (data_ranges image)
are_data_ranges image h = are_joined (data_parts image) (some_parts image h)

pub spaced_data : (image : List Segment) → AllRoom image → Spaced 0 (data_ranges image)
spaced_data image h = spaced-joined (data_parts image) (some_parts image h)

pub aligned_data : (image : List Segment) → AllAligned (data_ranges image)
aligned_data image = aligned-joined (data_parts image) (aligned-rounded (data_segments image))

pub in_data : (image : List Segment) (q : ℕ) → AllRoom image → is_in_any (data_ranges image) q ≡ is_in_any (data_parts image) q
in_data image q h = in_any-joined q (data_parts image) (some_parts image h)

-- ---- each part lies in one of the ranges
pub record Inside (rs : List (ℕ × ℕ)) (p : ℕ × ℕ) : Type 0 where
  pub range : ℕ × ℕ
  pub among : Among range rs
  pub from : range.0 ≤ p.0
  pub to : p.1 ≤ range.1

inside_later : (t : ℕ × ℕ) (rs : List (ℕ × ℕ)) (p : ℕ × ℕ) → Inside rs p → Inside (t ∷ rs) p
inside_later t rs p i = record { range = i.range; among = inr i.among; from = i.from; to = i.to }

-- a range in a larger one
inside_larger : (rs : List (ℕ × ℕ)) (p r : ℕ × ℕ) → r.0 ≤ p.0 → p.1 ≤ r.1 → Inside rs r → Inside rs p
inside_larger rs p r a b i = record { range = i.range; among = i.among; from = omega (arith, a, i.from); to = omega (arith, b, i.to) }

-- the one that is joined, and those that were there
inside-join : (r : ℕ × ℕ) (ts : List (ℕ × ℕ)) → Inside (join r ts) r × ((p : ℕ × ℕ) → Inside ts p → Inside (join r ts) p)
inside-join r [] = (record { range = r; among = inl refl; from = omega arith; to = omega arith }, λ p i. absurd i.among)
inside-join r (t ∷ ts) =
    elim (nat_lt r.1 t.0) as (λ b. Inside (cond b (r ∷ t ∷ ts) (cond (nat_lt t.1 r.0) (t ∷ join r ts) (join (min r.0 t.0, max r.1 t.1) ts))) r × ((p : ℕ × ℕ) → Inside (t ∷ ts) p → Inside (cond b (r ∷ t ∷ ts) (cond (nat_lt t.1 r.0) (t ∷ join r ts) (join (min r.0 t.0, max r.1 t.1) ts))) p)) [
      | true ↦ (record { range = r; among = inl refl; from = omega arith; to = omega arith }, λ p i. inside_later r (t ∷ ts) p i)
      | false ↦ elim (nat_lt t.1 r.0) as (λ b. Inside (cond b (t ∷ join r ts) (join (min r.0 t.0, max r.1 t.1) ts)) r × ((p : ℕ × ℕ) → Inside (t ∷ ts) p → Inside (cond b (t ∷ join r ts) (join (min r.0 t.0, max r.1 t.1) ts)) p)) [
        | true ↦
            let rec = inside-join r ts in (
              inside_later t (join r ts) r rec.0,
              λ p i. ⊎_elim
                  (λ e. record { range = t; among = inl refl; from = subst (λ x. x.0 ≤ p.0) e i.from; to = subst (λ x. p.1 ≤ x.1) e i.to })
                  (λ m. inside_later t (join r ts) p (rec.1 p (record { range = i.range; among = m; from = i.from; to = i.to })))
                  i.among,
            )
        | false ↦
            let both : ℕ × ℕ = (min r.0 t.0, max r.1 t.1) in
            let rec = inside-join both ts in (
              inside_larger (join both ts) r both (omega arith) (omega arith) rec.0,
              λ p i. ⊎_elim
                  (λ e. inside_larger (join both ts) p both (let a : t.0 ≤ p.0 = subst (λ x. x.0 ≤ p.0) e i.from in omega (arith, a)) (let a : p.1 ≤ t.1 = subst (λ x. p.1 ≤ x.1) e i.to in omega (arith, a)) rec.0)
                  (λ m. rec.1 p (record { range = i.range; among = m; from = i.from; to = i.to }))
                  i.among,
            )
      ]
    ]

pub inside-joined : (rs : List (ℕ × ℕ)) (p : ℕ × ℕ) → Among p rs → Inside (joined_ranges rs) p
inside-joined [] p m = absurd m
inside-joined (r ∷ rs) p m =
    let step = inside-join r (joined_ranges rs) in
    ⊎_elim (λ e. subst (Inside (join r (joined_ranges rs))) (sym e) step.0) (λ k. step.1 p (inside-joined rs p k)) m

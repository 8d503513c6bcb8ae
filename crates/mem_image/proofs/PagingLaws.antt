-- Pages that are made from segments.
use Rattle.std.proofs.Common.{◌≡◌, ℕ, zero, suc, ◌+◌, ◌-◌, ◌<◌, ◌≤◌, Bool, true, false, cond, List, [], ◌∷◌, ◌++◌, length, Option, Some, None, refl, sym, ap, subst, ◌∙◌, arith, get_or, ⊎_elim, ◌⊎◌, inl, inr}
use Rattle.std.specs.Prelude.{All, IsPermutation, nat_eq, slice_get, slice_index}
use Rattle.std.specs.List.{IsDistinct}
use Rattle.std.specs.List.Sorted.{IsNonDecreasingBy}
use Rattle.std.proofs.lemmas.Cmp.{nat_eq_equiv, on_equiv}
use Rattle.std.proofs.lemmas.Option.{slice_get-get_or, slice_get_within, get_or_from_slice_get, same_Some}
use Rattle.std.proofs.lemmas.List.Elements.{All-push, Contains-append_left, Contains-push}
use Rattle.std.proofs.lemmas.List.Folds.{list_any_none}
use Rattle.std.proofs.lemmas.List.Sorted.{All-permutation, Contains-permutation}
use Rattle.std.proofs.lemmas.Map.Keys.{IsDistinct-push, IsDistinct-IsPermutation, apart_from_distinct}
use Rattle.std.proofs.lemmas.Bool.Decides.{nat_tests}
use Rattle.std.proofs.lemmas.Bool.{cases_lt, false≢true, false_from_ne_true}
use Rattle.std.specs.Option.{option_or}
use Rattle.machine.specs.Memory.{Cell}
use Rattle.machine.specs.Program.{LoadSegment}
use Rattle.machine.specs.Cells.{has, cell_at, cell_among}
use Rattle.machine.specs.Apart.{AllFitMemory, FitsMemory, share, AreApart}
use Rattle.mem_image.specs.Overlap.{plain_segment, segments_of, Ascends}
use Rattle.mem_image.specs.Pages.{IsPageOf, Below, first_part, IsPaged, IsPlace, Orders, Names, HasOne, CoversSegments}
use Rattle.mem_image.proofs.SegmentLaws.{cell_among-none, cell_among-first}
use Rattle.mem_image.specs.declared.spec.SegmentSpec.{SegmentSpec}
use Rattle.mem_image.proofs.OverlapLaws.{seen_there}
use Rattle.machine.proofs.Lemmas.{shared, has_from, has_parts, option_or-cond}
use Rattle.mem_image.proofs.WholeLaws.{before_apart}
use Rattle.mem_image.proofs.PlaceLaws.{outside}

-- ---- one page more
or_none : (o : Option Cell) → option_or o None ≡ o
or_none None = refl
or_none (Some c) = refl

cell_among-append : (xs ys : List LoadSegment) (q : ℕ) → cell_among (xs ++ ys) q ≡ option_or (cell_among xs q) (cell_among ys q)
cell_among-append [] ys q = refl
cell_among-append (x ∷ xs) ys q = ap (cond (has x q) (Some (cell_at x q))) (cell_among-append xs ys q) ∙ sym (option_or-cond (has x q) (cell_at x q) (cell_among xs q) (cell_among ys q))

all_fit-append : (xs : List LoadSegment) (h : LoadSegment) → AllFitMemory xs → FitsMemory h → AllFitMemory (xs ++ (h ∷ []))
all_fit-append [] h f g = (g, tt)
all_fit-append (x ∷ xs) h f g = (f.0, all_fit-append xs h f.1 g)

ascends-append : (lo : ℕ) (xs : List LoadSegment) (h : LoadSegment) → Ascends lo xs → lo ≤ h.address → ((k : ℕ) (s : LoadSegment) → slice_get xs k ≡ Some s → s.address + s.size ≤ h.address) → Ascends lo (xs ++ (h ∷ []))
ascends-append lo [] h a l e = (l, tt)
ascends-append lo (x ∷ xs) h a l e = (a.0, ascends-append (x.address + x.size) xs h a.1 (e 0 x refl) (λ k s g. e (suc k) s g))

ends-append : (xs : List LoadSegment) (h : LoadSegment) (b : ℕ) → h.address + h.size ≤ b → ((k : ℕ) (s : LoadSegment) → slice_get xs k ≡ Some s → s.address + s.size ≤ h.address) → (k : ℕ) (s : LoadSegment) → slice_get (xs ++ (h ∷ [])) k ≡ Some s → s.address + s.size ≤ b
ends-append [] h b l e zero s g = let is : h ≡ s = cc in rw is at l
ends-append [] h b l e (suc k) s g = absurd (cc)
ends-append (x ∷ xs) h b l e zero s g = let is : x ≡ s = cc in let m = e 0 x refl in let n : x.address + x.size ≤ b = omega (arith, m, l) in rw is at n
ends-append (x ∷ xs) h b l e (suc k) s g = ends-append xs h b l (λ j t f. e (suc j) t f) k s g

-- nothing stands at the bound or behind it
pub nothing_behind : (xs : List LoadSegment) (b q : ℕ) → ((k : ℕ) (s : LoadSegment) → slice_get xs k ≡ Some s → s.address + s.size ≤ b) → b ≤ q → cell_among xs q ≡ None
nothing_behind xs b q e l = cell_among-none xs q (λ j s g. let m = e j s g in outside s q (λ x y. omega arith))

page_cell : (s h : LoadSegment) (d q : ℕ) → IsPageOf s d h → has h q ≡ true → cell_at h q ≡ cell_at s q
page_cell s h d q p w =
    let i = has_parts h q w in
    let a = p.address in
    let e : d + (q - h.address) ≡ q - s.address = omega (arith, a, i) in
    let b : slice_index h.bytes (q - h.address) ≡ slice_index s.bytes (q - s.address) = rw e at (p.bytes (q - h.address) (omega (arith, i))) in
    rw (b, p.flags) refl

pub paged_more : (old xs : List LoadSegment) (s h : LoadSegment) (d : ℕ) → Below old s.address → IsPaged old s xs d → FitsMemory s → d < s.size → IsPageOf s d h → IsPaged old s (xs ++ (h ∷ [])) (d + h.size)
paged_more old xs s h d b i f l p =
    let a = p.address in
    let z = p.size in
    let w = p.whole in
    let fits : FitsMemory h = (omega (arith, w), omega (arith, a, z, f)) in
    let ends : (k : ℕ) (t : LoadSegment) → slice_get xs k ≡ Some t → t.address + t.size ≤ h.address = λ k t g. let m = i.below.ends k t g in omega (arith, m, a) in
    record {
      below = record {
        fit = all_fit-append xs h i.below.fit fits;
        ascends = ascends-append 0 xs h i.below.ascends (omega arith) ends;
        ends = ends-append xs h (s.address + (d + h.size)) (omega (arith, a)) ends;
      };
      cells = λ q. cell_among-append xs (h ∷ []) q ∙ ap (λ o. option_or o (cell_among (h ∷ []) q)) (i.cells q) ∙ at q (has (first_part s d) q) refl (has h q) refl;
    } where
      at : (q : ℕ) (x : Bool) → has (first_part s d) q ≡ x → (y : Bool) → has h q ≡ y → option_or (cond x (Some (cell_at s q)) (cell_among old q)) (cond y (Some (cell_at h q)) None) ≡ cond (has (first_part s (d + h.size)) q) (Some (cell_at s q)) (cell_among old q)
      at q true wx y wy = let m = has_parts (first_part s d) q wx in rw (has_from (first_part s (d + h.size)) q m.0 (omega (arith, m))) refl
      at q false wx true wy =
          let m = has_parts h q wy in
          let a = p.address in
          rw (has_from (first_part s (d + h.size)) q (omega (arith, m, a)) (omega (arith, m, a)), nothing_behind old s.address q b.ends (omega (arith, m, a)), page_cell s h d q p wy) refl
      at q false wx false wy =
          let a = p.address in
          rw (or_none (cell_among old q), outside (first_part s (d + h.size)) q (λ u v. ⊎_elim (λ k. false≢true (sym wx ∙ has_from (first_part s d) q u k)) (λ k. false≢true (sym wy ∙ has_from h q (omega (arith, a)) (omega (arith, a)))) (cases_lt q (s.address + d)))) refl

-- ---- a segment more
names_same : (ss : List LoadSegment) (order : List (ℕ × ℕ)) (j : ℕ) (s t : LoadSegment) → Names ss order j s → Names ss order j t → s ≡ t
names_same ss order j s t x y =
    let e : x.number ≡ y.number = ap (λ (p : ℕ × ℕ). p.1) (same_Some (s.address, x.number) (t.address, y.number) (sym x.stands ∙ y.stands)) in
    same_Some s t (sym x.segment ∙ ap (slice_get ss) e ∙ y.segment)

-- the last place, or one before it
names_last : (ss : List LoadSegment) (order : List (ℕ × ℕ)) (n j : ℕ) (s t : LoadSegment) → Names ss order n s → j < n + 1 → Names ss order j t → (j < n) ⊎ ((j ≡ n) × (s ≡ t))
names_last ss order n j s t x l y = ⊎_elim (λ m. inl m) (λ m. let e : j ≡ n = omega arith in inr (e, names_same ss order n s t x (rw e at y))) (cases_lt j n)

module _ (ss : List LoadSegment) (order : List (ℕ × ℕ)) (pages new : List LoadSegment) (bound n : ℕ) (s : LoadSegment) (c : CoversSegments ss order pages bound n) (x : Names ss order n s) (from : bound ≤ s.address) (p : IsPaged pages s new s.size) where
  ends_more : (j : ℕ) (t : LoadSegment) → j < n + 1 → Names ss order j t → t.address + t.size ≤ s.address + s.size
  ends_more j t l y = ⊎_elim (λ m. let e = c.ends j t m y in omega (arith, e, from)) (λ m. rw m.1 (omega arith)) (names_last ss order n j s t x l y)

  apart_more : (i j : ℕ) (t u : LoadSegment) → i < j → j < n + 1 → Names ss order i t → Names ss order j u → t.address + t.size ≤ u.address
  apart_more i j t u l m y z = ⊎_elim (λ k. c.apart i j t u l k y z) (λ k. let below : i < n = let e = k.0 in omega (arith, e, l) in let e = c.ends i t below y in let last : t.address + t.size ≤ s.address = omega (arith, e, from) in rw k.1 at last) (names_last ss order n j s u x m z)

  old_cell : (q : ℕ) → has s q ≡ false → cell_among new q ≡ cell_among pages q
  old_cell q h = p.cells q ∙ rw h refl

  new_cell : (q : ℕ) → has s q ≡ true → cell_among new q ≡ Some (cell_at s q)
  new_cell q h = p.cells q ∙ rw h refl

  cells_more : (j : ℕ) (t : LoadSegment) (q : ℕ) → j < n + 1 → Names ss order j t → has t q ≡ true → cell_among new q ≡ Some (cell_at t q)
  cells_more j t q l y h = ⊎_elim (λ m. let e = c.ends j t m y in let i = has_parts t q h in old_cell q (outside s q (λ a b. omega (arith, e, i, a, from))) ∙ c.cells j t q m y h) (λ m. let here : has s q ≡ true = ap (λ r. has r q) m.1 ∙ h in new_cell q here ∙ ap (λ r. Some (cell_at r q)) m.1) (names_last ss order n j s t x l y)

  only_more : (q : ℕ) (d : Cell) → cell_among new q ≡ Some d → HasOne ss order (n + 1) q
  only_more q d e = elim (has s q) as (λ b. has s q ≡ b → HasOne ss order (n + 1) q) [
    | true ↦ λ h. record { place = n; segment = s; below = omega arith; names = x; inside = h }
    | false ↦ λ h. let o = c.only q d (sym (old_cell q h) ∙ e) in let l = o.below in record { place = o.place; segment = o.segment; below = omega (arith, l); names = o.names; inside = o.inside }
  ] refl

  last_more : (q : ℕ) → q + 1 ≡ s.address + s.size → HasOne ss order (n + 1) q
  last_more q e = let some = x.some in record { place = n; segment = s; below = omega arith; names = x; inside = has_from s q (omega (arith, e, some)) (omega (arith, e)) }

  pub covers_more : CoversSegments ss order new (s.address + s.size) (n + 1)
  covers_more = record { below = p.below; ends = ends_more; apart = apart_more; cells = cells_more; only = only_more; last = last_more }

-- ---- all segments
-- a segment with bytes has its place in the order
named_at : (ss : List LoadSegment) (order : List (ℕ × ℕ)) (m k : ℕ) (s : LoadSegment) → Orders ss order m → length ss ≡ m → slice_get ss k ≡ Some s → 0 < s.size → (j : ℕ) × ((j < length order) × (slice_get order j ≡ Some (s.address, k)))
named_at ss order m k s all every e some =
    let l = slice_get_within ss k s e in
    let c = all.named k s (omega (arith, l, every)) e some in
    (c.0, (c.1, slice_get-get_or order c.0 (s.address, k) c.1 ∙ ap Some c.2))

module _ (ss : List LoadSegment) (order : List (ℕ × ℕ)) (pages : List LoadSegment) (bound n m : ℕ) (all : Orders ss order m) (every : length ss ≡ m) (whole : length order ≤ n) (c : CoversSegments ss order pages bound n) where
  -- segments that share a byte have bytes, and neither ends before the other
  sharing : (s t : LoadSegment) → share s t ≡ true → ((0 < s.size) × (0 < t.size)) × ((t.address < s.address + s.size) × (s.address < t.address + t.size))
  sharing s t h = ((grind (arith, nat_tests), grind (arith, nat_tests)), (grind (arith, nat_tests), grind (arith, nat_tests)))

  pub covers_apart : AreApart ss
  covers_apart i j o =
      let h = sharing o.first o.second o.share in
      let x = named_at ss order m i o.first all every o.first_at h.0.0 in
      let y = named_at ss order m j o.second all every o.second_at h.0.1 in
      let a : Names ss order x.0 o.first = record { number = i; stands = x.1.1; segment = o.first_at; some = h.0.0 } in
      let b : Names ss order y.0 o.second = record { number = j; stands = y.1.1; segment = o.second_at; some = h.0.1 } in
      ⊎_elim (λ l. let e = c.apart x.0 y.0 o.first o.second l (let m = y.1.0 in omega (arith, m, whole)) a b in omega (arith, e, h))
      (λ l. ⊎_elim (λ m. let e = c.apart y.0 x.0 o.second o.first m (let k = x.1.0 in omega (arith, k, whole)) b a in omega (arith, e, h)) (λ m. let e : y.0 ≡ x.0 = omega (arith, l, m) in let d = o.order in let there : slice_get order x.0 ≡ Some (o.second.address, j) = rw e at y.1.1 in let same : i ≡ j = ap (λ (p : ℕ × ℕ). p.1) (same_Some (o.first.address, i) (o.second.address, j) (sym x.1.1 ∙ there)) in omega (arith, same, d)) (cases_lt y.0 x.0)) (cases_lt x.0 y.0)

  none_there : (q : ℕ) → cell_among pages q ≡ None → (k : ℕ) (s : LoadSegment) → slice_get ss k ≡ Some s → has s q ≡ false
  none_there q e k s g = false_from_ne_true (has s q) (λ h.
      let i = has_parts s q h in
      let some : 0 < s.size = omega (arith, i) in
      let x = named_at ss order m k s all every g some in
      let there = c.cells x.0 s q (let l = x.1.0 in omega (arith, l, whole)) (record { number = k; stands = x.1.1; segment = g; some = some }) h in
      absurd (cc))

  pub covers_all : (q : ℕ) → cell_among pages q ≡ cell_among ss q
  covers_all q = by (cell_among pages q) refl where
    by : (o : Option Cell) → cell_among pages q ≡ o → cell_among pages q ≡ cell_among ss q
    by None e = e ∙ sym (cell_among-none ss q (none_there q e))
    by (Some d) e =
        let o = c.only q d e in
        c.cells o.place o.segment q o.below o.names o.inside ∙ sym (cell_among-first ss q o.names.number o.segment o.names.segment o.inside (before_apart ss o.names.number o.segment q covers_apart o.names.segment o.inside))

-- ---- two that share a byte
-- the segment of a place begins below the end of those before it, so that one of these has its first byte too
pub covers_shared : (ss : List LoadSegment) (order : List (ℕ × ℕ)) (pages : List LoadSegment) (bound n m : ℕ) (t : LoadSegment) → Orders ss order m → IsNonDecreasingBy (λ p. p.0) order → CoversSegments ss order pages bound n → Names ss order n t → t.address < bound → AreApart ss → ⊥
covers_shared ss order pages bound n m t all ascends c y low apart =
    let o = c.last (bound - 1) (omega (arith, low)) in
    let x = o.names in
    let before = o.below in
    let within = slice_get_within order n (t.address, y.number) y.stands in
    let first = get_or_from_slice_get order o.place (o.segment.address, x.number) (0, 0) x.stands in
    let second = get_or_from_slice_get order n (t.address, y.number) (0, 0) y.stands in
    let rises : o.segment.address ≤ t.address = rw (first, second) at (ascends o.place n (0, 0) (omega (arith, before)) within) in
    let differ : nat_eq x.number y.number ≡ false = rw (first, second) at (apart_from_distinct _ order o.place n (0, 0) all.once before within) in
    let room = has_parts o.segment (bound - 1) o.inside in
    let some = y.some in
    let a = has_from o.segment t.address rises (omega (arith, room, low)) in
    let b = has_from t t.address (omega arith) (omega (arith, some)) in
    ⊎_elim (λ l. apart x.number y.number (record { order = l; first = o.segment; second = t; first_at = x.segment; second_at = y.segment; share = shared o.segment t t.address a b }))
    (λ l. apart y.number x.number (record { order = grind (arith, nat_tests); first = t; second = o.segment; first_at = y.segment; second_at = x.segment; share = shared t o.segment t.address b a })) (cases_lt x.number y.number)

-- ---- the order
-- places are below any later number too
places_later : (ss : List LoadSegment) (order : List (ℕ × ℕ)) (n : ℕ) → Orders ss order n → All (IsPlace ss (n + 1)) order
places_later ss order n o = λ k d l. let h = o.places k d l in let below = h.below in record { segment = h.segment; below = omega (arith, below); stands = h.stands; address = h.address; some = h.some }

-- the last number, or one before it
number_last : (ss : List LoadSegment) (n k : ℕ) (r s : LoadSegment) → slice_get ss n ≡ Some r → k < n + 1 → slice_get ss k ≡ Some s → (k < n) ⊎ ((k ≡ n) × (s ≡ r))
number_last ss n k r s at l e = ⊎_elim (λ m. inl m) (λ m. let is : k ≡ n = omega arith in inr (is, same_Some s r (sym e ∙ ap (slice_get ss) is ∙ at))) (cases_lt k n)

-- an empty order
pub orders_none : (ss : List LoadSegment) → Orders ss [] 0
unfolding IsDistinct
orders_none ss = record { places = λ k d l. absurd (omega arith); named = λ k s l e some. absurd (omega arith); once = tt }

-- a segment without bytes
pub orders_passed : (ss : List LoadSegment) (order : List (ℕ × ℕ)) (n : ℕ) (r : LoadSegment) → slice_get ss n ≡ Some r → r.size ≤ 0 → Orders ss order n → Orders ss order (n + 1)
orders_passed ss order n r at none o = record {
  places = places_later ss order n o;
  named = λ k s l e some. ⊎_elim (λ m. o.named k s m e some) (λ m. let has : 0 < r.size = rw m.1 at some in absurd (omega (arith, has, none))) (number_last ss n k r s at l e);
  once = o.once;
}

-- one that has some
pub orders_more : (ss : List LoadSegment) (order : List (ℕ × ℕ)) (n : ℕ) (r : LoadSegment) → slice_get ss n ≡ Some r → 0 < r.size → Orders ss order n → Orders ss (order ++ (r.address, n) ∷ []) (n + 1)
orders_more ss order n r at has o = record {
  places = All-push (IsPlace ss (n + 1)) order (r.address, n) (places_later ss order n o) (record { segment = r; below = omega arith; stands = at; address = refl; some = has });
  named = λ k s l e some. ⊎_elim (λ m. Contains-append_left order ((r.address, n) ∷ []) (s.address, k) (o.named k s m e some)) (λ m. rw (m.0, m.1) (Contains-push order (r.address, n))) (number_last ss n k r s at l e);
  once = IsDistinct-push (on_equiv (λ (p : ℕ × ℕ). p.1) nat_eq_equiv) order (r.address, n) o.once (list_any_none (λ (p : ℕ × ℕ). nat_eq n p.1) order (λ k d l. let m = (o.places k d l).below in grind (arith, nat_tests)));
}

-- in any order
pub orders_moved : (ss : List LoadSegment) (xs ys : List (ℕ × ℕ)) (n : ℕ) → IsPermutation xs ys → Orders ss xs n → Orders ss ys n
orders_moved ss xs ys n moved o = record {
  places = All-permutation (IsPlace ss n) xs ys moved o.places;
  named = λ k s l e some. Contains-permutation xs ys (s.address, k) moved (o.named k s l e some);
  once = IsDistinct-IsPermutation (λ (p q : ℕ × ℕ). nat_eq p.1 q.1) (λ p q. nat_eq_equiv.symm p.1 q.1) xs ys moved o.once;
}

-- ---- what the code reads
-- the segment that is read by its number in the order
pub names_read : (specs : List SegmentSpec) (order : List (ℕ × ℕ)) (j : ℕ) (p : ℕ × ℕ) (a : SegmentSpec) → Orders (segments_of specs) order (length specs) → j < length order → p ≡ get_or order j p → a ≡ get_or specs p.1 a → Names (segments_of specs) order j (plain_segment a)
names_read specs order j p a o l e r =
    let place : IsPlace (segments_of specs) (length specs) p = subst (IsPlace (segments_of specs) (length specs)) (sym e) (o.places j p l) in
    let there = seen_there plain_segment specs p.1 a place.below r in
    let is : place.segment ≡ plain_segment a = same_Some place.segment (plain_segment a) (sym place.stands ∙ there) in
    let at : p.0 ≡ a.address = place.address ∙ ap (λ (s : LoadSegment). s.address) is in
    record { number = p.1; stands = slice_get-get_or order j p l ∙ ap Some (sym e) ∙ ap (λ q. Some (q, p.1)) at; segment = there; some = subst (λ (s : LoadSegment). 0 < s.size) is place.some }

-- The image of a test: its segments share no address, and some of them lie in a data range.
use Rattle.std.proofs.Common.{◌≡◌, ⊎_elim, ℕ, suc, ◌+◌, ◌<◌, ◌≤◌, Bool, true, false, cond, ◌&&◌, List, [], ◌∷◌, length, refl, sym, ◌∙◌, subst, arith}
use Rattle.std.specs.Prelude.{nat_lt}
use Rattle.std.proofs.lemmas.Bool.{false_from_ne_true}
use Rattle.std.proofs.lemmas.Bool.Decides.{nat_tests}
use Rattle.elf_types.specs.Abi.{is_load}
use Rattle.tests.specs.declared.range.Range.{Range}
use Rattle.machine.specs.Apart.{FitsMemory, AreApart, share}
use Rattle.machine.specs.Program.{LoadSegment}
use Rattle.machine.specs.Loading.{load_segment, load_segments, Segment}
use Rattle.tests.specs.Admission.Terms.{image_segments}
use Rattle.tests.specs.Admission.DataRanges.{range_of, is_data, data_ranges, is_in, is_in_any}
use Rattle.tests.specs.Admission.Rules.{is_mixed}
use Rattle.machine.proofs.Lemmas.{any_passing, none_passing, place_of, fit_among, every_among, among_every}
use Rattle.machine.specs.Members.{Among, Pairs}
use Rattle.tests.proofs.Lemmas.{none_passes, AllRoom, Spaced, are_spaced, spaced_data, in_from, among_load, image_parts, image_room}
use Rattle.qed_model.proofs.Lemmas.{data_inside, not_mixed}
use Rattle.tests.specs.Ranges.{AreSpaced}
use Rattle.output_file.specs.Images.{IsImage}

-- ---- segments apart
-- no address is in both segments
abbrev pub Clear : Segment → Segment → Type 0
Clear s t = (q : ℕ) → s.address ≤ q → q < s.address + s.memory → t.address ≤ q → q < t.address + t.memory → ⊥

share_at : (s t : Segment) (q : ℕ) → s.address ≤ q → q < s.address + s.memory → t.address ≤ q → q < t.address + t.memory → share (load_segment s) (load_segment t) ≡ true
share_at s t q a b c d = grind (arith, nat_tests)

apart_tail : (l : LoadSegment) (ls : List LoadSegment) → AreApart (l ∷ ls) → AreApart ls
apart_tail l ls h i j o = let lt = o.order in h (suc i) (suc j) (record { order = omega (arith, lt); first = o.first; second = o.second; first_at = o.first_at; second_at = o.second_at; share = o.share })

apart_head : (s t : Segment) (ss : List Segment) → AreApart (load_segment s ∷ load_segments ss) → Among t (image_segments ss) → Clear s t
apart_head s t ss h m q a b c d =
    let p = image_parts t ss m in
    let at = place_of (load_segment t) (load_segments ss) (among_load t ss p.1 p.0) in
    h 0 (suc at.place) (record { order = omega arith; first = load_segment s; second = load_segment t; first_at = refl; second_at = at.stands; share = share_at s t q a b c d })

apart_pairs : (ss : List Segment) → AreApart (load_segments ss) → Pairs Clear (image_segments ss)
apart_pairs [] h = tt
apart_pairs (s ∷ ss) h = by (is_load s.kind) (nat_lt 0 s.memory) h (λ g. apart_pairs ss g) where
  by : (b m : Bool) → AreApart (cond b (load_segment s ∷ load_segments ss) (load_segments ss)) → (AreApart (load_segments ss) → Pairs Clear (image_segments ss)) → Pairs Clear (cond (b && m) (s ∷ image_segments ss) (image_segments ss))
  by false m h rec = rec h
  by true false h rec = rec (apart_tail (load_segment s) (load_segments ss) h)
  by true true h rec = (among_every (Clear s) (image_segments ss) (λ t m. apart_head s t ss h m), rec (apart_tail (load_segment s) (load_segments ss) h))

-- only one segment has an address
pairs_alone :
    (ss : List Segment) → Pairs Clear ss → (s t : Segment) (q : ℕ) → Among s ss → Among t ss → s.address ≤ q → q < s.address + s.memory → t.address ≤ q
    → q < t.address + t.memory → s ≡ t
pairs_alone [] p s t q m k a b c d = absurd m
pairs_alone (u ∷ ss) p s t q m k a b c d =
    ⊎_elim
    (λ e. ⊎_elim
    (λ f. e ∙ sym f)
    (λ r. absurd (subst (λ x. Clear x t) (sym e) (every_among (Clear u) t ss p.0 r) q a b c d))
    k)
    (λ l. ⊎_elim
    (λ f. absurd (subst (λ x. Clear x s) (sym f) (every_among (Clear u) s ss p.0 l) q c d a b))
    (λ r. pairs_alone ss p.1 s t q l r a b c d)
    k)
    m

module _ (image : List Segment) (ranges : List Range) (is : IsImage image ranges) where
  pub parts : (s : Segment) → Among s image → Among s is.segments × (s.kind ≡ 1) × (0 < s.memory)
  parts s m = image_parts s is.segments (subst (λ ss. Among s ss) is.image_is m)

  pub unmixed : (s : Segment) → Among s image → is_mixed image s ≡ false
  unmixed s m = none_passes (is_mixed image) s is.segments is.unmixed (parts s m).0

  fits : (s : Segment) → Among s image → FitsMemory (load_segment s)
  fits s m = let p = parts s m in fit_among (load_segment s) (load_segments is.segments) is.fit (among_load s is.segments p.1 p.0)

  pub sized : (s : Segment) → Among s image → length s.bytes ≤ s.memory
  sized s m = (fits s m).0

  pub apart : Pairs Clear image
  apart = subst (Pairs Clear) (sym is.image_is) (apart_pairs is.segments is.apart)

  pub alone : (s t : Segment) (q : ℕ) → Among s image → Among t image → s.address ≤ q → q < s.address + s.memory → t.address ≤ q → q < t.address + t.memory → s ≡ t
  alone s t q m k a b c d = pairs_alone image apart s t q m k a b c d

  pub room : AllRoom image
  room = subst AllRoom (sym is.image_is) (image_room is.segments)

  pub spaced : Spaced 0 (data_ranges image)
  spaced = spaced_data image room

  pub ranges_spaced : AreSpaced range_of ranges
  ranges_spaced = are_spaced range_of 0 ranges (subst (Spaced 0) (sym is.spans) spaced)

  -- the data segments are those that begin in a range
  pub data_at : (s : Segment) → Among s image → is_in_any (data_ranges image) s.address ≡ is_data image s
  data_at s m = by (is_data image s) refl where
    by : (b : Bool) → is_data image s ≡ b → is_in_any (data_ranges image) s.address ≡ b
    by true d =
        let x = data_inside image s m d in
        let p = parts s m in
        any_passing (λ r. is_in r s.address) x.range (data_ranges image) x.among (in_from x.range s.address (omega (arith, x.from)) (omega (arith, x.to, p.2)))
    by false d = none_passing (λ r. is_in r s.address) (data_ranges image) (λ r n. false_from_ne_true (is_in r s.address) (λ i. let p = parts s m in not_mixed image is.segments is.image_is unmixed s r s.address m d n (omega arith) (omega (arith, p.2)) i))

-- The original half: the segments that lie in no data range and the data ranges, sorted.
use Rattle.std.proofs.Common.{◌≡◌, ◌⊎◌, inl, inr, ℕ, ◌+◌, ◌^◌, ◌<◌, ◌≤◌, Bool, true, false, cond, not, List, [], ◌∷◌, ◌++◌, map, refl, sym, ap, ◌∙◌, subst, arith}
use Rattle.std.specs.Prelude.{◌==◌, filter}
use Rattle.std.specs.List.Sorted.{IsPermutation, IsNonDecreasingBy}
use Rattle.std.proofs.lemmas.Bool.{eqb-true, false≢true}
use Rattle.tests.specs.declared.range.Range.{Range}
use Rattle.tests.specs.Admission.DataRanges.{range_of, rounded, is_data, data_segments, data_parts, data_ranges, is_in, is_in_any, Segment}
use Rattle.qed_model.specs.Weave.OutputParts.{copied, copies}
use Rattle.qed_model.specs.Weave.OutputFile.{other_segments, range_segment, original_half}
use Rattle.machine.proofs.Lemmas.{among-kept, among-either, any_passing, passing, source_of, all_among, every_all, every_among, among_every}
use Rattle.machine.specs.Members.{Among, Pairs}
use Rattle.tests.proofs.Lemmas.{Spaced, spaced_from, in_from, in_parts, in_data, ordered_among}
use Rattle.output_file.specs.Images.{IsImage, HasRoom, EndLow}
use Rattle.output_file.specs.Runs.{run_segment}
use Rattle.output_file.proofs.Images.{Clear, parts, apart, room, spaced, data_at}
use Rattle.output_file.proofs.Orders.{hits, hits_none, hits-append, hits-filter, AreOnce, once-permuted, sorted_rises, order_is, permuted_among, among_permuted}
use Rattle.output_file.proofs.Runs.{run_is}
use Rattle.flow_recovery.proofs.OrderLaws.{filter_alike}

map_same : (f g : ℕ × ℕ → Segment) (rs : List (ℕ × ℕ)) → ((r : ℕ × ℕ) → Among r rs → f r ≡ g r) → map f rs ≡ map g rs
map_same f g [] h = refl
map_same f g (r ∷ rs) h = λ i. h r (inl refl) i ∷ map_same f g rs (λ t m. h t (inr m)) i

-- ---- each address once
pairs_once : (ss : List Segment) → Pairs Clear ss → ((s : Segment) → Among s ss → 0 < s.memory) → AreOnce ss
pairs_once [] p room a = omega arith
pairs_once (s ∷ ss) p room a = by (s.address == a) refl (pairs_once ss p.1 (λ t m. room t (inr m)) a) where
  none : s.address ≡ a → (t : Segment) → Among t ss → t.address ≡ a → ⊥
  none e t m f =
      let x = room s (inl refl) in
      let y = room t (inr m) in
      every_among (Clear s) t ss p.0 m a (omega (arith, e)) (omega (arith, e, x)) (omega (arith, f)) (omega (arith, f, y))

  by : (b : Bool) → (s.address == a) ≡ b → hits a ss ≤ 1 → cond b 1 0 + hits a ss ≤ 1
  by true e rec = let z = hits_none a ss (none (eqb-true s.address a e)) in omega (arith, z)
  by false e rec = omega (arith, rec)

hits-copies : (a : ℕ) (ss : List Segment) → hits a (copies 0 ss) ≡ hits a ss
hits-copies a [] = refl
hits-copies a (s ∷ ss) = let e : s.address + 0 ≡ s.address = omega arith in λ i. cond (e i == a) 1 0 + hits-copies a ss i

spaced_once : (image : List Segment) (low a : ℕ) (rs : List (ℕ × ℕ)) → Spaced low rs → hits a (map (range_segment image) rs) ≤ 1
spaced_once image low a [] sp = omega arith
spaced_once image low a (r ∷ rs) sp = by (r.0 == a) refl (spaced_once image (r.1 + 1) a rs sp.2) where
  none : r.0 ≡ a → (t : Segment) → Among t (map (range_segment image) rs) → t.address ≡ a → ⊥
  none e t m f =
      let o = source_of (range_segment image) rs t m in
      let at : t.address ≡ o.source.0 = ap (λ x. x.address) o.is in
      let p = spaced_from (r.1 + 1) rs o.source sp.2 o.among in
      omega (arith, e, f, at, p.0, sp.1)

  by : (b : Bool) → (r.0 == a) ≡ b → hits a (map (range_segment image) rs) ≤ 1 → cond b 1 0 + hits a (map (range_segment image) rs) ≤ 1
  by true e rec = let z = hits_none a (map (range_segment image) rs) (none (eqb-true r.0 a e)) in omega (arith, z)
  by false e rec = omega (arith, rec)

module _ (image : List Segment) (ranges : List Range) (is : IsImage image ranges) where
  once : AreOnce image
  once = pairs_once image (apart image ranges is) (λ s m. (parts image ranges is s m).2)

  abbrev others : List Segment
  others = copies 0 (other_segments image)

  abbrev wholes : List Segment
  wholes = map (range_segment image) (data_ranges image)

  -- a segment that is not a data segment begins in no range
  other_out : (a : ℕ) → is_in_any (data_ranges image) a ≡ true → (s : Segment) → Among s others → s.address ≡ a → ⊥
  other_out a i s m e =
      let o = source_of (copied 0) (other_segments image) s m in
      let p = among-kept (λ t. not (is_data image t)) o.source image o.among in
      let at : o.source.address ≡ a = let x : s.address ≡ o.source.address + 0 = ap (λ t. t.address) o.is in omega (arith, x, e) in
      let d : is_data image o.source ≡ true = sym (data_at image ranges is o.source p.0) ∙ ap (is_in_any (data_ranges image)) at ∙ i in
      false≢true (sym (ap not d) ∙ p.1)

  range_out : (a : ℕ) → is_in_any (data_ranges image) a ≡ false → (s : Segment) → Among s wholes → s.address ≡ a → ⊥
  range_out a i s m e =
      let o = source_of (range_segment image) (data_ranges image) s m in
      let at : s.address ≡ o.source.0 = ap (λ x. x.address) o.is in
      let p = spaced_from 0 (data_ranges image) o.source (spaced image ranges is) o.among in
      false≢true (sym i ∙ any_passing (λ r. is_in r a) o.source (data_ranges image) o.among (in_from o.source a (omega (arith, at, e)) (omega (arith, at, e, p.1))))

  half_once : AreOnce (others ++ wholes)
  half_once a = by (is_in_any (data_ranges image) a) refl where
    by : (b : Bool) → is_in_any (data_ranges image) a ≡ b → hits a (others ++ wholes) ≤ 1
    by true i =
        let x = hits_none a others (other_out a i) in
        let y = spaced_once image 0 a (data_ranges image) (spaced image ranges is) in
        let z = hits-append a others wholes in
        omega (arith, x, y, z)
    by false i =
        let x = hits_none a wholes (range_out a i) in
        let y = hits-copies a (other_segments image) in
        let w = hits-filter a (λ s. not (is_data image s)) image in
        let o = once a in
        let z = hits-append a others wholes in
        omega (arith, x, y, w, o, z)

  abbrev outside : Segment → Bool
  outside s = not (is_in_any (map range_of ranges) s.address)

  outside_is : copies 0 (filter outside image) ≡ others
  outside_is = ap (copies 0) (filter_alike outside (λ s. not (is_data image s)) image (λ s m. ap (λ rs. not (is_in_any rs s.address)) is.spans ∙ ap not (data_at image ranges is s m)))

  pub half_is :
      (ordered ys : List Segment) → IsPermutation image ordered → IsNonDecreasingBy (λ s. s.address) ordered
      → IsPermutation (copies 0 (filter (λ s. not (is_in_any (map range_of ranges) s.address)) image) ++ map (run_segment ordered) (map range_of ranges)) ys
      → IsNonDecreasingBy (λ s. s.address) ys → ys ≡ original_half image
  half_is ordered ys p up q sorted =
      let rise = sorted_rises 0 ordered up (once-permuted image ordered p once) (λ s m. omega arith) in
      let runs : map (run_segment ordered) (map range_of ranges) ≡ wholes = ap (map (run_segment ordered)) is.spans ∙ map_same (run_segment ordered) (range_segment image) (data_ranges image) (λ r m. run_is image ranges is ordered rise (λ s k. among_permuted s image ordered p k) (λ s k. permuted_among s image ordered p k) r m) in
      let e : copies 0 (filter outside image) ++ map (run_segment ordered) (map range_of ranges) ≡ others ++ wholes = λ i. outside_is i ++ runs i in
      order_is (others ++ wholes) ys (subst (λ xs. IsPermutation xs ys) e q) sorted half_once

  -- ---- the other half
  range_low : (d : ℕ) → EndLow d image → (r : ℕ × ℕ) → Among r (data_ranges image) → r.0 + d < 2 ^ 64
  range_low d low r m =
      let p = spaced_from 0 (data_ranges image) r (spaced image ranges is) m in
      let here : is_in_any (data_ranges image) r.0 ≡ true = any_passing (λ t. is_in t r.0) r (data_ranges image) m (in_from r r.0 (omega arith) p.1) in
      let part = passing (λ t. is_in t r.0) (data_parts image) (sym (in_data image r.0 (room image ranges is)) ∙ here) in
      let o = source_of rounded (data_segments image) part.member part.among in
      let k = among-kept (is_data image) o.source image o.among in
      let i = in_parts part.member r.0 part.passes in
      let e : part.member.1 ≡ (rounded o.source).1 = ap (λ t. t.1) o.is in
      let end : o.source.address + o.source.memory + d ≤ 2 ^ 63 = all_among (λ s. s.address + s.memory + d ≤ 2 ^ 63) o.source image low k.0 in
      omega (arith, i.1, e, end)

  half_low : (d : ℕ) → EndLow d image → (s : Segment) → Among s others ⊎ Among s wholes → s.address + d < 2 ^ 64
  half_low d low s (inl m) =
      let o = source_of (copied 0) (other_segments image) s m in
      let k = among-kept (λ t. not (is_data image t)) o.source image o.among in
      let at : s.address ≡ o.source.address + 0 = ap (λ t. t.address) o.is in
      let end : o.source.address + o.source.memory + d ≤ 2 ^ 63 = all_among (λ s. s.address + s.memory + d ≤ 2 ^ 63) o.source image low k.0 in
      omega (arith, at, end)
  half_low d low s (inr m) =
      let o = source_of (range_segment image) (data_ranges image) s m in
      let at : s.address ≡ o.source.0 = ap (λ t. t.address) o.is in
      let h = range_low d low o.source o.among in
      omega (arith, at, h)

  pub half_room : (d : ℕ) → EndLow d image → HasRoom d (original_half image)
  half_room d low =
      let P = λ (s : Segment). s.address + d < 2 ^ 64 in
      every_all P (original_half image) (among_every P (original_half image) (λ s m. half_low d low s (among-either s others wholes (ordered_among (others ++ wholes) s m))))

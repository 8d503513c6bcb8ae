-- Which segments are data, by joined ranges; and the rule on them.
use Rattle.std.proofs.Common.{◌≡◌, ⊎_elim, ℕ, ◌+◌, ◌<◌, max, true, false, cond, ◌&&◌, ◌||◌, List, [], ◌∷◌, Some, None, refl, sym, ap, ◌∙◌, subst, arith}
use Rattle.std.specs.Prelude.{nat_lt, map, filter, position}
use Rattle.std.specs.List.{list_any}
use Rattle.std.proofs.lemmas.Bool.{ltb-true, lt-ltb, and_from, and_parts}
use Rattle.tests.specs.declared.admit.AdmitError.{AdmitError}
use Rattle.tests.specs.declared.admit.AdmitError.TheVariants as error
use Rattle.tests.specs.declared.options.Options.{Options}
use Rattle.tests.specs.Admission.Terms.{image_segments, Segment, ElfFile}
use Rattle.tests.specs.Admission.DataRanges.{is_executed, rounded, do_meet, meets_code, is_in, is_in_any, joined_ranges}
use Rattle.tests.specs.Admission.Rules.{is_mixed}
use Rattle.tests.specs.Admission.Refusals.{HasFault, place_of, IsRefusedBy}
use Rattle.tests.specs.Admission.Places.{image_of}
use Rattle.machine.proofs.Lemmas.{passing, any_passing}
use Rattle.machine.specs.Members.{Among}
use Rattle.tests.proofs.Lemmas.{Spaced, AllSome, AllRoom, in_from, in_parts, in_any-joined, spaced-joined, image_room}
use Rattle.qed_model.proofs.Lemmas.{same_tests}
use Rattle.tests.specs.declared.range.Span.{Span}
use Rattle.tests.specs.Ranges.{spans}
use Rattle.test_admission.specs.DataSpans.{executed_spans, AreCode}
use Rattle.test_admission.specs.Order.{PassesBelow}
use Rattle.test_admission.proofs.Firsts.{found, none_found, none_first}
use Rattle.test_admission.proofs.OrderLaws.{passes_more, refused}

-- ---- ranges that have an address in common with one of some
some_of : (rs : List (ℕ × ℕ)) (t : ℕ × ℕ) → AllSome rs → Among t rs → t.0 < t.1
some_of [] t h m = absurd m
some_of (r ∷ rs) t h m = ⊎_elim (λ e. subst (λ x. x.0 < x.1) (sym e) h.0) (λ k. some_of rs t h.1 k) m

meets_through : (r : ℕ × ℕ) (rs ts : List (ℕ × ℕ)) → r.0 < r.1 → AllSome rs → ((q : ℕ) → is_in_any rs q ≡ is_in_any ts q) → list_any (do_meet r) rs ≡ true → list_any (do_meet r) ts ≡ true
meets_through r rs ts some all same h =
    let p = passing (do_meet r) rs h in
    let m = p.member in
    let d = and_parts (nat_lt r.0 m.1) (nat_lt m.0 r.1) p.passes in
    let a = ltb-true r.0 m.1 d.0 in
    let b = ltb-true m.0 r.1 d.1 in
    let l = some_of rs m all p.among in
    let q = max r.0 m.0 in
    let here : is_in_any rs q ≡ true = any_passing (λ x. is_in x q) m rs p.among (in_from m q (omega arith) (omega (arith, a, l))) in
    let n = passing (λ x. is_in x q) ts (sym (same q) ∙ here) in
    let i = in_parts n.member q n.passes in
    any_passing (do_meet r) n.member ts n.among (and_from (nat_lt r.0 n.member.1) (nat_lt n.member.0 r.1) (lt-ltb r.0 n.member.1 (omega (arith, i.1))) (lt-ltb n.member.0 r.1 (omega (arith, i.0, b, some))))

meets_same : (r : ℕ × ℕ) (rs ts : List (ℕ × ℕ)) → r.0 < r.1 → AllSome rs → AllSome ts → ((q : ℕ) → is_in_any rs q ≡ is_in_any ts q) → list_any (do_meet r) rs ≡ list_any (do_meet r) ts
meets_same r rs ts some a b same = same_tests _ _ (meets_through r rs ts some a same) (meets_through r ts rs some b (λ q. sym (same q)))

-- ---- code
executed_parts : (r : ℕ × ℕ) (image : List Segment) → list_any (λ t. is_executed t && do_meet r (rounded t)) image ≡ list_any (do_meet r) (executed_spans image)
executed_parts r [] = refl
executed_parts r (s ∷ ss) =
    elim (is_executed s) as (λ b. ((b && do_meet r (rounded s)) || list_any (λ t. is_executed t && do_meet r (rounded t)) ss) ≡ list_any (do_meet r) (map rounded (cond b (s ∷ filter is_executed ss) (filter is_executed ss)))) [
      | true ↦ ap (λ b. do_meet r (rounded s) || b) (executed_parts r ss)
      | false ↦ executed_parts r ss
    ]

some_code : (image : List Segment) → AllRoom image → AllSome (executed_spans image)
some_code [] h = tt
some_code (s ∷ ss) h = elim (is_executed s) as (λ b. AllSome (map rounded (cond b (s ∷ filter is_executed ss) (filter is_executed ss)))) [ true ↦ (omega (arith, h.0), some_code ss h.1) | false ↦ some_code ss h.1 ]

some_joined : (rs : List (ℕ × ℕ)) → AllSome rs → AllSome (joined_ranges rs)
some_joined rs h = of 0 (joined_ranges rs) (spaced-joined rs h) where
  of : (low : ℕ) (ts : List (ℕ × ℕ)) → Spaced low ts → AllSome ts
  of low [] s = tt
  of low (t ∷ ts) s = (s.1, of (t.1 + 1) ts s.2)

-- a segment shares a word with code where it meets a joined range of code
pub meets_joined : (ss : List Segment) (code : List Span) (s : Segment) → AreCode (image_segments ss) code → 0 < s.memory → list_any (do_meet (rounded s)) (spans code) ≡ meets_code (image_segments ss) s
meets_joined ss code s h room =
    let image = image_segments ss in
    let some = some_code image (image_room ss) in
    ap (list_any (do_meet (rounded s))) h.ranges
    ∙ meets_same (rounded s) (joined_ranges (executed_spans image)) (executed_spans image) (omega (arith, room)) (some_joined (executed_spans image) some) some (λ q. in_any-joined q (executed_spans image) some)
    ∙ sym (executed_parts (rounded s) image)

-- ---- the rule
module _ (f : ElfFile) (passed : (o : Options) → PassesBelow f o 10) where
  pub refused_mixed : (i : ℕ) → Some i ≡ position (is_mixed (image_of f)) f.segments → (o : Options) → IsRefusedBy f o (error.DataMixed i)
  refused_mixed i s o = refused f o 10 (error.DataMixed i) (passed o) refl (found _ _ i s)

  pub passes_data : None ≡ position (is_mixed (image_of f)) f.segments → (o : Options) → PassesBelow f o 11
  passes_data none o = passes_more f o 10 (passed o) by where
    by : (d : AdmitError) → place_of d ≡ 10 → HasFault f o d → ⊥
    by (error.DataMixed i) n h = none_first (is_mixed (image_of f)) f.segments (none_found _ _ none) i h
    by d n h = absurd (omega (arith, n))

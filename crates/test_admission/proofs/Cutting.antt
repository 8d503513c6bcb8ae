-- The code ranges of a file of the right shape, in ascending order and cut, are its code.
use Rattle.std.proofs.Common.{◌≡◌, ◌⊎◌, inl, inr, ℕ, suc, ◌+◌, ◌-◌, ◌%◌, ◌^◌, ◌<◌, ◌≤◌, max, Bool, true, false, cond, ◌&&◌, ◌||◌, List, [], ◌∷◌, length, get_or, get_or-drop, refl, sym, ap, ◌∙◌, subst, arith}
use Rattle.std.specs.Prelude.{nat_lt, nat_le, All, map, filter}
use Rattle.std.specs.List.Sorted.{IsPermutation, IsNonDecreasingBy}
use Rattle.std.proofs.lemmas.Bool.{ltb-true, ltb-false, le-leb, and_from, false≢true, cases_lt}
use Rattle.std.proofs.lemmas.Bool.Decides.{nat_tests}
use Rattle.std.proofs.lemmas.List.Elements.{All-nil, All-cons, All-head, All-tail}
use Rattle.std.proofs.lemmas.List.Sorted.{IsPermutation-map, list_any-IsPermutation}
use Rattle.std.proofs.lemmas.Map.Views.{All-map-IsPermutation}
use Rattle.std.proofs.Math.Bool.{and-false}
use Rattle.machine.specs.Program.{LoadSegment}
use Rattle.machine.specs.Loading.{load_segments, Segment, ElfFile}
use Rattle.machine.specs.Cells.{byte_among}
use Rattle.tests.specs.Admission.Terms.{is_in, is_in_any}
use Rattle.tests.specs.Admission.CodeWords.{loads_of, ranges_of}
use Rattle.machine.proofs.Lemmas.{all_among, among-map, among_every, any_passing, every_all, fit_among}
use Rattle.machine.specs.Members.{Among, Every}
use Rattle.tests.specs.declared.range.Span.{Span}
use Rattle.tests.specs.Ranges.{span, spans}
use Rattle.tests.proofs.Lemmas.{even_parts, even_range}
use Rattle.test_admission.specs.declared.stretches.Stretch.{Stretch}
use Rattle.test_admission.specs.Read.{AreRead}
use Rattle.test_admission.specs.Shape.{IsShaped}
use Rattle.test_admission.specs.Spans.{HaveSome}
use Rattle.test_admission.specs.Stretches.{Part, part_of, stretch_parts, part_span, ReadsImage, holds_code, is_held_code, trimmed_part, cut, Follow, AreCodeOf}

-- ---- ranges of whole words
pub record IsWhole (r : ℕ × ℕ) : Type 0 where
  pub some : r.0 < r.1
  pub start : r.0 % 4 ≡ 0
  pub size : (r.1 - r.0) % 4 ≡ 0
  pub fit : r.1 ≤ 2 ^ 64

filter_all : {A : Type 0} (p : A → Bool) (xs : List A) → ((x : A) → Among x xs → p x ≡ true) → filter p xs ≡ xs
filter_all p [] h = refl
filter_all p (x ∷ xs) h = rw (h x (inl refl)) (ap (λ rest. x ∷ rest) (filter_all p xs (λ y m. h y (inr m))))

module _ (f : ElfFile) (read : AreRead (loads_of f)) (shaped : IsShaped f) where
  whole_ranges : (r : ℕ × ℕ) → Among r (ranges_of f) → IsWhole r
  whole_ranges r m =
      let e = even_range f shaped.sections shaped.segments r m in
      let n = even_parts r e.1 in
      let to = e.0.to in
      let end = (fit_among e.0.segment (loads_of f) read.fit e.0.among).1 in
      record { some = e.0.some; start = n.0; size = n.1; fit = omega (arith, to, end) }

  held : (r : ℕ × ℕ) → Among r (ranges_of f) → is_held_code (loads_of f) r ≡ true
  held r m =
      let o = (even_range f shaped.sections shaped.segments r m).0 in
      let end = o.segment.address + o.segment.size in
      any_passing (holds_code r) o.segment (loads_of f) o.among (and_from _ _ o.executes (and_from (nat_le o.segment.address r.0) (nat_le r.1 end) (le-leb o.segment.address r.0 o.from) (le-leb r.1 end o.to)))

  module _ (rs : List Span) (e : spans rs ≡ ranges_of f) where
    pub have_some : HaveSome rs
    have_some = every_all (λ r. r.start < r.end) rs (among_every (λ r. r.start < r.end) rs (λ r m. (whole_ranges (span r) (subst (Among (span r)) e (among-map span r rs m))).some))

    pub all_held : (ss : List Segment) → ss ≡ f.segments → (ps : List (ℕ × ℕ)) → ps ≡ filter (is_held_code (load_segments ss)) (spans rs) → ps ≡ ranges_of f
    all_held ss s ps k = k ∙ (λ i. filter (is_held_code (load_segments (s i))) (e i)) ∙ filter_all (is_held_code (loads_of f)) (ranges_of f) held

-- ---- parts in the order of their starts
abbrev pub Starts : ℕ → List Part → Type 0
Starts low [] = Unit {0}
Starts low (p ∷ ps) = (low ≤ p.start) × Starts p.start ps

-- parts of whole words
abbrev WholePart : Part → Type 0
WholePart p = IsWhole (part_span p)

follow-cut : (done low : ℕ) (ps : List Part) → Starts low ps → Every WholePart ps → done % 4 ≡ 0 → Follow done (cut done ps)
follow-cut done low [] s h e = tt
follow-cut done low (p ∷ ps) s h e =
    elim (nat_lt done (p.start + p.size)) as (λ b. nat_lt done (p.start + p.size) ≡ b → Follow done (cond b (trimmed_part done p ∷ cut (p.start + p.size) ps) (cut done ps))) [
      | true ↦ λ l.
          let lt = ltb-true done (p.start + p.size) l in
          let a = h.0.some in
          let b = h.0.start in
          let c = h.0.size in
          let d = h.0.fit in
          let end : p.start + p.size ≡ max done p.start + (p.start + p.size - max done p.start) = omega (arith, lt, a) in
          let rest = follow-cut (p.start + p.size) p.start ps s.1 h.1 (omega (arith, b, c)) in (
            omega arith,
            omega (arith, lt, a),
            omega (arith, b, e),
            omega (arith, b, c, e),
            omega (arith, d, end),
            subst (λ n. Follow n (cut (p.start + p.size) ps)) end rest,
          )
      | false ↦ λ l. follow-cut done p.start ps s.1 h.1 e
    ] refl

-- ---- addresses that stay
none_before : (low q : ℕ) (ps : List Part) → Starts low ps → q < low → is_in_any (map part_span ps) q ≡ false
none_before low q [] s lt = refl
none_before low q (p ∷ ps) s lt =
    let out : is_in (part_span p) q ≡ false = grind (arith, nat_tests) in
    rw out (none_before p.start q ps s.1 (omega (arith, s.0, lt)))

trim_test : (done start size q : ℕ) (rest : Bool) → done < start + size → 0 < size → (rest ≡ true → start ≤ q)
    → (is_in (max done start, max done start + (start + size - max done start)) q || (nat_le (start + size) q && rest)) ≡ (nat_le done q && (is_in (start, start + size) q || rest))
trim_test done start size q true l r h = let le = h refl in grind (arith, nat_tests)
trim_test done start size q false l r h = grind (arith, nat_tests)

skip_test : (done start size q : ℕ) (rest : Bool) → start + size ≤ done → (nat_le done q && rest) ≡ (nat_le done q && (is_in (start, start + size) q || rest))
skip_test done start size q true l = grind (arith, nat_tests)
skip_test done start size q false l = grind (arith, nat_tests)

in_any-cut : (q done low : ℕ) (ps : List Part) → Starts low ps → Every WholePart ps → is_in_any (map part_span (cut done ps)) q ≡ (nat_le done q && is_in_any (map part_span ps) q)
in_any-cut q done low [] s h = sym (and-false (nat_le done q))
in_any-cut q done low (p ∷ ps) s h =
    elim (nat_lt done (p.start + p.size)) as (λ b. nat_lt done (p.start + p.size) ≡ b → is_in_any (map part_span (cond b (trimmed_part done p ∷ cut (p.start + p.size) ps) (cut done ps))) q ≡ (nat_le done q && (is_in (part_span p) q || is_in_any (map part_span ps) q))) [
      | true ↦ λ l.
          let some = h.0.some in
          ap (λ b. is_in (part_span (trimmed_part done p)) q || b) (in_any-cut q (p.start + p.size) p.start ps s.1 h.1)
          ∙ trim_test done p.start p.size q (is_in_any (map part_span ps) q) (ltb-true done (p.start + p.size) l) (omega (arith, some)) (λ e. from e (cases_lt q p.start))
      | false ↦ λ l. in_any-cut q done p.start ps s.1 h.1 ∙ skip_test done p.start p.size q (is_in_any (map part_span ps) q) (ltb-false done (p.start + p.size) l)
    ] refl where
      from : is_in_any (map part_span ps) q ≡ true → (q < p.start) ⊎ (p.start ≤ q) → p.start ≤ q
      from e (inl lt) = absurd (false≢true (sym (none_before p.start q ps s.1 lt) ∙ e))
      from e (inr le) = le

-- ---- bytes that stay
reads-trimmed : (ls : List LoadSegment) (done : ℕ) (p : Part) → ReadsImage ls p → ReadsImage ls (trimmed_part done p)
reads-trimmed ls done p r = record {
  bytes = λ k lt.
      let n = max done p.start - p.start in
      let at : p.start + (n + k) ≡ max done p.start + k = omega arith in
      get_or-drop n p.bytes k 0 ∙ r.bytes (n + k) (omega (arith, lt)) ∙ ap (byte_among ls) at;
}

reads-cut : (ls : List LoadSegment) (done : ℕ) (ps : List Part) → All (ReadsImage ls) ps → All (ReadsImage ls) (cut done ps)
reads-cut ls done [] r = All-nil (ReadsImage ls)
reads-cut ls done (p ∷ ps) r =
    elim (nat_lt done (p.start + p.size)) as (λ b. All (ReadsImage ls) (cond b (trimmed_part done p ∷ cut (p.start + p.size) ps) (cut done ps))) [
      | true ↦ All-cons (ReadsImage ls) (trimmed_part done p) (cut (p.start + p.size) ps) (reads-trimmed ls done p (All-head (ReadsImage ls) p ps r)) (reads-cut ls (p.start + p.size) ps (All-tail (ReadsImage ls) p ps r))
      | false ↦ reads-cut ls done ps (All-tail (ReadsImage ls) p ps r)
    ]

-- ---- stretches that are sorted
starts_from : (low : ℕ) (ss : List Stretch) → ((d : Stretch) → 0 < length ss → low ≤ (get_or ss 0 d).start) → IsNonDecreasingBy (λ s. s.start) ss → Starts low (stretch_parts ss)
starts_from low [] l up = tt
starts_from low (s ∷ ss) l up = (
  l s (omega arith),
  starts_from s.start ss (λ d lt. up 0 1 d (omega arith) (omega (arith, lt))) (λ i j d le lt. up (suc i) (suc j) d (omega (arith, le)) (omega (arith, lt))),
)

module _ (f : ElfFile) (read : AreRead (loads_of f)) (shaped : IsShaped f) (xs ys : List Stretch) (are : map part_span (stretch_parts xs) ≡ ranges_of f) (moved : IsPermutation xs ys) where
  whole : (p : Part) → Among p (stretch_parts ys) → WholePart p
  whole p =
      let all = among_every WholePart (stretch_parts xs) (λ t m. whole_ranges f read shaped (part_span t) (subst (Among (part_span t)) are (among-map part_span t (stretch_parts xs) m))) in
      all_among WholePart p (stretch_parts ys) (All-map-IsPermutation part_of WholePart xs ys moved (every_all WholePart (stretch_parts xs) all))

  pub ranges_fit : All (λ s. s.start + s.size ≤ 2 ^ 64) ys
  ranges_fit = every_all (λ s. s.start + s.size ≤ 2 ^ 64) ys (among_every (λ s. s.start + s.size ≤ 2 ^ 64) ys (λ s m. (whole (part_of s) (among-map part_of s ys m)).fit))

  pub code_of : All (ReadsImage (loads_of f)) (stretch_parts xs) → IsNonDecreasingBy (λ s. s.start) ys → AreCodeOf f (cut 0 (stretch_parts ys))
  code_of reads up =
      let starts = starts_from 0 ys (λ d lt. omega arith) up in
      let all = among_every WholePart (stretch_parts ys) whole in
      record {
        follow = follow-cut 0 0 (stretch_parts ys) starts all refl;
        read = reads-cut (loads_of f) 0 (stretch_parts ys) (All-map-IsPermutation part_of (ReadsImage (loads_of f)) xs ys moved reads);
        same = λ q.
            in_any-cut q 0 0 (stretch_parts ys) starts all
            ∙ ap (λ b. b && is_in_any (map part_span (stretch_parts ys)) q) (le-leb 0 q (omega arith))
            ∙ sym (list_any-IsPermutation (λ r. is_in r q) (map part_span (stretch_parts xs)) (map part_span (stretch_parts ys)) (IsPermutation-map part_span (stretch_parts xs) (stretch_parts ys) (IsPermutation-map part_of xs ys moved)))
            ∙ ap (λ rs. is_in_any rs q) are;
      }

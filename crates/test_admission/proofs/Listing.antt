-- The words of the code of a file are at its code addresses, in ascending order.
use Rattle.std.proofs.Common.{◌≡◌, inl, inr, ⊎_elim, ℕ, zero, suc, ◌+◌, ◌-◌, ◌*◌, ◌/◌, ◌%◌, ◌^◌, ◌<◌, ◌≤◌, true, List, [], ◌∷◌, ◌++◌, length, get_or, drop, None, Some, refl, sym, ap, ◌∙◌, subst, arith, append_assoc, add-one, drop-cons}
use Rattle.std.specs.Prelude.{map, ◌==◌, All}
use Rattle.std.proofs.lemmas.Bool.{and_parts, and_from, eqb-true, eq-eqb, or_cases, or_left, or_right, false≢true, cases_lt}
use Rattle.std.proofs.lemmas.List.{length-append, length-map, map-append}
use Rattle.std.proofs.lemmas.List.Elements.{All-nil, All-cons, All-head, All-tail, All-push, All-append}
use Rattle.tests.specs.declared.admit.AdmitError.{AdmitError}
use Rattle.tests.specs.declared.admit.AdmitError.TheVariants as error
use Rattle.tests.specs.declared.options.Options.{Options}
use Rattle.tests.specs.declared.test.CodeWord.{CodeWord}
use Rattle.machine.specs.Table.{decode_of}
use Rattle.tests.specs.Admission.DataRanges.{is_in, is_in_any, ElfFile}
use Rattle.tests.specs.Admission.CodeWords.{loads_of, ranges_of, word_at, AreCodeAddresses}
use Rattle.tests.specs.Admission.Refusals.{HasFault, place_of, IsRefusedBy}
use Rattle.tests.specs.Admission.Test.{IsCodeWord, AreCodeWords}
use Rattle.machine.proofs.Lemmas.{among_of, contains_of, among-left, among-right, among-either}
use Rattle.machine.specs.Members.{Among}
use Rattle.tests.proofs.Lemmas.{Rising, in_parts, in_from, addresses_only, pairs_of, rising_lower}
use Rattle.test_admission.specs.declared.rules.CodeRule.TheVariants as rule
use Rattle.test_admission.specs.declared.stretches.Stretch.{Stretch}
use Rattle.test_admission.specs.Order.{PassesBelow}
use Rattle.test_admission.specs.Stretches.{Part, part_of, stretch_parts, part_span, ReadsImage, Follow, AreCodeOf}
use Rattle.test_admission.specs.Faults.{placed_word, first_among}
use Rattle.test_admission.specs.Words.{words_from, part_words, words_among, word_total, pair_of, pairs_of as pairs, IsDecoded}
use Rattle.test_admission.proofs.OrderLaws.{passes_more, refused}
use Rattle.test_admission.proofs.FirstFault.{none_split}
use Rattle.test_admission.proofs.Faulting.{part_word}

abbrev firsts : List (ℕ × ℕ) → List ℕ
firsts cs = map (λ c. c.0) cs

-- ---- how many
length-words_from : (p : Part) (k n : ℕ) → length (words_from p k n) ≡ n
length-words_from p k zero = refl
length-words_from p k (suc n) = let h = length-words_from p (k + 1) n in omega (arith, h)

length-words_among : (ps : List Part) → length (words_among ps) ≡ word_total ps
length-words_among [] = refl
length-words_among (p ∷ ps) = let h = length-words_from p 0 (p.size / 4) in let r = length-words_among ps in let a = length-append (part_words p) (words_among ps) in omega (arith, a, h, r)

pub few_words : (low : ℕ) (ps : List Part) → Follow low ps → low ≤ 2 ^ 64 → 4 * word_total ps + low ≤ 2 ^ 64
few_words low [] h l = omega (arith, l)
few_words low (p ∷ ps) h l = let r = few_words (p.start + p.size) ps h.5 h.4 in let a = h.0 in omega (arith, r, a)

-- ---- in ascending order
rising-words_from : (p : Part) (k n low : ℕ) (cs : List (ℕ × ℕ)) → low ≤ p.start + 4 * k → Rising (p.start + 4 * (k + n)) (firsts cs) → Rising low (firsts (words_from p k n ++ cs))
rising-words_from p k zero low cs l r = rising_lower (p.start + 4 * (k + 0)) low (firsts cs) (omega (arith, l)) r
rising-words_from p k (suc n) low cs l r =
    let e : p.start + 4 * (k + suc n) ≡ p.start + 4 * (k + 1 + n) = omega arith in
    (l, rising-words_from p (k + 1) n (p.start + 4 * k + 1) cs (omega arith) (subst (λ m. Rising m (firsts cs)) e r))

rising-words_among : (low : ℕ) (ps : List Part) → Follow low ps → Rising low (firsts (words_among ps))
rising-words_among low [] h = tt
rising-words_among low (p ∷ ps) h =
    let size = h.3 in
    let e : p.start + p.size ≡ p.start + 4 * (0 + p.size / 4) = omega (arith, size) in
    rising-words_from p 0 (p.size / 4) low (words_among ps) (let a = h.0 in omega (arith, a)) (subst (λ m. Rising m (firsts (words_among ps))) e (rising-words_among (p.start + p.size) ps h.5))

-- ---- each code address, and no other
record WordOf (p : Part) (k n a : ℕ) : Type 0 where
  place : ℕ
  from : k ≤ place
  below : place < k + n
  is : a ≡ p.start + 4 * place

word_later : (p : Part) (k n a : ℕ) → WordOf p (k + 1) n a → WordOf p k (suc n) a
word_later p k n a w = let f = w.from in let b = w.below in record { place = w.place; from = omega (arith, f); below = omega (arith, b); is = w.is }

word_source : (p : Part) (k n a : ℕ) → Among a (firsts (words_from p k n)) → WordOf p k n a
word_source p k zero a m = absurd m
word_source p k (suc n) a m = ⊎_elim (λ e. record { place = k; from = omega arith; below = omega arith; is = e }) (λ r. word_later p k n a (word_source p (k + 1) n a r)) m

word_among : (p : Part) (k n place : ℕ) → k ≤ place → place < k + n → Among (p.start + 4 * place) (firsts (words_from p k n))
word_among p k zero place l lt = absurd (omega (arith, l, lt))
word_among p k (suc n) place l lt =
    ⊎_elim
    (λ x. inr (word_among p (k + 1) n place (omega (arith, x)) (omega (arith, lt))))
    (λ x. let e : place ≡ k = omega (arith, x, l) in inl (ap (λ m. p.start + 4 * m) e))
    (cases_lt k place)

listed_in : (low a : ℕ) (ps : List Part) → Follow low ps → Among a (firsts (words_among ps)) → (a % 4 ≡ 0) × (is_in_any (map part_span ps) a ≡ true)
listed_in low a [] h m = absurd m
listed_in low a (p ∷ ps) h m =
    ⊎_elim
    (λ x.
    let w = word_source p 0 (p.size / 4) a x in
    let e = w.is in
    let b = w.below in
    let s = h.2 in
    (omega (arith, e, s), or_left (is_in (part_span p) a) (is_in_any (map part_span ps) a) (in_from (part_span p) a (omega (arith, e)) (omega (arith, e, b)))))
    (λ x. let r = listed_in (p.start + p.size) a ps h.5 x in (r.0, or_right (is_in (part_span p) a) (is_in_any (map part_span ps) a) r.1))
    (among-either a (firsts (part_words p)) (firsts (words_among ps)) (subst (Among a) (map-append (λ c. c.0) (part_words p) (words_among ps)) m))

in_listed : (low a : ℕ) (ps : List Part) → Follow low ps → a % 4 ≡ 0 → is_in_any (map part_span ps) a ≡ true → Among a (firsts (words_among ps))
in_listed low a [] h c m = absurd (false≢true m)
in_listed low a (p ∷ ps) h c m =
    subst (Among a) (sym (map-append (λ c. c.0) (part_words p) (words_among ps)))
    (⊎_elim
    (λ x.
    let i = in_parts (part_span p) a x in
    let s = h.2 in
    let z = h.3 in
    let e : p.start + 4 * ((a - p.start) / 4) ≡ a = omega (arith, i.0, s, c) in
    among-left a (firsts (part_words p)) (firsts (words_among ps)) (subst (λ q. Among q (firsts (part_words p))) e (word_among p 0 (p.size / 4) ((a - p.start) / 4) (omega arith) (omega (arith, i.0, i.1, s, z, c)))))
    (λ x. among-right a (firsts (part_words p)) (firsts (words_among ps)) (in_listed (p.start + p.size) a ps h.5 c x))
    (or_cases (is_in (part_span p) a) (is_in_any (map part_span ps) a) m))

-- ---- so they are the code addresses
are_addresses : (f : ElfFile) (ps : List Part) → AreCodeOf f ps → AreCodeAddresses f (firsts (words_among ps))
are_addresses f ps code = record {
  ascend = pairs_of 0 (firsts (words_among ps)) (rising-words_among 0 ps code.follow);
  all = λ a. (
    (λ c. let p = listed_in 0 a ps code.follow (among_of a (firsts (words_among ps)) c) in and_from (a % 4 == 0) (is_in_any (ranges_of f) a) (eq-eqb (a % 4) 0 p.0) (sym (code.same a) ∙ p.1)),
    (λ e. let p = and_parts (a % 4 == 0) (is_in_any (ranges_of f) a) e in contains_of a (firsts (words_among ps)) (in_listed 0 a ps code.follow (eqb-true (a % 4) 0 p.0) (code.same a ∙ p.1))),
  );
}

length-firsts : (ps : List Part) → length (firsts (words_among ps)) ≡ word_total ps
length-firsts ps = length-map (words_among ps) (λ c. c.0) ∙ length-words_among ps

-- ---- the limit
module _ (f : ElfFile) (o : Options) (ps : List Part) (code : AreCodeOf f ps) (passed : PassesBelow f o 13) where
  pub refused_words : (n : ℕ) → n ≡ word_total ps → 1_048_576 < n → IsRefusedBy f o (error.CodeWords n)
  refused_words n e l = refused f o 13 (error.CodeWords n) passed refl (record { addresses = firsts (words_among ps); all = are_addresses f ps code; count = e ∙ sym (length-firsts ps); over = l })

  pub passes_words : (n : ℕ) → n ≡ word_total ps → n ≤ 1_048_576 → PassesBelow f o 14
  passes_words n e l = passes_more f o 13 passed by where
    by : (d : AdmitError) → place_of d ≡ 13 → HasFault f o d → ⊥
    by (error.CodeWords m) p h =
        let same = ap length (addresses_only f h.addresses (firsts (words_among ps)) h.all (are_addresses f ps code)) in
        let over = h.over in
        let count = h.count in
        let len = length-firsts ps in
        omega (arith, same, over, count, len, e, l)
    by d p h = absurd (omega (arith, p))

-- ---- one word more of a part
pub push_step : (p : Part) (k count : ℕ) (ws more : List CodeWord) (x : CodeWord) (all : List (ℕ × ℕ)) → more ≡ ws ++ x ∷ [] → k < count → pair_of x ≡ placed_word p k → pairs ws ++ words_from p k (count - k) ≡ all → pairs more ++ words_from p (k + 1) (count - (k + 1)) ≡ all
push_step p k count ws more x all e lt is h =
    let n : count - k ≡ suc (count - (k + 1)) = omega (arith, lt) in
    let rest = words_from p (k + 1) (count - (k + 1)) in
    ap (λ xs. pairs xs ++ rest) e
    ∙ ap (λ xs. xs ++ rest) (map-append pair_of ws (x ∷ []))
    ∙ append_assoc (pairs ws) (pair_of x ∷ []) rest
    ∙ ap (λ c. pairs ws ++ (c ∷ rest)) is
    ∙ ap (λ m. pairs ws ++ words_from p k m) (sym n)
    ∙ h

pub decoded_step : (ws more : List CodeWord) (x : CodeWord) → more ≡ ws ++ x ∷ [] → decode_of x.word ≡ Some x.ins → All IsDecoded ws → All IsDecoded more
decoded_step ws more x e is h = subst (All IsDecoded) (sym e) (All-push IsDecoded ws x h (record { instruction = is }))

-- ---- one stretch more
rest_parts : (code : List Stretch) (i : ℕ) (d : Stretch) → i < length code → stretch_parts (drop i code) ≡ part_of (get_or code i d) ∷ stretch_parts (drop (i + 1) code)
rest_parts code i d lt = let split : drop i code ≡ get_or code i d ∷ drop (i + 1) code = rw add-one (drop-cons code i d lt) in ap stretch_parts split

pub stretch_step : (code : List Stretch) (i : ℕ) (d : Stretch) (old more all : List (ℕ × ℕ)) → i < length code → more ≡ old ++ part_words (part_of (get_or code i d)) → old ++ words_among (stretch_parts (drop i code)) ≡ all → more ++ words_among (stretch_parts (drop (i + 1) code)) ≡ all
stretch_step code i d old more all lt e h =
    let rest = words_among (stretch_parts (drop (i + 1) code)) in
    ap (λ xs. xs ++ rest) e
    ∙ append_assoc old (part_words (part_of (get_or code i d))) rest
    ∙ ap (λ ps. old ++ words_among ps) (sym (rest_parts code i d lt))
    ∙ h

pub known_step : (code : List Stretch) (i : ℕ) (d : Stretch) → i < length code → first_among rule.Unknown (stretch_parts (drop i code)) ≡ None → first_among rule.Unknown (stretch_parts (drop (i + 1) code)) ≡ None
known_step code i d lt h = (none_split rule.Unknown (part_of (get_or code i d)) (stretch_parts (drop (i + 1) code)) (sym (ap (first_among rule.Unknown) (rest_parts code i d lt)) ∙ h)).1

-- ---- the words of a list are those of the file
words_right : (f : ElfFile) (p : Part) (k n : ℕ) → ReadsImage (loads_of f) p → k + n ≤ p.size / 4 → All (λ c. c.1 ≡ word_at f c.0) (words_from p k n)
words_right f p k zero r l = All-nil (λ c. c.1 ≡ word_at f c.0)
words_right f p k (suc n) r l = All-cons (λ c. c.1 ≡ word_at f c.0) (placed_word p k) (words_from p (k + 1) n) (part_word (loads_of f) p k r (omega (arith, l))) (words_right f p (k + 1) n r (omega (arith, l)))

all_right : (f : ElfFile) (ps : List Part) → All (ReadsImage (loads_of f)) ps → All (λ c. c.1 ≡ word_at f c.0) (words_among ps)
all_right f [] h = All-nil (λ c. c.1 ≡ word_at f c.0)
all_right f (p ∷ ps) h = All-append (λ c. c.1 ≡ word_at f c.0) (part_words p) (words_among ps) (words_right f p 0 (p.size / 4) (All-head (ReadsImage (loads_of f)) p ps h) (omega arith)) (all_right f ps (All-tail (ReadsImage (loads_of f)) p ps h))

firsts_of : (cs : List CodeWord) → map (λ c. c.at) cs ≡ firsts (pairs cs)
firsts_of [] = refl
firsts_of (c ∷ cs) = ap (λ zs. c.at ∷ zs) (firsts_of cs)

each_word : (f : ElfFile) (cs : List CodeWord) → All IsDecoded cs → All (λ c. c.1 ≡ word_at f c.0) (pairs cs) → All (IsCodeWord f) cs
each_word f [] d h = All-nil (IsCodeWord f)
each_word f (c ∷ cs) d h =
    All-cons (IsCodeWord f) c cs
    (record { word = All-head (λ x. x.1 ≡ word_at f x.0) (pair_of c) (pairs cs) h; instruction = (All-head IsDecoded c cs d).instruction })
    (each_word f cs (All-tail IsDecoded c cs d) (All-tail (λ x. x.1 ≡ word_at f x.0) (pair_of c) (pairs cs) h))

pub are_words : (f : ElfFile) (ps : List Part) (cs : List CodeWord) → AreCodeOf f ps → pairs cs ≡ words_among ps → All IsDecoded cs → AreCodeWords f cs
are_words f ps cs code e d = record {
  addresses = subst (AreCodeAddresses f) (sym (firsts_of cs ∙ ap firsts e)) (are_addresses f ps code);
  each = each_word f cs d (subst (All (λ c. c.1 ≡ word_at f c.0)) (sym e) (all_right f ps code.read));
}

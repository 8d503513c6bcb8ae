-- A file has one test, which determines its reached addresses.
use Rattle.std.proofs.Common.{◌≡◌, ℕ, true, List, [], ◌∷◌, map, Some, sym, ap, ◌∙◌, subst}
use Rattle.std.specs.Prelude.{All}
use Rattle.std.proofs.lemmas.List.Elements.{All-head, All-tail}
use Rattle.tests.specs.declared.options.Options.{Options}
use Rattle.tests.specs.declared.options.Entries.TheVariants as entries
use Rattle.tests.specs.declared.range.Range.{Range}
use Rattle.tests.specs.declared.test.CodeWord.{CodeWord}
use Rattle.tests.specs.declared.test.Test.{Test}
use Rattle.machine.specs.Table.{Ins, decode_of}
use Rattle.tests.specs.Admission.CodeWords.{ElfFile, word_at}
use Rattle.tests.specs.Admission.DataRanges.{range_of}
use Rattle.tests.specs.Admission.Reached.{is_reached, IsReached, AreReached}
use Rattle.tests.specs.Admission.Test.{IsCodeWord, AreCodeWords, IsTestOf}
use Rattle.qed_model.specs.Promise.Kept.{any_address}
use Rattle.tests.proofs.Lemmas.{addresses_only}

-- ---- lists
ranges_only : (xs ys : List Range) → map range_of xs ≡ map range_of ys → xs ≡ ys
ranges_only [] [] e = λ n. []
ranges_only [] (y ∷ ys) e = absurd (cc)
ranges_only (x ∷ xs) [] e = absurd (cc)
ranges_only (x ∷ xs) (y ∷ ys) e =
    let one : range_of x ≡ range_of y = cc in
    let a = ap (λ p. p.0) one in
    let b = ap (λ p. p.1) one in
    let k : map range_of xs ≡ map range_of ys = cc in
    let rest = ranges_only xs ys k in
    λ n. record { start = a n; end = b n } ∷ rest n

same_ins : (i j : Ins) (v w : ℕ) → decode_of v ≡ Some i → decode_of w ≡ Some j → v ≡ w → i ≡ j
same_ins i j v w d e s = let both : Some i ≡ Some j = sym d ∙ ap decode_of s ∙ e in cc

words_same : (f : ElfFile) (xs ys : List CodeWord) → map (λ c. c.at) xs ≡ map (λ c. c.at) ys → All (IsCodeWord f) xs → All (IsCodeWord f) ys → xs ≡ ys
words_same f [] [] e a b = λ n. []
words_same f [] (y ∷ ys) e a b = absurd (cc)
words_same f (x ∷ xs) [] e a b = absurd (cc)
words_same f (x ∷ xs) (y ∷ ys) e a b =
    let at : x.at ≡ y.at = cc in
    let k : map (λ (c : CodeWord). c.at) xs ≡ map (λ (c : CodeWord). c.at) ys = cc in
    let p = All-head (IsCodeWord f) x xs a in
    let q = All-head (IsCodeWord f) y ys b in
    let word = p.word ∙ ap (word_at f) at ∙ sym q.word in
    let i = same_ins x.ins y.ins x.word y.word p.instruction q.instruction word in
    let rest = words_same f xs ys k (All-tail (IsCodeWord f) x xs a) (All-tail (IsCodeWord f) y ys b) in
    λ n. record { at = at n; word = word n; ins = i n } ∷ rest n

words_only : (f : ElfFile) (xs ys : List CodeWord) → AreCodeWords f xs → AreCodeWords f ys → xs ≡ ys
words_only f xs ys a b = words_same f xs ys (addresses_only f (map (λ c. c.at) xs) (map (λ c. c.at) ys) a.addresses b.addresses) a.each b.each

-- ---- tests
pub test_only : (f : ElfFile) (o : Options) (t u : Test) → IsTestOf f o t → IsTestOf f o u → t ≡ u
test_only f o t u a b =
    let entry = a.entry ∙ sym b.entry in
    let ranges = ranges_only t.ranges u.ranges (a.ranges ∙ sym b.ranges) in
    let code = words_only f t.code u.code a.code b.code in
    let base = a.base ∙ sym b.base in
    let distance = a.distance ∙ sym b.distance in
    let low = a.low ∙ sym b.low in
    let high = a.high ∙ sym b.high in
    let span = ranges_only t.span u.span (a.span ∙ sym b.span) in
    let segments = a.segments ∙ sym b.segments in
    λ n. record { entry = entry n; ranges = ranges n; code = code n; base = base n; distance = distance n; low = low n; high = high n; span = span n; segments = segments n }

-- ---- what is reached
-- an address is reached by any test of the file
pub reached_by : (f : ElfFile) (o : Options) (t : Test) (a : ℕ) → IsTestOf f o t → IsReached f o a → is_reached f t a ≡ true
reached_by f o t a told r = subst (λ u. is_reached f u a ≡ true) (test_only f o r.test t r.told told) r.reached

-- the addresses that its test reaches
pub are_reached : (f : ElfFile) (o : Options) (t : Test) → IsTestOf f o t → AreReached f o (is_reached f t)
are_reached f o t told only a e = record { test = t; told = told; reached = e }

-- if all code addresses have entries, any address may count as reached
pub any_reached : (f : ElfFile) (o : Options) → o.entries ≡ entries.All → AreReached f o any_address
any_reached f o all only a e = absurd (apart (sym all ∙ only)) where
  apart : entries.All ≡ entries.Reached → ⊥
  apart x = cc

-- A file has a list of its code addresses.
use Rattle.std.proofs.Common.{◌≡◌, ◌⊎◌, inl, inr, ⊎_elim, ℕ, zero, suc, ◌+◌, ◌%◌, ◌<◌, ◌≤◌, max, Bool, true, false, cond, List, [], ◌∷◌, length, get_or, refl, sym, ◌∙◌, subst, arith}
use Rattle.std.specs.Prelude.{◌==◌, AllPairs}
use Rattle.std.proofs.lemmas.Bool.{or_cases, and_parts, cases_lt, false≢true}
use Rattle.tests.specs.Admission.Terms.{is_in, is_in_any}
use Rattle.tests.specs.Admission.CodeWords.{ElfFile, ranges_of, is_code, AreCodeAddresses}
use Rattle.machine.proofs.Lemmas.{among_of, contains_of}
use Rattle.machine.specs.Members.{Among}
use Rattle.tests.proofs.DataRangesLaws.{in_parts}
use Rattle.tests.proofs.OneRefusal.{Rising}

-- ---- numbers that pass a test
-- those of the n numbers from k on that pass
passing_from : (ℕ → Bool) → ℕ → ℕ → List ℕ
passing_from test k zero = []
passing_from test k (suc n) = cond (test k) (k ∷ passing_from test (k + 1) n) (passing_from test (k + 1) n)

pub rising_lower : (low l : ℕ) (xs : List ℕ) → l ≤ low → Rising low xs → Rising l xs
rising_lower low l [] h r = tt
rising_lower low l (x ∷ xs) h r = (omega (arith, h, r.0), r.1)

-- they ascend
rising_from : (test : ℕ → Bool) (k n : ℕ) → Rising k (passing_from test k n)
unfolding passing_from
rising_from test k zero = tt
rising_from test k (suc n) =
    let rest = rising_from test (k + 1) n in
    elim (test k) as (λ b. Rising k (cond b (k ∷ passing_from test (k + 1) n) (passing_from test (k + 1) n))) [
      | true ↦ (omega arith, rest)
      | false ↦ rising_lower (k + 1) k (passing_from test (k + 1) n) (omega arith) rest
    ]

rising_at : (low : ℕ) (xs : List ℕ) (k d : ℕ) → Rising low xs → k < length xs → low ≤ get_or xs k d
rising_at low [] k d r lt = absurd (omega (arith, lt))
rising_at low (x ∷ xs) zero d r lt = r.0
rising_at low (x ∷ xs) (suc k) d r lt = let h = rising_at (x + 1) xs k d r.1 (omega (arith, lt)) in omega (arith, h, r.0)

pub pairs_of : (low : ℕ) (xs : List ℕ) → Rising low xs → AllPairs (λ a b. a < b) xs
pairs_of low [] r = λ i j d lt le. absurd (omega (arith, le))
pairs_of low (x ∷ xs) r = by (pairs_of (x + 1) xs r.1) where
  by : AllPairs (λ a b. a < b) xs → (i j d : ℕ) → i < j → j < length (x ∷ xs) → get_or (x ∷ xs) i d < get_or (x ∷ xs) j d
  by rest i zero d lt le = absurd (omega (arith, lt))
  by rest zero (suc j) d lt le = let h = rising_at (x + 1) xs j d r.1 (omega (arith, le)) in omega (arith, h)
  by rest (suc i) (suc j) d lt le = rest i j d (omega (arith, lt)) (omega (arith, le))

-- all listed numbers pass the test
passes_from : (test : ℕ → Bool) (k n a : ℕ) → Among a (passing_from test k n) → test a ≡ true
unfolding passing_from
passes_from test k zero a m = absurd m
passes_from test k (suc n) a m =
    elim (test k) as (λ b. test k ≡ b → Among a (cond b (k ∷ passing_from test (k + 1) n) (passing_from test (k + 1) n)) → test a ≡ true) [
      | true ↦ λ e x. ⊎_elim (λ s. subst (λ q. test q ≡ true) (sym s) e) (λ r. passes_from test (k + 1) n a r) x
      | false ↦ λ e x. passes_from test (k + 1) n a x
    ] refl m

from_passes : (test : ℕ → Bool) (k n a : ℕ) → k ≤ a → a < k + n → test a ≡ true → Among a (passing_from test k n)
unfolding passing_from
from_passes test k zero a le lt h = absurd (omega (arith, le, lt))
from_passes test k (suc n) a le lt h =
    elim (test k) as (λ b. test k ≡ b → Among a (cond b (k ∷ passing_from test (k + 1) n) (passing_from test (k + 1) n))) [
      | true ↦ λ e. ⊎_elim (λ s. inl s) (λ s. inr (from_passes test (k + 1) n a s (omega (arith, lt)) h)) here
      | false ↦ λ e. ⊎_elim (λ s. absurd (false≢true (sym e ∙ subst (λ q. test q ≡ true) s h))) (λ s. from_passes test (k + 1) n a s (omega (arith, lt)) h) here
    ] refl where
      here : (a ≡ k) ⊎ (k + 1 ≤ a)
      here = ⊎_elim (λ x. inr (omega (arith, x))) (λ x. inl (omega (arith, x, le))) (cases_lt k a)

-- ---- the code addresses are below the greatest end of a code range
end_of : List (ℕ × ℕ) → ℕ
end_of [] = 0
end_of (r ∷ rs) = max r.1 (end_of rs)

below_end : (rs : List (ℕ × ℕ)) (a : ℕ) → is_in_any rs a ≡ true → a < end_of rs
unfolding end_of
below_end [] a h = absurd (false≢true h)
below_end (r ∷ rs) a h =
    ⊎_elim
    (λ x. let p = in_parts r a x in omega (arith, p.1))
    (λ x. let p = below_end rs a x in omega (arith, p))
    (or_cases (is_in r a) (is_in_any rs a) h)

code_addresses : ElfFile → List ℕ
code_addresses f = passing_from (is_code f) 0 (end_of (ranges_of f))

pub addresses_there : (f : ElfFile) → (addresses : List ℕ) × AreCodeAddresses f addresses
unfolding code_addresses
addresses_there f = (
  code_addresses f,
  record {
    ascend = pairs_of 0 (code_addresses f) (rising_from (is_code f) 0 (end_of (ranges_of f)));
    all = λ a. (
      λ c. passes_from (is_code f) 0 (end_of (ranges_of f)) a (among_of a (code_addresses f) c),
      λ e. contains_of a (code_addresses f) (from_passes (is_code f) 0 (end_of (ranges_of f)) a (omega arith) (below e) e),
    );
  },
) where
  below : {a : ℕ} → is_code f a ≡ true → a < 0 + end_of (ranges_of f)
  below {a} e = let p = and_parts (a % 4 == 0) (is_in_any (ranges_of f) a) e in let h = below_end (ranges_of f) a p.1 in omega (arith, h)

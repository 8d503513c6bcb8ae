-- A test is refused for one reason.
use Rattle.std.proofs.Common.{◌≡◌, inl, inr, ⊎_elim, ℕ, suc, ◌+◌, ◌<◌, ◌≤◌, Bool, List, [], ◌∷◌, length, refl, sym, ap, ◌∙◌, arith}
use Rattle.std.specs.Prelude.{AllPairs}
use Rattle.std.proofs.lemmas.Bool.{false≢true, cases_lt}
use Rattle.std.proofs.lemmas.Option.{same_Some}
use Rattle.tests.specs.declared.admit.AdmitError.{AdmitError}
use Rattle.tests.specs.declared.admit.AdmitError.TheVariants as error
use Rattle.tests.specs.declared.options.Options.{Options}
use Rattle.machine.specs.Below.{IsFirstBelow}
use Rattle.tests.specs.Admission.CodeWords.{ElfFile, AreCodeAddresses, word_at}
use Rattle.tests.specs.Admission.Rules.{high_at}
use Rattle.tests.specs.Admission.Refusals.{IsMisshapen, HasFault, place_of, IsRefusedBy}
use Rattle.machine.proofs.Lemmas.{among_of, contains_of}
use Rattle.machine.specs.Members.{Among}

-- ---- the first that passes is one
pub one_first : (n : ℕ) (test : ℕ → Bool) (i j : ℕ) → IsFirstBelow n test i → IsFirstBelow n test j → i ≡ j
one_first n test i j a b =
    ⊎_elim
    (λ x. absurd (false≢true (sym (b.least i x) ∙ a.passes)))
    (λ x. ⊎_elim (λ y. absurd (false≢true (sym (a.least j y) ∙ b.passes))) (λ y. omega (arith, x, y)) (cases_lt j i))
    (cases_lt i j)

-- ---- numbers in ascending order
-- in ascending order, from a number on
abbrev pub Rising : ℕ → List ℕ → Type 0
Rising low [] = Unit {0}
Rising low (x ∷ xs) = (low ≤ x) × Rising (x + 1) xs

abbrev First : ℕ → List ℕ → Type 0
First low [] = Unit {0}
First low (x ∷ xs) = low ≤ x

next : (x : ℕ) (xs : List ℕ) → AllPairs (λ a b. a < b) (x ∷ xs) → First (x + 1) xs
next x [] h = tt
next x (y ∷ xs) h = let p = h 0 1 0 (omega arith) (omega arith) in omega (arith, p)

rising : (low : ℕ) (xs : List ℕ) → First low xs → AllPairs (λ a b. a < b) xs → Rising low xs
rising low [] l h = tt
rising low (x ∷ xs) l h = (l, rising (x + 1) xs (next x xs h) (λ i j d lt le. h (suc i) (suc j) d (omega (arith, lt)) (omega (arith, le))))

first_any : (xs : List ℕ) → First 0 xs
first_any [] = tt
first_any (x ∷ xs) = omega arith

rising_low : (low a : ℕ) (xs : List ℕ) → Rising low xs → Among a xs → low ≤ a
rising_low low a [] r m = absurd m
rising_low low a (x ∷ xs) r m = ⊎_elim (λ e. omega (arith, e, r.0)) (λ k. let h = rising_low (x + 1) a xs r.1 k in omega (arith, h, r.0)) m

same_numbers : (low l : ℕ) (xs ys : List ℕ) → Rising low xs → Rising l ys → ((a : ℕ) → Among a xs → Among a ys) → ((a : ℕ) → Among a ys → Among a xs) → xs ≡ ys
same_numbers low l [] [] r t h k = refl
same_numbers low l [] (y ∷ ys) r t h k = absurd (k y (inl refl))
same_numbers low l (x ∷ xs) [] r t h k = absurd (h x (inl refl))
same_numbers low l (x ∷ xs) (y ∷ ys) r t h k =
    let a = rising_low y x (y ∷ ys) (omega arith, t.1) (h x (inl refl)) in
    let b = rising_low x y (x ∷ xs) (omega arith, r.1) (k y (inl refl)) in
    let e : x ≡ y = omega (arith, a, b) in
    let rest = same_numbers (x + 1) (y + 1) xs ys r.1 t.1
    (λ z m. let low = rising_low (x + 1) z xs r.1 m in ⊎_elim (λ d. absurd (omega (arith, d, e, low))) (λ q. q) (h z (inr m)))
    (λ z m. let low = rising_low (y + 1) z ys t.1 m in ⊎_elim (λ d. absurd (omega (arith, d, e, low))) (λ q. q) (k z (inr m))) in
    λ n. e n ∷ rest n

-- ---- a file has one list of code addresses
pub addresses_only : (f : ElfFile) (xs ys : List ℕ) → AreCodeAddresses f xs → AreCodeAddresses f ys → xs ≡ ys
addresses_only f xs ys a b =
    same_numbers 0 0 xs ys (rising 0 xs (first_any xs) a.ascend) (rising 0 ys (first_any ys) b.ascend)
    (λ z m. let c = (b.all z).1 ((a.all z).0 (contains_of z xs m)) in among_of z ys c)
    (λ z m. let c = (a.all z).1 ((b.all z).0 (contains_of z ys m)) in among_of z xs c)

-- ---- what an error carries
module _ (f : ElfFile) (o : Options) where
  one_shape : (i j : ℕ) → IsMisshapen f i → IsMisshapen f j → i ≡ j
  one_shape i j h k =
      ⊎_elim
      (λ a. ⊎_elim (λ b. one_first _ _ i j a b) (λ b. absurd (false≢true (sym (b.0 i a.below) ∙ a.passes))) k)
      (λ a. ⊎_elim (λ b. absurd (false≢true (sym (a.0 j b.below) ∙ b.passes))) (λ b. one_first _ _ i j a.1 b.1) k)
      h

  same_fault : (e d : AdmitError) → place_of e ≡ place_of d → HasFault f o e → HasFault f o d → e ≡ d
  same_fault error.Compressed error.Compressed p h k = refl
  same_fault error.Dynamic error.Dynamic p h k = refl
  same_fault (error.WritableCode i) (error.WritableCode j) p h k = ap error.WritableCode (one_first _ _ i j h k)
  same_fault (error.NoCode i) (error.NoCode j) p h k = ap error.NoCode (h.0 ∙ sym k.0)
  same_fault (error.CodeShape i) (error.CodeShape j) p h k = ap error.CodeShape (one_shape i j h k)
  same_fault (error.UnknownWord i v) (error.UnknownWord j w) p h k = let e = one_first _ _ i j h.0 k.0 in let g : v ≡ w = h.1 ∙ ap (word_at f) e ∙ sym k.1 in λ n. error.UnknownWord (e n) (g n)
  same_fault (error.RegisterHalf i v) (error.RegisterHalf j w) p h k = let e = one_first _ _ i j h.0 k.0 in let g : v ≡ w = same_Some v w (sym h.1 ∙ ap (high_at f) e ∙ k.1) in λ n. error.RegisterHalf (e n) (g n)
  same_fault (error.Breakpoint i) (error.Breakpoint j) p h k = ap error.Breakpoint (one_first _ _ i j h k)
  same_fault (error.FarConstant i) (error.FarConstant j) p h k = ap error.FarConstant (one_first _ _ i j h k)
  same_fault (error.DataMixed i) (error.DataMixed j) p h k = ap error.DataMixed (one_first _ _ i j h k)
  same_fault (error.OutsideHalf i v) (error.OutsideHalf j w) p h k = let e : i ≡ j = h.0 ∙ sym k.0 in let g : v ≡ w = h.2 ∙ sym k.2 in λ n. error.OutsideHalf (e n) (g n)
  same_fault (error.ImageSpan i) (error.ImageSpan j) p h k = ap error.ImageSpan (h.0 ∙ sym k.0)
  same_fault (error.CodeWords i) (error.CodeWords j) p h k = ap error.CodeWords (h.count ∙ ap length (addresses_only f h.addresses k.addresses h.all k.all) ∙ sym k.count)
  same_fault (error.TopAddress i) (error.TopAddress j) p h k = ap error.TopAddress (h.0 ∙ sym k.0)
  same_fault error.Memory d p h k = absurd h
  same_fault e error.Memory p h k = absurd k
  same_fault e d p h k = absurd (omega (arith, p))

  pub one_refusal : (e d : AdmitError) → IsRefusedBy f o e → IsRefusedBy f o d → e ≡ d
  one_refusal e d r t =
      ⊎_elim
      (λ x. absurd (t.first e x r.fault))
      (λ x. ⊎_elim (λ y. absurd (r.first d y t.fault)) (λ y. same_fault e d (omega (arith, x, y)) r.fault t.fault) (cases_lt (place_of d) (place_of e)))
      (cases_lt (place_of e) (place_of d))

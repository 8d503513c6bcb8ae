-- A test is admitted exactly where no rule holds of it.
use Rattle.std.proofs.Common.{◌≡◌, inl, inr, ⊎_elim, ℕ, zero, suc, ◌+◌, ◌^◌, ◌<◌, ◌≤◌, Bool, true, false, List, [], ◌∷◌, length, Option, Some, None, refl, sym, ap, ◌∙◌, arith}
use Rattle.std.specs.Prelude.{slice_get, is_some}
use Rattle.std.proofs.lemmas.Bool.{false≢true, cases_lt, false_from_ne_true, true_from_ne_false}
use Rattle.tests.specs.declared.admit.AdmitError.{AdmitError}
use Rattle.tests.specs.declared.admit.AdmitError.TheVariants as error
use Rattle.machine.specs.Below.{first_below, IsFirstBelow}
use Rattle.tests.specs.Admission.Terms.{is_compressed, is_dynamic}
use Rattle.tests.specs.Admission.Places.{base_of, high_of, distance_of, Options, Segment, ElfFile, image_of, half_of, code_place}
use Rattle.tests.specs.Admission.CodeWords.{loads_of, is_code, word_at}
use Rattle.tests.specs.Admission.Rules.{passes_at, is_writable_code, is_misshapen_section, is_misshapen_segment, is_unknown, high_at, is_breakpoint, is_far_constant, is_mixed}
use Rattle.tests.specs.Admission.Refusals.{IsFirstOf, HasFault, IsAdmitted, IsRefusedBy}
use Rattle.machine.proofs.Lemmas.{each_fails, first_least}

-- ---- no rule holds of an admitted test
pub no_fault : (f : ElfFile) (o : Options) → IsAdmitted f o → (e : AdmitError) → HasFault f o e → ⊥
no_fault f o a error.Compressed h = false≢true (sym a.uncompressed ∙ h)
no_fault f o a error.Dynamic h = false≢true (sym a.static ∙ h)
no_fault f o a (error.WritableCode i) h = false≢true (sym (a.separate i) ∙ h.passes)
no_fault f o a (error.NoCode entry) h = false≢true (sym h.1 ∙ ap (is_code f) h.0 ∙ a.entry)
no_fault f o a (error.CodeShape i) h = ⊎_elim (λ s. false≢true (sym (a.sections i) ∙ s.passes)) (λ s. false≢true (sym (a.segments i) ∙ s.1.passes)) h
no_fault f o a (error.UnknownWord q word) h = false≢true (sym (a.known q h.0.below) ∙ h.0.passes)
no_fault f o a (error.RegisterHalf q register) h = false≢true (sym (ap is_some (a.low q h.0.below)) ∙ h.0.passes)
no_fault f o a (error.Breakpoint q) h = false≢true (sym (a.unbroken q h.below) ∙ h.passes)
no_fault f o a (error.FarConstant q) h = false≢true (sym (a.near q h.below) ∙ h.passes)
no_fault f o a (error.DataMixed i) h = false≢true (sym (a.unmixed i) ∙ h.passes)
no_fault f o a (error.OutsideHalf high end) h = let b = a.half in absurd (omega (arith, h.0, h.2, h.3, b))
no_fault f o a (error.ImageSpan n) h = let b = a.span in absurd (omega (arith, h.0, h.1, b))
no_fault f o a (error.CodeWords n) h = a.words n h
no_fault f o a (error.TopAddress n) h = let b = a.top in absurd (omega (arith, h.0, h.1, b))
no_fault f o a error.Memory h = h

-- so it is not refused
pub not_refused : (f : ElfFile) (o : Options) (e : AdmitError) → IsAdmitted f o → IsRefusedBy f o e → ⊥
not_refused f o e a r = no_fault f o a e r.fault

-- ---- a test without a rule that holds is admitted
-- if no number is the first that passes, none passes
none_first : (n : ℕ) (test : ℕ → Bool) → ((i : ℕ) → IsFirstBelow n test i → ⊥) → (j : ℕ) → j < n → test j ≡ false
none_first n test h j lt = by (first_below n test) refl where
  by : (found : Option ℕ) → first_below n test ≡ found → test j ≡ false
  by None e = each_fails n test e j lt
  by (Some i) e = absurd (h i (first_least n test i e))

-- of a list
none_of : {A : Type 0} (xs : List A) (test : A → Bool) → ((i : ℕ) → IsFirstOf xs test i → ⊥) → (j : ℕ) → passes_at test (slice_get xs j) ≡ false
none_of xs test h j =
    ⊎_elim
    (λ lt. none_first (length xs) (λ k. passes_at test (slice_get xs k)) h j lt)
    (λ le. past xs j le)
    (cases_lt j (length xs)) where
      past : (ys : List _) (k : ℕ) → length ys ≤ k → passes_at test (slice_get ys k) ≡ false
      past [] k l = refl
      past (y ∷ ys) zero l = absurd (omega (arith, l))
      past (y ∷ ys) (suc k) l = past ys k (omega (arith, l))

pub by_some : (o : Option ℕ) → is_some o ≡ false → o ≡ None
by_some None e = refl
by_some (Some x) e = absurd (false≢true (sym e))

-- the half that is asked for, or the least, holds the image
half_holds :
    (image : List Segment) (half : Option ℕ) → (is_some half ≡ true → base_of image + half_of half image < high_of image → ⊥)
    → high_of image ≤ base_of image + half_of half image
half_holds image None h = omega arith
half_holds image (Some d) h = ⊎_elim (λ x. absurd (h refl x)) (λ x. x) (cases_lt (base_of image + d) (high_of image))

at_most : (n top : ℕ) → (top < n → ⊥) → n ≤ top
at_most n top h = ⊎_elim (λ x. absurd (h x)) (λ x. x) (cases_lt top n)

pub admitted_of : (f : ElfFile) (o : Options) → ((e : AdmitError) → HasFault f o e → ⊥) → IsAdmitted f o
admitted_of f o h =
    let sections = none_of f.sections (is_misshapen_section (loads_of f)) (λ i s. h (error.CodeShape i) (inl s)) in
    record {
      uncompressed = false_from_ne_true (is_compressed f) (λ e. h error.Compressed e);
      static = false_from_ne_true (is_dynamic f.segments) (λ e. h error.Dynamic e);
      separate = none_of f.segments is_writable_code (λ i s. h (error.WritableCode i) s);
      entry = true_from_ne_false (is_code f f.entry) (λ e. h (error.NoCode f.entry) (refl, e));
      sections = sections;
      segments = none_of f.segments (is_misshapen_segment f) (λ i s. h (error.CodeShape i) (inr (λ k l. sections k, s)));
      known = none_first (2 ^ 64) (is_unknown f) (λ i s. h (error.UnknownWord i (word_at f i)) (s, refl));
      low = λ a l. by_some (high_at f a) (none_first (2 ^ 64) (λ q. is_some (high_at f q)) (λ i s. register i (high_at f i) refl s) a l);
      unbroken = none_first (2 ^ 64) (is_breakpoint f) (λ i s. h (error.Breakpoint i) s);
      near = none_first (2 ^ 64) (is_far_constant f) (λ i s. h (error.FarConstant i) s);
      unmixed = none_of f.segments (is_mixed (image_of f)) (λ i s. h (error.DataMixed i) s);
      half = half_holds (image_of f) o.half (λ s l. h (error.OutsideHalf (high_of (image_of f)) (base_of (image_of f) + half_of o.half (image_of f))) (refl, s, refl, l));
      span = at_most (distance_of (image_of f)) 67_108_864 (λ l. h (error.ImageSpan (distance_of (image_of f))) (refl, l));
      words = λ n t. h (error.CodeWords n) t;
      top = at_most (code_place o.half (image_of f) + 134_217_728) (2 ^ 63) (λ l. h (error.TopAddress (code_place o.half (image_of f) + 134_217_728)) (refl, l));
    } where
      register : (i : ℕ) (found : Option ℕ) → high_at f i ≡ found → IsFirstBelow (2 ^ 64) (λ q. is_some (high_at f q)) i → ⊥
      register i None e s = false≢true (sym (ap is_some e) ∙ s.passes)
      register i (Some r) e s = h (error.RegisterHalf i r) (s, e)

-- A file is admitted, or the first rule that holds refuses it.
use Rattle.std.proofs.Common.{◌≡◌, ◌⊎◌, inl, inr, ⊎_elim, ℕ, ◌+◌, ◌^◌, ◌<◌, ◌≤◌, Bool, true, false, List, length, Option, Some, None, refl, sym, ap, ◌∙◌, arith}
use Rattle.std.specs.Prelude.{slice_get, is_some}
use Rattle.std.proofs.lemmas.Bool.{false≢true, cases_lt, cases_Bool}
use Rattle.machine.specs.declared.limits.Limit.TheVariants as limit
use Rattle.machine.specs.declared.limits.TheConstants.{CODE_ROOM}
use Rattle.tests.specs.declared.admit.AdmitError.{AdmitError}
use Rattle.tests.specs.declared.admit.AdmitError.TheVariants as error
use Rattle.machine.specs.Limits.{limit_of}
use Rattle.machine.specs.Below.{first_below, IsFirstBelow}
use Rattle.tests.specs.Admission.Places.{base_of, high_of, distance_of, Options, ElfFile, image_of, half_of, code_place}
use Rattle.tests.specs.Admission.Terms.{is_compressed, is_dynamic}
use Rattle.tests.specs.Admission.CodeWords.{loads_of, is_code, word_at, AreCodeAddresses}
use Rattle.tests.specs.Admission.Rules.{passes_at, is_writable_code, is_misshapen_section, is_misshapen_segment, is_unknown, high_at, is_breakpoint, is_far_constant, is_mixed}
use Rattle.tests.specs.Admission.Refusals.{HasFault, place_of, IsRefusedBy, IsAdmitted}
use Rattle.machine.proofs.Lemmas.{each_fails, first_least}
use Rattle.tests.proofs.OneRefusal.{addresses_only}
use Rattle.tests.proofs.Addresses.{addresses_there}
use Rattle.tests.proofs.AdmissionLaws.{admitted_of}

-- ---- what is decided
-- the first number that passes, or none passes
found : (n : ℕ) (test : ℕ → Bool) → ((i : ℕ) × IsFirstBelow n test i) ⊎ ((j : ℕ) → j < n → test j ≡ false)
found n test = by (first_below n test) refl where
  by : (o : Option ℕ) → first_below n test ≡ o → ((i : ℕ) × IsFirstBelow n test i) ⊎ ((j : ℕ) → j < n → test j ≡ false)
  by None e = inr (λ j lt. each_fails n test e j lt)
  by (Some i) e = inl (i, first_least n test i e)

-- a rule at a place of the order holds
record Fault (f : ElfFile) (o : Options) (k : ℕ) : Type 0 where
  error : AdmitError
  place : place_of error ≡ k
  fault : HasFault f o error

-- or it does not
abbrev Decided : ElfFile → Options → ℕ → Type 0
Decided f o k = Fault f o k ⊎ ((e : AdmitError) → place_of e ≡ k → HasFault f o e → ⊥)

-- ---- each rule
module _ (f : ElfFile) (o : Options) where
  compressed : Decided f o 1
  compressed = ⊎_elim (λ h. inl (record { error = error.Compressed; place = refl; fault = h })) (λ h. inr (no h)) (cases_Bool (is_compressed f)) where
    no : is_compressed f ≡ false → (e : AdmitError) → place_of e ≡ 1 → HasFault f o e → ⊥
    no h error.Compressed p s = false≢true (sym h ∙ s)
    no h e p s = absurd (omega (arith, p))

  dynamic : Decided f o 2
  dynamic = ⊎_elim (λ h. inl (record { error = error.Dynamic; place = refl; fault = h })) (λ h. inr (no h)) (cases_Bool (is_dynamic f.segments)) where
    no : is_dynamic f.segments ≡ false → (e : AdmitError) → place_of e ≡ 2 → HasFault f o e → ⊥
    no h error.Dynamic p s = false≢true (sym h ∙ s)
    no h e p s = absurd (omega (arith, p))

  abbrev writable_at : ℕ → Bool
  writable_at k = passes_at is_writable_code (slice_get f.segments k)

  writable_code : Decided f o 3
  writable_code = ⊎_elim (λ h. inl (record { error = error.WritableCode h.0; place = refl; fault = h.1 })) (λ h. inr (no h)) (found (length f.segments) writable_at) where
    no : ((j : ℕ) → j < length f.segments → writable_at j ≡ false) → (e : AdmitError) → place_of e ≡ 3 → HasFault f o e → ⊥
    no h (error.WritableCode i) p s = false≢true (sym (h i s.below) ∙ s.passes)
    no h e p s = absurd (omega (arith, p))

  no_code : Decided f o 4
  no_code = ⊎_elim (λ h. inr (no h)) (λ h. inl (record { error = error.NoCode f.entry; place = refl; fault = (refl, h) })) (cases_Bool (is_code f f.entry)) where
    no : is_code f f.entry ≡ true → (e : AdmitError) → place_of e ≡ 4 → HasFault f o e → ⊥
    no h (error.NoCode a) p s = false≢true (sym s.1 ∙ ap (is_code f) s.0 ∙ h)
    no h e p s = absurd (omega (arith, p))

  abbrev section_at : ℕ → Bool
  section_at k = passes_at (is_misshapen_section (loads_of f)) (slice_get f.sections k)

  abbrev segment_at : ℕ → Bool
  segment_at k = passes_at (is_misshapen_segment f) (slice_get f.segments k)

  code_shape : Decided f o 5
  code_shape =
      ⊎_elim
      (λ h. inl (record { error = error.CodeShape h.0; place = refl; fault = inl h.1 }))
      (λ h. ⊎_elim (λ g. inl (record { error = error.CodeShape g.0; place = refl; fault = inr (h, g.1) })) (λ g. inr (no h g)) (found (length f.segments) segment_at))
      (found (length f.sections) section_at) where
        no : ((j : ℕ) → j < length f.sections → section_at j ≡ false) → ((j : ℕ) → j < length f.segments → segment_at j ≡ false) → (e : AdmitError) → place_of e ≡ 5 → HasFault f o e → ⊥
        no h g (error.CodeShape i) p s = ⊎_elim (λ x. false≢true (sym (h i x.below) ∙ x.passes)) (λ x. let y = x.1 in false≢true (sym (g i y.below) ∙ y.passes)) s
        no h g e p s = absurd (omega (arith, p))

  unknown_word : Decided f o 6
  unknown_word = ⊎_elim (λ h. inl (record { error = error.UnknownWord h.0 (word_at f h.0); place = refl; fault = (h.1, refl) })) (λ h. inr (no h)) (found (2 ^ 64) (is_unknown f)) where
    no : ((j : ℕ) → j < 2 ^ 64 → is_unknown f j ≡ false) → (e : AdmitError) → place_of e ≡ 6 → HasFault f o e → ⊥
    no h (error.UnknownWord a w) p s = let x = s.0 in false≢true (sym (h a x.below) ∙ x.passes)
    no h e p s = absurd (omega (arith, p))

  register_half : Decided f o 7
  register_half = ⊎_elim (λ h. inl (with_register h.0 (high_at f h.0) refl h.1)) (λ h. inr (no h)) (found (2 ^ 64) (λ q. is_some (high_at f q))) where
    with_register : (a : ℕ) (r : Option ℕ) → high_at f a ≡ r → IsFirstBelow (2 ^ 64) (λ q. is_some (high_at f q)) a → Fault f o 7
    with_register a None e s = absurd (false≢true (sym (ap is_some e) ∙ s.passes))
    with_register a (Some r) e s = record { error = error.RegisterHalf a r; place = refl; fault = (s, e) }

    no : ((j : ℕ) → j < 2 ^ 64 → is_some (high_at f j) ≡ false) → (e : AdmitError) → place_of e ≡ 7 → HasFault f o e → ⊥
    no h (error.RegisterHalf a r) p s = let x = s.0 in false≢true (sym (h a x.below) ∙ x.passes)
    no h e p s = absurd (omega (arith, p))

  breakpoint : Decided f o 8
  breakpoint = ⊎_elim (λ h. inl (record { error = error.Breakpoint h.0; place = refl; fault = h.1 })) (λ h. inr (no h)) (found (2 ^ 64) (is_breakpoint f)) where
    no : ((j : ℕ) → j < 2 ^ 64 → is_breakpoint f j ≡ false) → (e : AdmitError) → place_of e ≡ 8 → HasFault f o e → ⊥
    no h (error.Breakpoint i) p s = false≢true (sym (h i s.below) ∙ s.passes)
    no h e p s = absurd (omega (arith, p))

  far_constant : Decided f o 9
  far_constant = ⊎_elim (λ h. inl (record { error = error.FarConstant h.0; place = refl; fault = h.1 })) (λ h. inr (no h)) (found (2 ^ 64) (is_far_constant f)) where
    no : ((j : ℕ) → j < 2 ^ 64 → is_far_constant f j ≡ false) → (e : AdmitError) → place_of e ≡ 9 → HasFault f o e → ⊥
    no h (error.FarConstant i) p s = false≢true (sym (h i s.below) ∙ s.passes)
    no h e p s = absurd (omega (arith, p))

  abbrev mixed_at : ℕ → Bool
  mixed_at k = passes_at (is_mixed (image_of f)) (slice_get f.segments k)

  data_mixed : Decided f o 10
  data_mixed = ⊎_elim (λ h. inl (record { error = error.DataMixed h.0; place = refl; fault = h.1 })) (λ h. inr (no h)) (found (length f.segments) mixed_at) where
    no : ((j : ℕ) → j < length f.segments → mixed_at j ≡ false) → (e : AdmitError) → place_of e ≡ 10 → HasFault f o e → ⊥
    no h (error.DataMixed i) p s = false≢true (sym (h i s.below) ∙ s.passes)
    no h e p s = absurd (omega (arith, p))

  abbrev half_end : ℕ
  half_end = base_of (image_of f) + half_of o.half (image_of f)

  outside_half : Decided f o 11
  outside_half =
      ⊎_elim
      (λ h. ⊎_elim (λ g. inl (record { error = error.OutsideHalf (high_of (image_of f)) half_end; place = refl; fault = (refl, h, refl, g) })) (λ g. inr (fits g)) (cases_lt half_end (high_of (image_of f))))
      (λ h. inr (unasked h))
      (cases_Bool (is_some o.half)) where
        fits : high_of (image_of f) ≤ half_end → (e : AdmitError) → place_of e ≡ 11 → HasFault f o e → ⊥
        fits h (error.OutsideHalf high end) p s = absurd (omega (arith, h, s.0, s.2, s.3))
        fits h e p s = absurd (omega (arith, p))

        unasked : is_some o.half ≡ false → (e : AdmitError) → place_of e ≡ 11 → HasFault f o e → ⊥
        unasked h (error.OutsideHalf high end) p s = false≢true (sym h ∙ s.1)
        unasked h e p s = absurd (omega (arith, p))

  image_span : Decided f o 12
  image_span = ⊎_elim (λ h. inl (record { error = error.ImageSpan (distance_of (image_of f)); place = refl; fault = (refl, h) })) (λ h. inr (no h)) (cases_lt (limit_of limit.ImageSpan) (distance_of (image_of f))) where
    no : distance_of (image_of f) ≤ limit_of limit.ImageSpan → (e : AdmitError) → place_of e ≡ 12 → HasFault f o e → ⊥
    no h (error.ImageSpan n) p s = absurd (omega (arith, h, s.0, s.1))
    no h e p s = absurd (omega (arith, p))

  code_words : Decided f o 13
  code_words = by (addresses_there f) where
    no : (xs : List ℕ) → AreCodeAddresses f xs → length xs ≤ limit_of limit.CodeWords → (e : AdmitError) → place_of e ≡ 13 → HasFault f o e → ⊥
    no xs all h (error.CodeWords n) p s = let x = ap length (addresses_only f s.addresses xs s.all all) in absurd (omega (arith, h, s.count, s.over, x))
    no xs all h e p s = absurd (omega (arith, p))

    by : ((xs : List ℕ) × AreCodeAddresses f xs) → Decided f o 13
    by a =
        ⊎_elim
        (λ h. inl (record { error = error.CodeWords (length a.0); place = refl; fault = record { addresses = a.0; all = a.1; count = refl; over = h } }))
        (λ h. inr (no a.0 a.1 h))
        (cases_lt (limit_of limit.CodeWords) (length a.0))

  top_address : Decided f o 14
  top_address = ⊎_elim (λ h. inl (record { error = error.TopAddress (code_place o.half (image_of f) + CODE_ROOM); place = refl; fault = (refl, h) })) (λ h. inr (no h)) (cases_lt (limit_of limit.TopAddress) (code_place o.half (image_of f) + CODE_ROOM)) where
    no : code_place o.half (image_of f) + CODE_ROOM ≤ limit_of limit.TopAddress → (e : AdmitError) → place_of e ≡ 14 → HasFault f o e → ⊥
    no h (error.TopAddress n) p s = absurd (omega (arith, h, s.0, s.1))
    no h e p s = absurd (omega (arith, p))

-- ---- all of them in order
-- a rule refuses the file, or none before a place holds
abbrev UpTo : ElfFile → Options → ℕ → Type 0
UpTo f o n = ((e : AdmitError) × IsRefusedBy f o e) ⊎ ((e : AdmitError) → place_of e < n → HasFault f o e → ⊥)

module _ (f : ElfFile) (o : Options) where
  after : (n : ℕ) → UpTo f o n → Decided f o n → UpTo f o (n + 1)
  after n (inl r) d = inl r
  after n (inr h) (inl x) = inl (x.error, record { fault = x.fault; first = λ e lt s. let p = x.place in h e (omega (arith, lt, p)) s })
  after n (inr h) (inr g) = inr (λ e lt s. ⊎_elim (λ l. h e l s) (λ l. g e (omega (arith, lt, l)) s) (cases_lt (place_of e) n))

  placed : (e : AdmitError) → HasFault f o e → (1 ≤ place_of e) × (place_of e < 15)
  placed error.Memory s = absurd s
  placed e s = (omega arith, omega arith)

  early : UpTo f o 8
  early =
      after 7 (after 6 (after 5 (after 4 (after 3 (after 2 (after 1 (inr (λ e lt s. let p = placed e s in absurd (omega (arith, lt, p.0))))
      (compressed f o)) (dynamic f o)) (writable_code f o)) (no_code f o)) (code_shape f o)) (unknown_word f o)) (register_half f o)

  all_rules : UpTo f o 15
  all_rules =
      after 14 (after 13 (after 12 (after 11 (after 10 (after 9 (after 8 early
      (breakpoint f o)) (far_constant f o)) (data_mixed f o)) (outside_half f o)) (image_span f o)) (code_words f o)) (top_address f o)

  -- the answer
  pub answered : IsAdmitted f o ⊎ ((e : AdmitError) × IsRefusedBy f o e)
  answered = ⊎_elim (λ r. inr r) (λ h. inl (admitted_of f o (λ e s. h e (placed e s).1 s))) all_rules

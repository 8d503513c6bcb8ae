-- The rules on the entry and on the shape of code, in their order.
use Rattle.std.proofs.Common.{◌≡◌, inl, inr, ℕ, arith, true, false, Some, None, refl, sym, ap, ◌∙◌}
use Rattle.std.specs.Prelude.{slice_get, position}
use Rattle.std.proofs.lemmas.Bool.{false≢true}
use Rattle.tests.specs.declared.admit.AdmitError.{AdmitError}
use Rattle.tests.specs.declared.admit.AdmitError.TheVariants as error
use Rattle.tests.specs.declared.options.Options.{Options}
use Rattle.tests.specs.Admission.CodeWords.{loads_of, is_code, ElfFile}
use Rattle.tests.specs.Admission.Rules.{passes_at, is_misshapen_section, is_misshapen_segment}
use Rattle.tests.specs.Admission.Refusals.{HasFault, place_of, IsRefusedBy}
use Rattle.test_admission.specs.Order.{PassesBelow}
use Rattle.test_admission.specs.Shape.{IsShaped}
use Rattle.test_admission.proofs.Firsts.{found, none_found, none_first}
use Rattle.test_admission.proofs.OrderLaws.{passes_more, refused}

module _ (f : ElfFile) (passed : (o : Options) → PassesBelow f o 4) where
  pub refused_entry : is_code f f.entry ≡ false → (o : Options) → IsRefusedBy f o (error.NoCode f.entry)
  refused_entry e o = refused f o 4 (error.NoCode f.entry) (passed o) refl (refl, e)

  after_entry : is_code f f.entry ≡ true → (o : Options) → PassesBelow f o 5
  after_entry e o = passes_more f o 4 (passed o) by where
    by : (d : AdmitError) → place_of d ≡ 4 → HasFault f o d → ⊥
    by (error.NoCode i) n h = false≢true (sym h.1 ∙ ap (is_code f) h.0 ∙ e)
    by d n h = absurd (omega (arith, n))

  module _ (e : is_code f f.entry ≡ true) where
    pub refused_section : (i : ℕ) → Some i ≡ position (is_misshapen_section (loads_of f)) f.sections → (o : Options) → IsRefusedBy f o (error.CodeShape i)
    refused_section i s o = refused f o 5 (error.CodeShape i) (after_entry e o) refl (inl (found _ _ i s))

    module _ (none : None ≡ position (is_misshapen_section (loads_of f)) f.sections) where
      sections : (k : ℕ) → passes_at (is_misshapen_section (loads_of f)) (slice_get f.sections k) ≡ false
      sections = none_found _ _ none

      pub refused_segment : (i : ℕ) → Some i ≡ position (is_misshapen_segment f) f.segments → (o : Options) → IsRefusedBy f o (error.CodeShape i)
      refused_segment i s o = refused f o 5 (error.CodeShape i) (after_entry e o) refl (inr (λ k lt. sections k, found _ _ i s))

      module _ (whole : None ≡ position (is_misshapen_segment f) f.segments) where
        pub passes_shape : (o : Options) → PassesBelow f o 6
        passes_shape o = passes_more f o 5 (after_entry e o) by where
          by : (d : AdmitError) → place_of d ≡ 5 → HasFault f o d → ⊥
          by (error.CodeShape i) n (inl s) = none_first (is_misshapen_section (loads_of f)) f.sections sections i s
          by (error.CodeShape i) n (inr s) = none_first (is_misshapen_segment f) f.segments (none_found _ _ whole) i s.1
          by d n h = absurd (omega (arith, n))

        pub shaped : IsShaped f
        shaped = record { entry = e; sections = sections; segments = none_found _ _ whole }

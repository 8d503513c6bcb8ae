-- What holds of an admitted test with its entries.
use Rattle.std.proofs.Common.{◌≡◌, ℕ, ◌+◌, ◌*◌, ◌^◌, ◌<◌, ◌≤◌, Bool, true, false, cond, List, [], ◌∷◌, ◌++◌, Option, Some, None, refl, sym, ap, ◌∙◌, subst, arith}
use Rattle.std.specs.Prelude.{slice_get}
use Rattle.elf_types.specs.declared.file.Symbol.{Symbol}
use Rattle.elf_types.specs.declared.output.OutFile.{OutFile}
use Rattle.elf_types.specs.declared.output.OutSection.{OutSection}
use Rattle.tests.specs.declared.options.Options.{Options}
use Rattle.qed_model.specs.declared.plan.EntryRow.{EntryRow}
use Rattle.tests.specs.declared.range.Range.{Range}
use Rattle.tests.specs.declared.test.Test.{Test}
use Rattle.tests.specs.Admission.DataRanges.{data_ranges, ElfFile, Segment}
use Rattle.tests.specs.Admission.Rules.{passes_at, is_mixed}
use Rattle.qed_model.specs.Weave.OutputParts.{code_segment}
use Rattle.qed_model.specs.Weave.OutputFile.{halves, table_segment, file_sections, file_of}
use Rattle.tests.specs.Admission.Places.{image_of, half_of, code_place}
use Rattle.machine.specs.Members.{Among}
use Rattle.machine.proofs.Lemmas.{every_all, among_every}
use Rattle.tests.proofs.Lemmas.{high_most}
use Rattle.output_file.specs.Images.{IsImage, EndLow}
use Rattle.output_file.specs.Segments.{if_any}
use Rattle.output_file.specs.Sections.{sections_over}
use Rattle.output_file.specs.Tests.{IsEntered}

module _ (f : ElfFile) (o : Options) (t : Test) (rows : List EntryRow) (e : IsEntered f o t rows) where
  abbrev d : ℕ
  d = half_of o.half (image_of f)

  pub image : IsImage t.segments t.span
  image = record {
    segments = f.segments;
    image_is = e.test.segments;
    fit = e.fit;
    apart = e.apart;
    unmixed = λ i. ap (λ ss. passes_at (is_mixed ss) (slice_get f.segments i)) e.test.segments ∙ e.admitted.unmixed i;
    spans = e.test.span ∙ ap data_ranges (sym e.test.segments);
  }

  pub top : t.base + 3 * t.distance ≤ 2 ^ 63
  top = let a = e.admitted.top in omega (arith, a, e.test.base, e.test.distance)

  pub table_room : t.base + t.distance + 2 * t.distance < 2 ^ 64
  table_room = let a = top in omega (arith, a)

  low : (s : Segment) → Among s (image_of f) → s.address + s.memory + t.distance ≤ 2 ^ 63
  low s m =
      let h = high_most s (image_of f) m in
      let a = e.admitted.top in
      let b = e.admitted.half in
      omega (arith, h, a, b, e.test.distance)

  pub ends_low : EndLow t.distance t.segments
  ends_low =
      let P = λ (s : Segment). s.address + s.memory + t.distance ≤ 2 ^ 63 in
      subst (EndLow t.distance) (sym e.test.segments) (every_all P (image_of f) (among_every P (image_of f) low))

  -- the image, for segments and ranges as slices have them
  pub image_at : (segments : List Segment) (span : List Range) → segments ≡ t.segments → span ≡ t.span → IsImage segments span
  image_at segments span a b = subst (IsImage segments) (sym b) (subst (λ ss. IsImage ss t.span) (sym a) image)

  pub ends_at : (segments : List Segment) → segments ≡ t.segments → EndLow t.distance segments
  ends_at segments a = subst (EndLow t.distance) (sym a) ends_low

-- ---- the parts, with or without a table
pub any_table : (table : Bool) (d : ℕ) (rows : List EntryRow) → if_any (cond table (Some (table_segment d rows)) None) ≡ cond table (table_segment d rows ∷ []) []
any_table true d rows = refl
any_table false d rows = refl

pub sections_are :
    (table : Bool) (d at : ℕ) (rows : List EntryRow) (code : List ℕ)
    → sections_over (code_segment at code) (cond table (Some (table_segment d rows)) None) rows ≡ file_sections d at table rows code
sections_are true d at rows code = refl
sections_are false d at rows code = refl

-- ---- the file of its parts
abbrev pub file : ℕ → ℕ → List Segment → List OutSection → List Symbol → OutFile
file at flags segments sections symbols = record { entry = at; flags = flags; segments = segments; sections = sections; symbols = symbols }

module _ (f : ElfFile) (o : Options) (t : Test) (rows : List EntryRow) (e : IsEntered f o t rows) (table : Bool) (code : List ℕ) (at : ℕ) (at_is : at ≡ t.base + 3 * t.distance) where
  place_is : at ≡ code_place o.half (image_of f)
  place_is = omega (arith, at_is, e.test.base, e.test.distance)

  pub file_made :
      (both segments : List Segment) (part : Option Segment) (last : Segment) (sections : List OutSection) (symbols given : List Symbol)
      → both ≡ halves t.distance t.segments → part ≡ cond table (Some (table_segment t.distance rows)) None → last ≡ code_segment at code
      → segments ≡ both ++ (if_any part ++ last ∷ []) → sections ≡ sections_over last part rows → symbols ≡ given
      → file at f.flags segments sections symbols ≡ record (file_of f o.half table rows code) { symbols = given }
  file_made both segments part last sections symbols given a b c p q r =
      let first : both ≡ halves (half_of o.half (image_of f)) (image_of f) = a ∙ (λ i. halves (e.test.distance i) (e.test.segments i)) in
      let middle : if_any part ≡ cond table (table_segment (half_of o.half (image_of f)) rows ∷ []) [] = ap if_any b ∙ any_table table t.distance rows ∙ ap (λ x. cond table (table_segment x rows ∷ []) []) e.test.distance in
      let end : last ≡ code_segment (code_place o.half (image_of f)) code = c ∙ ap (λ x. code_segment x code) place_is in
      let all = p ∙ (λ i. first i ++ (middle i ++ end i ∷ [])) in
      let over = q ∙ (λ i. sections_over (c i) (b i) rows) ∙ sections_are table t.distance at rows code ∙ (λ i. file_sections (e.test.distance i) (place_is i) table rows code) in
      λ i. file (place_is i) f.flags (all i) (over i) (r i)

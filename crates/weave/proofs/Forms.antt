-- The new code of a test in either form: it can be linked if it fits, and what is linked is the new code.
use Rattle.std.proofs.Common.{◌≡◌, ⊎_elim, ℕ, ◌+◌, ◌<◌, ◌≤◌, Bool, true, false, List, ◌++◌, length, map, refl, sym, ap, ◌∙◌, subst, arith}
use Rattle.std.specs.Prelude.{nat_lt}
use Rattle.std.specs.List.{list_all}
use Rattle.std.proofs.lemmas.Bool.{lt-ltb, le-ltb, cases_lt}
use Rattle.std.proofs.lemmas.List.{append-nil}
use Rattle.std.proofs.Math.ListN.{length-map}
use Rattle.machine.specs.declared.limits.Limit.TheVariants as limit
use Rattle.tests.specs.declared.options.Options.{Options}
use Rattle.tests.specs.declared.test.Test.{Test}
use Rattle.machine.specs.Limits.{limit_of}
use Rattle.qed_model.specs.Weave.Placed.{sum_of_sizes, rows_from, placed, Decode, EntriesAscend}
use Rattle.tests.specs.Admission.DataRanges.{range_of, ElfFile}
use Rattle.tests.specs.Admission.Places.{image_of, half_of, code_place}
use Rattle.qed_model.specs.Weave.Sequences.{Block, stub}
use Rattle.qed_model.specs.Weave.Woven.{items_in, is_far_code, code_size, new_entries, compared}
use Rattle.qed_model.specs.Weave.Parts.{parts, code_parts}
use Rattle.qed_model.proofs.Lemmas.{size-append}
use Rattle.block_split.specs.declared.block.CodeBlock.{CodeBlock}
use Rattle.block_split.specs.Listed.{block_of}
use Rattle.plc_rounds.specs.Spans.{spans_of}
use Rattle.relinker.specs.declared.error.LinkError.{LinkError}
use Rattle.relinker.specs.declared.error.LinkError.TheVariants as error
use Rattle.relinker.specs.declared.layout.Linked.{Linked}
use Rattle.weave.specs.declared.weaver.Weaver.{Weaver}
use Rattle.relinker.specs.Counted.{capped}
use Rattle.relinker.specs.Laid.{IsLinked, HasLinkCause}
use Rattle.relinker.specs.Link.{is_encoded, most_bytes, IsWithinForm, LinksWithin}
use Rattle.relinker.proofs.Joining.{parts_join}
use Rattle.relinker.proofs.Linkable.{decoded, ascending}
use Rattle.weave.specs.Form.{form, form_with, kind, items_to_stub}
use Rattle.weave.proofs.WholeCode.{items_are_whole, spans_are}
use Rattle.weave_core.proofs.Lemmas.{are_rows, tests_have_words}
use Rattle.weave.specs.Code.{items_of, code_begin, IsCut, IsWoven, HasCodeCause}
use Rattle.weave.proofs.CodeBytes.{few_bytes}
use Rattle.weave.proofs.DataWords.{few_data}

-- ---- either form of a test
module _ (f : ElfFile) (o : Options) (t : Test) (blocks : List CodeBlock) (cut : IsCut f o t blocks) where
  abbrev bs : List Block
  bs = map block_of blocks

  -- with the stub, the items are those of the file
  whole : (far : Bool) → items_of t o far blocks ++ stub ≡ items_in f o far bs
  whole far =
      ap (λ d. items_to_stub d t.entry (form_with (spans_of t.span) o far) bs ++ stub) cut.told.distance
      ∙ ap (λ e. items_to_stub (half_of o.half (image_of f)) e (form_with (spans_of t.span) o far) bs ++ stub) cut.told.entry
      ∙ items_are_whole f o far t.span bs cut.told.span

  size : (far : Bool) → sum_of_sizes far (items_in f o far bs) ≡ sum_of_sizes far (items_of t o far blocks) + 4
  size far = ap (λ is. sum_of_sizes far is) (sym (whole far)) ∙ size-append far (items_of t o far blocks) stub

  place : code_begin t ≡ code_place o.half (image_of f)
  place = omega (arith, cut.told.base, cut.told.distance)

  pub far_taken : (IsWithinForm false (items_of t o false blocks) → ⊥) → is_far_code f o bs ≡ true
  far_taken h = lt-ltb 1048576 _ (omega (arith, size false, h))

  -- the bytes of the form that is taken
  code_bytes : (far : Bool) → is_far_code f o bs ≡ far → code_size f o bs ≡ sum_of_sizes far (items_of t o far blocks) + 4
  code_bytes far e = ap (λ b. sum_of_sizes b (items_in f o b bs)) e ∙ size far

  limited : (far : Bool) (n : ℕ) → n ≤ most_bytes far → n ≤ limit_of limit.CodeBytes
  limited true n h = h
  limited false n h = omega (arith, h)

  few : (far : Bool) → is_far_code f o bs ≡ far → IsWithinForm far (items_of t o far blocks) → code_size f o bs ≤ limit_of limit.CodeBytes
  few far e h = subst (λ n. n ≤ limit_of limit.CodeBytes) (sym (code_bytes far e)) (limited far _ h)

  entries : (far : Bool) → is_far_code f o bs ≡ far → new_entries f o bs ≡ rows_from far (code_begin t) (items_of t o far blocks)
  entries far e =
      ap (λ b. rows_from b (code_place o.half (image_of f)) (items_in f o b bs)) e
      ∙ ap (λ p. rows_from far p (items_in f o far bs)) (sym place)
      ∙ ap (λ is. rows_from far (code_begin t) is) (sym (whole far))
      ∙ (parts_join far (λ a. a) (code_begin t) (items_of t o far blocks) stub).marks
      ∙ append-nil (rows_from far (code_begin t) (items_of t o far blocks))

  instructions : (far : Bool) → is_far_code f o bs ≡ far
      → placed (is_far_code f o bs) (code_place o.half (image_of f)) (items_in f o (is_far_code f o bs) bs) ≡ placed far (code_begin t) (items_of t o far blocks ++ stub)
  instructions far e =
      ap (λ b. placed b (code_place o.half (image_of f)) (items_in f o b bs)) e
      ∙ ap (λ p. placed far p (items_in f o far bs)) (sym place)
      ∙ ap (λ is. placed far (code_begin t) is) (sym (whole far))

  -- the items can be linked
  pub links : (far : Bool) → is_far_code f o bs ≡ far → LinksWithin far (code_begin t) (items_of t o far blocks)
  links far e h =
      let b = cut.blocked in
      let words = tests_have_words f o bs b.file b.sound b.admitted b.are (few far e h) in
      let rows = are_rows f o b.sound b.file.loads b.admitted bs b.are in
      record {
        ascend = subst EntriesAscend (entries far e) (ascending (new_entries f o bs) bs rows.inputs_are b.are.ascend);
        encoded = ap (λ is. list_all is_encoded is) (sym (instructions far e)) ∙ decoded words.0 (placed (is_far_code f o bs) (code_place o.half (image_of f)) (items_in f o (is_far_code f o bs) bs)) words.1.code.small words.1.code.code;
      }

  -- what is linked is the new code of the test
  pub code_of :
      (far : Bool) (w : Weaver) (linked : Linked) → form w ≡ form_with (spans_of t.span) o far → is_far_code f o bs ≡ far → IsWithinForm far (items_of t o far blocks)
      → IsLinked far (code_begin t) (items_of t o far blocks) linked → IsWoven (compared f o bs) f o t blocks (kind w) (parts (form w)) (λ b. Unit {0}) linked
  code_of far w linked same e h l = record {
    code = record { small = l.words; code = subst (Decode linked.words.items) (sym (instructions far e)) l.decode };
    entries = l.entries ∙ sym (entries far e);
    few = few far e h;
    own = λ k b less. tt;
    parts = λ i. code_parts (parts ((same ∙ (λ j. form_with ((spans_are t.span ∙ cut.told.span) j) o ((sym e) j))) i)) (cut.told.distance i) (cut.told.entry i) bs;
    far = ap (λ x. x.far) same ∙ sym e;
    table = refl;
    bounds = refl;
  }

  -- why the items are not linked
  pub cause_of : (far : Bool) (x : LinkError) → is_far_code f o bs ≡ far → HasLinkCause far (items_of t o far blocks) x → far ≡ true → HasCodeCause (compared f o bs) x
  cause_of far (error.TooLarge n) e c is_far =
      let b = cut.blocked in
      let exact = few_bytes f o b.sound b.file.loads b.admitted bs b.are in
      (omega (arith, c.0, code_bytes far e, exact), subst (λ b. most_bytes b < n) is_far c.1)
  cause_of far error.Memory e c is_far = tt

  -- ---- both forms
  -- there are few data ranges
  pub few_ranges : length t.span ≤ 67_108_864
  few_ranges =
      let b = cut.blocked in
      let few = few_data f o b.sound b.file.loads b.admitted in
      omega (arith, few.ranges, length-map t.span range_of, ap length cut.told.span)

  -- the form is that of the counted bytes
  pub form_is : (n : ℕ) → n ≡ capped (sum_of_sizes false (items_of t o false blocks) + 4) → is_far_code f o bs ≡ nat_lt 1048576 n
  form_is n e =
      ⊎_elim
      (λ more. lt-ltb 1048576 _ (omega (arith, size false, e, more)) ∙ sym (lt-ltb 1048576 n more))
      (λ less. le-ltb 1048576 _ (omega (arith, size false, e, less)) ∙ sym (le-ltb 1048576 n less))
      (cases_lt 1048576 n)

  -- why the form that is taken is not written
  pub cause : (far : Bool) (x : LinkError) → is_far_code f o bs ≡ far → HasLinkCause far (items_of t o far blocks) x → HasCodeCause (compared f o bs) x
  cause true x e c = cause_of true x e c refl
  cause false (error.TooLarge n) e c = absurd (true_false (sym (far_taken (λ h. omega (arith, c.0, c.1, h))) ∙ e)) where
    true_false : true ≡ false → ⊥
    true_false h = cc
  cause false error.Memory e c = tt

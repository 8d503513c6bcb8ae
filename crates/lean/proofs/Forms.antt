-- The lean form of a test: its items are those of its file; they can be linked if few, and what is linked is its code.
use Rattle.std.proofs.Common.{◌≡◌, Bool, ℕ, ◌+◌, ◌-◌, ◌^◌, ◌<◌, ◌≤◌, false, List, [], ◌++◌, length, map, refl, sym, ap, ◌∙◌, subst, arith, append_assoc}
use Rattle.std.specs.Prelude.{All, AllPairs, get_or}
use Rattle.std.specs.List.{list_all}
use Rattle.std.proofs.Math.ListN.{get_or-map, length-map}
use Rattle.std.proofs.lemmas.List.{append-nil}
use Rattle.qed_model.specs.declared.item.Item.{Item}
use Rattle.qed_model.specs.declared.plan.EntryRow.{EntryRow}
use Rattle.tests.specs.declared.range.Range.{Range}
use Rattle.tests.specs.declared.test.Test.{Test}
use Rattle.tests.specs.Admission.DataRanges.{range_of, ElfFile}
use Rattle.qed_model.specs.Weave.Blocks.{begins_at, Options}
use Rattle.qed_model.specs.Weave.Code.{Sequences, entries_of}
use Rattle.tests.specs.Admission.Places.{base_of, image_of, half_of, code_place}
use Rattle.qed_model.specs.Weave.Placed.{sum_of_sizes, rows_from, placed, leads_to, entry_of, Decode, EntriesAscend}
use Rattle.qed_model.specs.Weave.Sequences.{Form, Block, stub}
use Rattle.qed_model.specs.Weave.Bounds.{cost_of}
use Rattle.qed_model.specs.Weave.Forms.{mirror_of, form_of, shape_of}
use Rattle.qed_model.specs.Weave.LeanBounds.{lean_bounds_of}
use Rattle.qed_model.specs.Weave.LeanCode.{Lean, lean_in, lean_of, lean_items, items_with as file_items, start_at, worded}
use Rattle.qed_model.specs.Weave.LeanParts.{worded_parts, file_parts}
use Rattle.qed_model.specs.Weave.Parts.{code_parts}
use Rattle.qed_model.specs.Weave.Woven.{lean}
use Rattle.qed_model.proofs.Lemmas.{size-append, entry_inside}
use Rattle.weave_core.proofs.TestKnown as there
use Rattle.block_split.specs.declared.block.CodeBlock.{CodeBlock}
use Rattle.block_split.specs.Listed.{block_of}
use Rattle.plc_rounds.specs.Spans.{spans_of}
use Rattle.relinker.specs.declared.count.Count.{Count}
use Rattle.relinker.specs.declared.error.LinkError.{LinkError}
use Rattle.relinker.specs.declared.error.LinkError.TheVariants as error
use Rattle.relinker.specs.declared.layout.Layout.{Layout}
use Rattle.relinker.specs.declared.layout.Linked.{Linked}
use Rattle.relinker.specs.Counted.{capped, HasCounted}
use Rattle.relinker.specs.Laid.{IsLaid, IsLinked, IsLinkCause as HasCountCause}
use Rattle.relinker.specs.Link.{is_encoded, most_bytes, IsLinkable}
use Rattle.relinker.proofs.Joining.{parts_join}
use Rattle.relinker.proofs.Linkable.{decoded, ascending}
use Rattle.weave.specs.Form.{form_with, code_to_stub}
use Rattle.weave.specs.Fits.{FitsBlock}
use Rattle.weave.proofs.AdmittedFit.{blocks_fit}
use Rattle.weave.proofs.WholeCode.{spans_are}
use Rattle.lean.proofs.Weave.Short.{few_steps}
use Rattle.lean.proofs.Weave.Tests.{tests_have_words, are_items}
use Rattle.lean.proofs.Weave.Unmarked.{code_rows, code_size}
use Rattle.lean.specs.declared.weaver.LeanWeaver.{LeanWeaver}
use Rattle.weave.specs.Code.{code_begin, IsWoven, HasCodeCause}
use Rattle.weave.proofs.DataWords.{few_data}
use Rattle.weave.proofs.LeanBytes.{few_lean_bytes}
use Rattle.lean.specs.Code.{lean_with, code_with, test_items_with, test_parts_with, IsLeanCut}
use Rattle.lean.specs.Form.{code_at, lean_code_of, lean_parts_of, lean_kind, IsOwn}
use Rattle.lean.proofs.Owned.{owned}

-- ---- what a weaver makes by a test's counts is made of the test; it does not use the most instructions of a piece
pub woven_is :
    {A : Type 0} (make : Form → ℕ → (ℕ → ℕ) → Lean → (ℕ → Bool) → A) (t : Test) (o : Options) (every : ℕ) (blocks : List Block) (span : List Range) (diverse : Bool) (ticks : ℕ → Bool) (most : ℕ → ℕ)
    → span ≡ t.span → diverse ≡ o.diverse → ((a : ℕ) → ticks a ≡ (lean_with t o every blocks).ticks a) → ((a : ℕ) → most a ≡ (lean_with t o every blocks).most a)
    → ◌≡◌ {A = (ℕ → ℕ) → A} (λ entry. make (record { spans = spans_of span; round = o.round; far = false; sweep = o.sweep; mirror = mirror_of diverse; cost = cost_of diverse }) t.base entry (record { every = every; inst_max = 0; diverse = diverse; land = o.land; distance = t.distance; check = code_begin t + 124; ticks = ticks; most = most; start_of = start_at blocks }) (begins_at blocks))
    (λ entry. make (form_with (spans_of t.span) o false) t.base entry (record (lean_with t o every blocks) { inst_max = 0 }) (begins_at blocks))
woven_is make t o every blocks span diverse ticks most same lean_kind p q = λ i entry.
    make (record { spans = spans_of (same i); round = o.round; far = false; sweep = o.sweep; mirror = mirror_of (lean_kind i); cost = cost_of (lean_kind i) }) t.base entry
    (record { every = every; inst_max = 0; diverse = lean_kind i; land = o.land; distance = t.distance; check = code_begin t + 124; ticks = λ a. p a i; most = λ a. q a i; start_of = start_at blocks }) (begins_at blocks)

-- ---- of a test
module _ (f : ElfFile) (o : Options) (every : ℕ) (t : Test) (blocks : List CodeBlock) (c : IsLeanCut f o every t blocks) where
  abbrev bs : List Block
  bs = map block_of blocks

  abbrev at : ℕ
  at = code_place o.half (image_of f)

  abbrev d : ℕ
  d = half_of o.half (image_of f)

  pub place : code_begin t ≡ at
  place = omega (arith, c.told.base, c.told.distance)

  -- ---- the blocks fit
  pub fit : All FitsBlock blocks
  fit = blocks_fit f o t.code blocks (record { file = c.cut.file; sound = c.cut.sound; admitted = c.cut.admitted; words = c.told.code; are = c.cut.are; within = c.within })

  pub blocks_ascend : AllPairs (λ (x y : CodeBlock). x.start < y.start) blocks
  blocks_ascend i j e l m =
      let at : (k : ℕ) → (get_or bs k (block_of e)).start ≡ (get_or blocks k e).start = λ k. ap (λ (b : Block). b.start) (get_or-map block_of blocks k e) in
      let less = c.cut.are.ascend i j (block_of e) l (omega (arith, m, length-map blocks block_of)) in
      omega (arith, less, at i, at j)

  pub few_every : every ≤ 2047
  few_every = few_steps f o every c.cut.sound c.cut.lean

  pub few_ranges : length t.span ≤ 67_108_864
  few_ranges =
      let few = few_data f o c.cut.sound c.cut.file.loads c.cut.admitted in
      omega (arith, few.ranges, length-map t.span range_of, ap length c.told.span)

  pub half_small : t.distance < 2 ^ 63
  half_small = let b = (there.bounds f o c.cut.sound c.cut.file.loads c.cut.admitted bs c.cut.are).1 in omega (arith, b, c.told.distance)

  pub place_small : code_begin t + 134217728 ≤ 2 ^ 63
  place_small = let p = (there.is f o c.cut.sound c.cut.file.loads c.cut.admitted bs c.cut.are).top in omega (arith, p, place)

  -- ---- the items are those of the file
  abbrev file_code : (ℕ → ℕ) → Sequences
  file_code entry = worded (form_of f o false) (base_of (image_of f)) entry (lean_of f o every bs) (begins_at bs)

  abbrev of_file : (ℕ → ℕ) → List Item
  of_file = file_items f o every bs

  abbrev of_test : (ℕ → ℕ) → List Item
  of_test = test_items_with t o every bs

  same_code : (entry : ℕ → ℕ) → code_with t o every bs entry ≡ file_code entry
  same_code entry = λ i. worded (form_with ((spans_are t.span ∙ c.told.span) i) o false) (c.told.base i) entry (lean_in o every bs (c.told.distance i) (place i + 124) (c.told.entry i)) (begins_at bs)

  -- the parts are those of the file
  parts_whole : (entry : ℕ → ℕ) → code_parts (test_parts_with t o every bs entry) t.distance t.entry bs ≡ file_parts f o every bs entry
  parts_whole entry = λ i.
      code_parts (worded_parts (form_with ((spans_are t.span ∙ c.told.span) i) o false) (c.told.base i) entry (lean_in o every bs (c.told.distance i) (place i + 124) (c.told.entry i)) (begins_at bs)) (c.told.distance i) (c.told.entry i) bs

  whole : (entry : ℕ → ℕ) → of_test entry ++ stub ≡ of_file entry
  whole entry =
      (λ i. code_to_stub (same_code entry i) (c.told.distance i) (c.told.entry i) bs ++ stub) ∙ append_assoc ((file_code entry).first d f.entry) (entries_of (file_code entry) bs) stub

  size : (entry : ℕ → ℕ) → sum_of_sizes false (of_file entry) ≡ sum_of_sizes false (of_test entry) + 4
  size entry = ap (sum_of_sizes false) (sym (whole entry)) ∙ size-append false (of_test entry) stub

  rows : (n : ℕ) (entry : ℕ → ℕ) → rows_from false n (of_file entry) ≡ rows_from false n (of_test entry)
  rows n entry = ap (rows_from false n) (sym (whole entry)) ∙ (parts_join false (λ a. a) n (of_test entry) stub).marks ∙ append-nil (rows_from false n (of_test entry))

  -- ---- wherever the entries are, the bytes and the marks are the same
  module _ (x y : ℕ → ℕ) where
    same_size : sum_of_sizes false (of_test x) ≡ sum_of_sizes false (of_test y)
    same_size = let e = code_size (form_of f o false) (base_of (image_of f)) (lean_of f o every bs) (begins_at bs) x y d f.entry bs in omega (arith, e, size x, size y)

    same_rows : (n : ℕ) → rows_from false n (of_test x) ≡ rows_from false n (of_test y)
    same_rows n = sym (rows n x) ∙ code_rows (form_of f o false) (base_of (image_of f)) (lean_of f o every bs) (begins_at bs) x y d f.entry bs n ∙ rows n y

    counted_too : (count : Count) → count.far ≡ false → HasCounted count (of_test x) → HasCounted count (of_test y)
    counted_too count e h = record {
      bytes = h.bytes ∙ ap (λ b. capped (sum_of_sizes b (of_test x))) e ∙ ap capped same_size ∙ ap (λ b. capped (sum_of_sizes b (of_test y))) (sym e);
      marks = λ small.
          let less : sum_of_sizes count.far (of_test x) < 2 ^ 64 - 1 = subst (λ b. sum_of_sizes b (of_test x) < 2 ^ 64 - 1) (sym e) (let l : sum_of_sizes false (of_test y) < 2 ^ 64 - 1 = subst (λ b. sum_of_sizes b (of_test y) < 2 ^ 64 - 1) e small in omega (arith, l, same_size)) in
          h.marks less ∙ ap (λ b. rows_from b 0 (of_test x)) e ∙ same_rows 0 ∙ ap (λ b. rows_from b 0 (of_test y)) (sym e);
    }

  -- ---- the items with their entries
  abbrev own : ℕ → ℕ
  own = entry_of false at (of_file (λ a. 0))

  abbrev items : List Item
  items = of_test own

  -- they can be linked, where they are few
  linkable : sum_of_sizes false (lean_items f o every bs) ≤ 1048576 → IsLinkable false (code_begin t) items
  linkable few =
      let u = tests_have_words f o every bs c.cut few in
      let marks = ap (λ p. rows_from false p items) place ∙ sym (rows at own) in
      let all = ap (λ p. placed false p (items ++ stub)) place ∙ ap (placed false at) (whole own) in
      record {
        ascend = subst EntriesAscend (sym marks) (ascending (rows_from false at (lean_items f o every bs)) bs (are_items f o every bs c.cut u.0 u.1).inputs_are c.cut.are.ascend);
        encoded = ap (list_all is_encoded) all ∙ decoded u.0 (placed false at (lean_items f o every bs)) u.1.small u.1.code;
      }

  -- ---- a weaver of the test hands them on, where it knows the entries
  module _ (w : LeanWeaver) (code : code_at w ≡ code_with t o every bs) where
    handed : (entry : ℕ → ℕ) → code_to_stub (code_at w entry) t.distance t.entry bs ≡ of_test entry
    handed entry = ap (λ (s : (ℕ → ℕ) → Sequences). code_to_stub (s entry) t.distance t.entry bs) code

    -- it was counted without
    module _ (count : Count) (near : count.far ≡ false) (counted : HasCounted count (code_to_stub (lean_code_of w) t.distance t.entry bs)) where
      has : HasCounted count items
      has = let first = leads_to w.entries.items w.last in counted_too first own count near (subst (HasCounted count) (handed first) counted)

      bytes_are : count.bytes ≡ capped (sum_of_sizes false items)
      bytes_are = has.bytes ∙ ap (λ b. capped (sum_of_sizes b items)) near

      few_counted : count.bytes + 4 ≤ most_bytes count.far → sum_of_sizes false (lean_items f o every bs) ≤ 1048576
      few_counted less = let l = subst (λ b. count.bytes + 4 ≤ most_bytes b) near less in let e = bytes_are in omega (arith, l, e, size own)

      pub cause : (e : LinkError) → HasCountCause count e → HasCodeCause (lean f o every bs) e
      cause (error.TooLarge n) k =
          let e = bytes_are in
          let over : 1048576 < n = subst (λ b. most_bytes b < n) near k.1 in
          (omega (arith, k.0, e, size own, few_lean_bytes f o c.cut.sound c.cut.file.loads c.cut.admitted bs c.cut.are every), over)
      cause error.Memory k = tt

      -- ---- the layout knows the entries
      module _
          (layout : Layout) (far : layout.far ≡ count.far) (base : layout.base ≡ code_begin t) (less : count.bytes + 4 ≤ most_bytes count.far)
          (laid : (xs : List Item) → HasCounted count xs → IsLinkable count.far (code_begin t) xs → IsLaid layout [] xs) where
        is_near : layout.far ≡ false
        is_near = far ∙ near

        few : sum_of_sizes false (lean_items f o every bs) ≤ 1048576
        few = few_counted less

        all_laid : IsLaid layout [] items
        all_laid = laid items has (subst (λ b. IsLinkable b (code_begin t) items) (sym near) (linkable few))

        rows_are : layout.entries.items ≡ rows_from false at (of_file (λ a. 0))
        rows_are =
            all_laid.entries
            ∙ ap (λ b. rows_from b layout.base items) is_near
            ∙ ap (λ n. rows_from false n items) (base ∙ place)
            ∙ same_rows own (λ a. 0) at
            ∙ sym (rows at (λ a. 0))

        last_is : layout.last ≡ at + sum_of_sizes false (of_file (λ a. 0)) - 4
        last_is =
            let e : layout.last ≡ layout.base + sum_of_sizes false items = all_laid.last ∙ ap (λ b. layout.base + sum_of_sizes b items) is_near in
            omega (arith, e, base, place, same_size own (λ a. 0), size (λ a. 0))

        -- so does who has a copy of its rows
        module _ (copy : List EntryRow) (last : ℕ) (same : copy ≡ layout.entries.items) (same_last : last ≡ layout.last) where
          known : leads_to copy last ≡ own
          known = ap (λ r. leads_to r last) (same ∙ rows_are) ∙ ap (leads_to (rows_from false at (of_file (λ a. 0)))) (same_last ∙ last_is)

          pub ascend : EntriesAscend copy
          ascend = subst EntriesAscend (sym same) all_laid.ascend

          pub low : (a : ℕ) → leads_to copy last a + 32 < 2 ^ 64
          low a =
              let grain = (there.bounds f o c.cut.sound c.cut.file.loads c.cut.admitted bs c.cut.are).0 in
              let inside = entry_inside false at (of_file (λ a. 0)) a (omega (arith, grain)) (omega (arith, size (λ a. 0))) in
              let is : leads_to copy last a ≡ own a = ap (λ (e : ℕ → ℕ). e a) known in
              let high = inside.high in
              omega (arith, is, high, few, size own, size (λ a. 0), same_size own (λ a. 0), place_small, place)

          -- the weaver with the copy of the rows hands on the items, which become the code
          module _ (knows : LeanWeaver) (placed_code : lean_code_of knows ≡ code_at w (leads_to copy last)) where
            abbrev parts : List Item
            parts = code_to_stub (lean_code_of knows) t.distance t.entry bs

            same_parts : parts ≡ items
            same_parts = ap (λ s. code_to_stub s t.distance t.entry bs) placed_code ∙ handed (leads_to copy last) ∙ ap of_test known

            pub come : IsLaid layout [] parts
            come = subst (IsLaid layout []) (sym same_parts) all_laid

            pub linked_is :
                (linked : Linked) → IsLinked layout.far layout.base parts linked → knows.blocks.now ≡ blocks → knows.every ≡ every → lean_parts_of knows ≡ test_parts_with t o every bs (leads_to copy last)
                → IsWoven (lean f o every bs) f o t blocks (lean_kind knows) (lean_parts_of knows) (IsOwn knows) linked
            linked_is linked k are steps made =
                let l : IsLinked layout.far layout.base items linked = subst (λ is. IsLinked layout.far layout.base is linked) same_parts k in
                let all = ap (λ b. placed b layout.base (items ++ stub)) is_near ∙ ap (λ n. placed false n (items ++ stub)) (base ∙ place) ∙ ap (placed false at) (whole own) in
                record {
                  code = record { small = l.words; code = subst (Decode linked.words.items) all l.decode };
                  entries = l.entries ∙ ap (λ b. rows_from b layout.base items) is_near ∙ ap (λ n. rows_from false n items) (base ∙ place) ∙ sym (rows at own);
                  few = few;
                  own = owned f o every blocks c.cut knows are fit;
                  parts = ap (λ p. code_parts p t.distance t.entry bs) (made ∙ ap (test_parts_with t o every bs) known) ∙ parts_whole own;
                  far = refl;
                  table = refl;
                  bounds = ap (lean_bounds_of (shape_of f o false)) steps;
                }

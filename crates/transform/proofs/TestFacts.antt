-- Facts on a test with its blocks.
use Rattle.std.proofs.Common.{◌≡◌, ℕ, ◌+◌, ◌^◌, ◌<◌, ◌≤◌, Bool, true, false, List, length, map, All, get_or, refl, ap, ◌∙◌, arith, Option, Some, None, SomeIff, IsSome, sym}
use Rattle.tests.specs.declared.options.Options.{Options}
use Rattle.qed_model.specs.declared.bounds.Bounds.{Bounds}
use Rattle.qed_model.specs.declared.plan.EntryRow.{EntryRow}
use Rattle.tests.specs.declared.test.Test.{Test}
use Rattle.tests.specs.Admission.CodeWords.{is_code, ElfFile}
use Rattle.tests.specs.Admission.DataRanges.{data_ranges, word_count, Segment}
use Rattle.machine.specs.Loading.{load_segments}
use Rattle.qed_model.specs.Weave.Bounds.{bounds_of}
use Rattle.tests.specs.Admission.Places.{base_of, image_of, half_of}
use Rattle.qed_model.specs.Weave.Sequences.{Block}
use Rattle.qed_model.specs.Weave.LeanBounds.{lean_bounds}
use Rattle.qed_model.specs.Weave.Forms.{shape_of}
use Rattle.qed_model.specs.Weave.Woven.{is_far_code, code_as}
use Rattle.lean.proofs.Weave.Short.{few_steps}
use Rattle.tests.proofs.Lemmas.{code_grain}
use Rattle.tests.specs.Elf.Sound.{AreLoads}
use Rattle.bound_calc.specs.Fitting.{AreSmall}
use Rattle.block_split.specs.declared.block.CodeBlock.{CodeBlock}
use Rattle.block_split.specs.Listed.{block_of}
use Rattle.output_file.specs.Entries.{AreEntries}
use Rattle.output_file.specs.Plans.{IsWhole}
use Rattle.output_file.proofs.BlockEntries.{entries_are}
use Rattle.weave.proofs.AdmittedFit.{words_below}
use Rattle.weave_core.proofs.Lemmas.{admitted_image, IsImage, block_code, code_bounds}
use Rattle.weave.specs.Code.{IsCut}
use Rattle.weave.proofs.DataWords.{few_data}
use Rattle.transform.proofs.BoundsSmall.{shape_small, lean_shape_small}

module _ (f : ElfFile) (o : Options) (t : Test) (blocks : List CodeBlock) (cut : IsCut f o t blocks) where
  abbrev image : List Segment
  image = image_of f

  abbrev d : ℕ
  d = half_of o.half image

  abbrev bs : List Block
  bs = map block_of blocks

  loads : AreLoads (load_segments f.segments)
  loads = cut.blocked.file.loads

  is_image : IsImage f.segments d
  is_image = admitted_image f o cut.blocked.sound loads cut.blocked.admitted

  -- ---- the bounds
  bounds_small : (far : Bool) → AreSmall (bounds_of (shape_of f o far))
  bounds_small far =
      let few = few_data f o cut.blocked.sound loads cut.blocked.admitted in
      shape_small (shape_of f o far) cut.blocked.sound.most cut.blocked.sound.visits cut.blocked.sound.few_visits few.ranges few.words

  lean_bounds_small : (every : ℕ) → every ≤ 2047 → AreSmall (lean_bounds f o every)
  lean_bounds_small every few_steps =
      let few = few_data f o cut.blocked.sound loads cut.blocked.admitted in
      lean_shape_small (shape_of f o false) every cut.blocked.sound.most cut.blocked.sound.visits cut.blocked.sound.few_visits few.ranges few.words few_steps

  pub small : (l : Option ℕ) → o.lean ≡ l → AreSmall (code_as l f o bs).bounds
  small None none = bounds_small (is_far_code f o bs)
  small (Some every) some = lean_bounds_small every (few_steps f o every cut.blocked.sound some)

  -- ---- the blocks
  bounded : (a : ℕ) → is_code f a ≡ true → (base_of image ≤ a) × (a + 4 ≤ base_of image + d)
  bounded a e = code_bounds f o cut.blocked.sound loads cut.blocked.admitted bs cut.blocked.are a e

  -- rows whose inputs are those of the blocks are entries
  pub are_entries : (rows : List EntryRow) → map (λ r. r.input) rows ≡ map (λ b. b.start) bs → AreEntries (t.base + t.distance) rows
  are_entries rows inputs =
      let code : (k : ℕ) (x : Block) → k < length bs → is_code f (get_or bs k x).start ≡ true = λ k x h. block_code f o cut.blocked.sound loads cut.blocked.admitted bs cut.blocked.are (get_or bs k x) (cut.blocked.are.each k x h) in
      entries_are rows bs (t.base + t.distance) inputs cut.blocked.are.ascend
      (λ k x h. code_grain f (get_or bs k x).start (code k x h))
      (λ k x h. let b = bounded (get_or bs k x).start (code k x h) in omega (arith, b.1, cut.told.base, cut.told.distance))

  -- all blocks end below 2^63
  pub all_whole : All IsWhole blocks
  all_whole =
      let top = is_image.top in
      cut.blocked.within (2 ^ 63) (words_below f (2 ^ 63) t.code cut.blocked.words (λ a e. let b = bounded a e in omega (arith, b.1, top)))

-- ---- what the bounds depend on
pub same_shape :
    (f : ElfFile) (o : Options) (far : Bool) (words ranges : ℕ) → words ≡ word_count (data_ranges (image_of f)) → ranges ≡ length (data_ranges (image_of f))
    → record (shape_of f o far) { words = words; ranges = ranges } ≡ shape_of f o far
same_shape f o far words ranges w r =
    ap (λ n. record (shape_of f o far) { words = n; ranges = ranges }) w
    ∙ ap (λ n. record (shape_of f o far) { ranges = n }) r

-- ---- bounds that fit are found
pub found_some : (r : Option Bounds) (b : Bounds) → SomeIff r (AreSmall b) b → AreSmall b → IsSome r
found_some None b h small = absurd (h small)
found_some (Some x) b h small = refl

pub found_is : (r : Option Bounds) (b x : Bounds) → SomeIff r (AreSmall b) b → r ≡ Some x → x ≡ b
found_is None b x h e = cc
found_is (Some y) b x h e = let same : y ≡ x = cc in sym same ∙ h.1

-- An admitted test has few data words and few data ranges.
use Rattle.std.proofs.Common.{◌≡◌, ℕ, ◌+◌, ◌-◌, ◌*◌, ◌%◌, ◌≤◌, List, [], ◌∷◌, length, Option, Some, None, arith}
use Rattle.std.specs.Prelude.{IfSome}
use Rattle.tests.specs.declared.options.Options.{Options}
use Rattle.tests.specs.Admission.DataRanges.{data_ranges, word_count, ElfFile, Segment}
use Rattle.tests.specs.Admission.Refusals.{IsAdmitted}
use Rattle.machine.specs.Loading.{load_segments}
use Rattle.tests.specs.Admission.Places.{base_of, distance_of, image_of, half_of}
use Rattle.qed_model.specs.Weave.SoundOptions.{AreSoundOptions}
use Rattle.tests.specs.Elf.Sound.{AreLoads}
use Rattle.weave_core.specs.World.{GoodSpans, AllBelow}
use Rattle.weave_core.proofs.Lemmas.{admitted_image, are_spans}

-- a half has room for its data words
words_within : (base top : ℕ) (spans : List (ℕ × ℕ)) → GoodSpans base spans → AllBelow spans top → (8 * word_count spans ≤ top - base) × (length spans ≤ word_count spans)
words_within base top [] g b = (omega arith, omega arith)
words_within base top (r ∷ rs) g b =
    let rec = words_within (r.1 + 1) top rs g.1 b.1 in
    (omega (arith, rec.0, g.0.low, g.0.some, b.0), omega (arith, rec.1, g.0.some))

-- at most as many words as a half of 536,870,912 bytes has
pub record AreFew (spans : List (ℕ × ℕ)) : Type 0 where
  pub words : word_count spans ≤ 67_108_864
  pub ranges : length spans ≤ 67_108_864

-- the distance between the halves
half_small : (image : List Segment) (half : Option ℕ) → IfSome half (λ h. (h % 4096 ≡ 0) × (4096 ≤ h) × (h ≤ 536_870_912)) → distance_of image ≤ 67_108_864 → half_of half image ≤ 536_870_912
half_small image (Some d) h span = h.2
half_small image None h span = omega (arith, span)

pub few_data : (f : ElfFile) (o : Options) → AreSoundOptions o → AreLoads (load_segments f.segments) → IsAdmitted f o → AreFew (data_ranges (image_of f))
few_data f o sound loads admitted =
    let image = image_of f in
    let d = half_of o.half image in
    let half = half_small image o.half sound.half admitted.span in
    let s = are_spans f.segments d (admitted_image f o sound loads admitted) in
    let few = words_within (base_of image) (base_of image + d) (data_ranges image) s.good s.low in
    record { words = omega (arith, few.0, half); ranges = omega (arith, few.0, few.1, half) }

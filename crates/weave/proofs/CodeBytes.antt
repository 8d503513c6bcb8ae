-- The new code of an admitted test has fewer than 2^64 - 1 bytes.
use Rattle.std.proofs.Common.{⊎_elim, ℕ, ◌+◌, ◌-◌, ◌*◌, ◌^◌, ◌<◌, ◌≤◌, Bool, List, ◌++◌, length, refl, arith}
use Rattle.std.proofs.lemmas.Bool.{cases_lt}
use Rattle.tests.specs.Admission.CodeWords.{AreCodeAddresses, ElfFile}
use Rattle.tests.specs.Admission.DataRanges.{data_ranges}
use Rattle.tests.specs.Admission.Refusals.{IsAdmitted}
use Rattle.machine.specs.Loading.{load_segments}
use Rattle.qed_model.specs.Weave.Blocks.{AreBlocks, Options}
use Rattle.qed_model.specs.Weave.Placed.{sum_of_sizes}
use Rattle.qed_model.specs.Weave.SoundOptions.{AreSoundOptions}
use Rattle.tests.specs.Admission.Places.{image_of, half_of}
use Rattle.qed_model.specs.Weave.Sequences.{Block, prologue, stub}
use Rattle.qed_model.specs.Weave.Code.{entries_of, sequences}
use Rattle.qed_model.specs.Weave.Woven.{items_in, is_far_code, code_size}
use Rattle.qed_model.specs.Weave.Forms.{form_of}
use Rattle.tests.proofs.Lemmas.{addresses_there}
use Rattle.machine.proofs.Lemmas.{among_of}
use Rattle.qed_model.proofs.Lemmas.{size-append}
use Rattle.tests.specs.Elf.Sound.{AreLoads}
use Rattle.weave.proofs.BlockCount.{weight, few_blocks}
use Rattle.weave.proofs.DataWords.{few_data}
use Rattle.weave.proofs.ItemBytes.{mirror_small, prologue_small, entries_small}

module _ (f : ElfFile) (o : Options) (sound : AreSoundOptions o) (loads : AreLoads (load_segments f.segments)) (admitted : IsAdmitted f o) (blocks : List Block) (are : AreBlocks f o blocks) where
  -- there are no more code words than the limit
  few_words : (ns : List ℕ) → AreCodeAddresses f ns → length ns ≤ 1_048_576
  few_words ns all = ⊎_elim (λ x. absurd (admitted.words (length ns) (record { addresses = ns; all = all; count = refl; over = x }))) (λ x. x) (cases_lt 1_048_576 (length ns))

  -- all blocks together have few instructions and pieces
  pub few : weight blocks ≤ 5_242_880
  few =
      let there = addresses_there f in
      let words = few_words there.0 there.1 in
      let some = most_some sound.some sound.room in
      let sum = few_blocks f (record { loads = loads; sections = admitted.sections; segments = admitted.segments }) o some blocks there.0 are (λ a e. among_of a there.0 ((there.1.all a).1 e)) in
      omega (arith, words, sum) where
        most_some : 1 ≤ o.inst_min → 2 * o.inst_min ≤ o.inst_max + 1 → 1 ≤ o.inst_max
        most_some x y = omega (arith, x, y)

  -- the bytes of either form
  form_bytes : (far : Bool) → sum_of_sizes far (items_in f o far blocks) < 2 ^ 64 - 1
  form_bytes far =
      let form = form_of f o far in
      let first = prologue (half_of o.half (image_of f)) (data_ranges (image_of f)) f.entry in
      let entries = entries_small form (mirror_small far o.diverse) sound.few_visits (few_data f o sound loads admitted).ranges blocks in
      omega (arith, few, entries, prologue_small far (half_of o.half (image_of f)) (data_ranges (image_of f)) f.entry, size-append far first (entries_of (sequences form) blocks ++ stub), size-append far (entries_of (sequences form) blocks) stub)

  pub few_bytes : code_size f o blocks < 2 ^ 64 - 1
  few_bytes = form_bytes (is_far_code f o blocks)

-- A known test meets all premises of the promises, and has these numbers.
use Rattle.std.proofs.Common.{◌≡◌, ℕ, zero, suc, ◌+◌, ◌*◌, Bool, List, [], ◌∷◌, ◌++◌, length, take, drop, arith, ◌<◌, inl, inr, true, false, refl, ap, ◌∙◌, sym}
use Rattle.std.specs.Prelude.{nat_lt, slice_index}
use Rattle.tests.specs.Admission.DataRanges.{data_ranges}
use Rattle.tests.specs.Admission.Places.{image_of, half_of}
use Rattle.qed_model.specs.Weave.SoundOptions.{AreSoundOptions}
use Rattle.qed_model.specs.Weave.Placed.{sum_of_sizes}
use Rattle.qed_model.specs.declared.item.Item.{Item}
use Rattle.qed_model.specs.Weave.Sequences.{Form, Block, original, each_part, compare, visit, visit_word, times, piece, enter, leave, body_length, prologue, stub}
use Rattle.qed_model.specs.Weave.Code.{block_items, entries_of, pieces_of, sequences}
use Rattle.qed_model.specs.Weave.Woven.{items_in, is_far_code, code_size, compared, IsPlanOf}
use Rattle.qed_model.specs.Weave.Forms.{form_of, shape_of}
use Rattle.qed_model.proofs.Lemmas.{size-append, IsCodeOf, any_reached}
use Rattle.machine.specs.declared.limits.TheConstants.{MAX_NEAR_CODE_BYTES}
use Rattle.machine.specs.Cells.{number_among}
use Rattle.machine.specs.Table.{Ins, ins_of, decode_of}
use Rattle.tests.specs.Admission.Refusals.{IsAdmitted}
use Rattle.qed_model.specs.Weave.Blocks.{ElfFile, AreBlocks, Options}
use Rattle.qed_model.specs.Weave.Bounds.{bounds_of}
use Rattle.qed_model.proofs.ExampleBlocks as made
use Rattle.qed_model.proofs.ExampleCode as code
use Rattle.machine.specs.Numbers.{number_bytes}
use Rattle.tests.proofs.Lemmas.{are_bytes, read_sound, opened_verdict, read_of, is_file}
use Rattle.qed_model.specs.Promise.Kept.{any_address}
use Rattle.tests.specs.Files.File.{File}
use Rattle.weave_core.specs.Tests.{IsWovenTest}
use Rattle.weave_core.proofs.Lemmas.{tests_have_words, tests_kept, tests_landed}
use Rattle.lockstep.proofs.Lemmas.{tests_caught, tests_clean}
use Rattle.weave_examples.specs.FarTest.{far_bytes, far_test, far_options, far_code, far_blocks, far_plan, FarPromised, next_jump, lui_8, ld_5, lui_9, sd_5, ld_6, mul, sub, call, ecall, add, jalr}

-- ---- how many bytes new code has whose pieces have many visits: the visits are counted, not written out
module _ (far : Bool) (form : Form) where
  -- the bytes of one visit
  abbrev one_visit : ℕ
  one_visit = sum_of_sizes far (visit_word form.spans)

  times_size : (n : ℕ) (is : List Item) → sum_of_sizes far (times n is) ≡ n * sum_of_sizes far is
  times_size zero is = omega arith
  times_size (suc n) is = let a = size-append far is (times n is) in let b = times_size n is in omega (arith, a, b)

  -- pieces without their visits
  abbrev bare_pieces : List (List Ins) → ℕ → ℕ
  bare_pieces [] at = 0
  bare_pieces (p ∷ ps) at = (sum_of_sizes far (each_part original p at) + (sum_of_sizes far (each_part form.mirror p at) + sum_of_sizes far compare)) + bare_pieces ps (at + 4 * length p)

  pieces_size : (ps : List (List Ins)) (at : ℕ) → sum_of_sizes far (pieces_of (sequences form) ps at) ≡ bare_pieces ps at + length ps * (form.round * one_visit)
  pieces_size [] at = omega arith
  pieces_size (p ∷ ps) at =
      let checks = compare ++ visit form.round form.spans in
      let a = size-append far (piece form p at) (pieces_of (sequences form) ps (at + 4 * length p)) in
      let b = size-append far (each_part original p at) (each_part form.mirror p at ++ checks) in
      let c = size-append far (each_part form.mirror p at) checks in
      let d = size-append far compare (visit form.round form.spans) in
      let e = times_size form.round (visit_word form.spans) in
      let rest = pieces_size ps (at + 4 * length p) in
      omega (arith, a, b, c, d, e, rest)

  -- entries without their visits, and how many pieces they have
  abbrev bare_entries : List Block → ℕ
  bare_entries [] = 0
  bare_entries (b ∷ bs) = (sum_of_sizes far (enter b.start) + (bare_pieces b.body b.start + sum_of_sizes far (leave form b.end (b.start + 4 * body_length b.body)))) + bare_entries bs

  abbrev count_pieces : List Block → ℕ
  count_pieces [] = 0
  count_pieces (b ∷ bs) = length b.body + count_pieces bs

  entries_size : (bs : List Block) → sum_of_sizes far (entries_of (sequences form) bs) ≡ bare_entries bs + count_pieces bs * (form.round * one_visit)
  entries_size [] = omega arith
  entries_size (b ∷ bs) =
      let end = leave form b.end (b.start + 4 * body_length b.body) in
      let a = size-append far (block_items (sequences form) b) (entries_of (sequences form) bs) in
      let c = size-append far (enter b.start) (pieces_of (sequences form) b.body b.start ++ end) in
      let d = size-append far (pieces_of (sequences form) b.body b.start) end in
      let e = pieces_size b.body b.start in
      let rest = entries_size bs in
      omega (arith, a, c, d, e, rest)

-- all bytes of the new code
abbrev pub counted : ElfFile → Options → Bool → List Block → ℕ
counted f o far blocks =
    sum_of_sizes far (prologue (half_of o.half (image_of f)) (data_ranges (image_of f)) f.entry)
    + ((bare_entries far (form_of f o far) blocks + count_pieces far (form_of f o far) blocks * (o.round * one_visit far (form_of f o far))) + sum_of_sizes far stub)

pub code_counted : (f : ElfFile) (o : Options) (far : Bool) (blocks : List Block) → sum_of_sizes far (items_in f o far blocks) ≡ counted f o far blocks
code_counted f o far blocks =
    let form = form_of f o far in
    let first = prologue (half_of o.half (image_of f)) (data_ranges (image_of f)) f.entry in
    let a = size-append far first (entries_of (sequences form) blocks ++ stub) in
    let b = size-append far (entries_of (sequences form) blocks) stub in
    let c = entries_size far form blocks in
    omega (arith, a, b, c)

-- ---- the file
read : File far_bytes far_test
unfolding far_bytes number_bytes opened_verdict read_of
read = is_file far_bytes far_test refl refl

fit : (k : ℕ) → slice_index far_bytes k < 256
unfolding far_bytes number_bytes
fit = are_bytes far_bytes refl

known : IsCodeOf far_test 0x10000 far_code
unfolding number_among decode_of ins_of
known = record {
  range = refl;
  grain = refl;
  stand = (refl, (refl, (refl, (refl, (refl, (refl, (refl, (refl, (refl, (refl, (refl, (refl, (refl, (refl, (refl, (refl, (refl, (refl, tt))))))))))))))))));
}

sound : AreSoundOptions far_options
sound = record { some = omega arith; room = omega arith; most = omega arith; visits = omega arith; few_visits = omega arith; half = tt; lean = tt }

admitted : IsAdmitted far_test far_options
admitted = code.admitted far_test 0x10000 far_code known refl far_options refl refl (omega arith) (omega arith) (omega arith) (omega arith)

-- ---- its blocks
infixr 5 ◌beside◌
-- a fact on a first block and on those behind it
◌beside◌ : {A B : Type 0} → A → B → A × B
a beside b = (a, b)

are : AreBlocks far_test far_options far_blocks
are =
    let stop = made.stopping far_test 0x10000 far_code known far_options refl refl in
    let other = made.other far_test 0x10000 far_code known far_options refl refl in
    made.are_blocks far_test 0x10000 far_code known far_options refl refl far_blocks refl refl refl
    (inl (stop (take 0 far_code) ((lui_8 ∷ []) ∷ []) next_jump (drop 2 far_code) refl refl refl)
    beside inr (other (take 1 far_code) next_jump (drop 2 far_code) refl refl)
    beside inl (stop (take 2 far_code) ((ld_5 ∷ []) ∷ []) next_jump (drop 4 far_code) refl refl refl)
    beside inr (other (take 3 far_code) next_jump (drop 4 far_code) refl refl)
    beside inl (stop (take 4 far_code) ((lui_9 ∷ []) ∷ []) next_jump (drop 6 far_code) refl refl refl)
    beside inr (other (take 5 far_code) next_jump (drop 6 far_code) refl refl)
    beside inl (stop (take 6 far_code) ((sd_5 ∷ []) ∷ []) next_jump (drop 8 far_code) refl refl refl)
    beside inr (other (take 7 far_code) next_jump (drop 8 far_code) refl refl)
    beside inl (stop (take 8 far_code) ((ld_6 ∷ []) ∷ []) next_jump (drop 10 far_code) refl refl refl)
    beside inr (other (take 9 far_code) next_jump (drop 10 far_code) refl refl)
    beside inl (stop (take 10 far_code) ((mul ∷ []) ∷ []) next_jump (drop 12 far_code) refl refl refl)
    beside inr (other (take 11 far_code) next_jump (drop 12 far_code) refl refl)
    beside inl (stop (take 12 far_code) ((sub ∷ []) ∷ []) next_jump (drop 14 far_code) refl refl refl)
    beside inr (other (take 13 far_code) next_jump (drop 14 far_code) refl refl)
    beside inl (stop (take 14 far_code) [] call (drop 15 far_code) refl refl refl)
    beside inl (stop (take 15 far_code) [] ecall (drop 16 far_code) refl refl refl)
    beside inl (stop (take 16 far_code) ((add ∷ []) ∷ []) jalr (drop 18 far_code) refl refl refl)
    beside inr (other (take 17 far_code) jalr (drop 18 far_code) refl refl)
    beside tt)

-- ---- its size
near_size : sum_of_sizes false (items_in far_test far_options false far_blocks) ≡ 1182564
near_size = code_counted far_test far_options false far_blocks ∙ refl

far_size : sum_of_sizes true (items_in far_test far_options true far_blocks) ≡ 1182628
far_size = code_counted far_test far_options true far_blocks ∙ refl

far : is_far_code far_test far_options far_blocks ≡ true
far = ap (nat_lt MAX_NEAR_CODE_BYTES) near_size

size : code_size far_test far_options far_blocks ≡ 1182628
size = ap (λ b. sum_of_sizes b (items_in far_test far_options b far_blocks)) far ∙ far_size

-- ---- its plan
told : IsPlanOf (compared far_test far_options far_blocks) far_test far_options far_blocks far_plan
told = record {
  base = refl;
  distance = refl;
  words = refl;
  code_bytes = sym size;
  entries = refl;
  pieces = refl;
  span = refl;
  bounds = ap (λ b. bounds_of (shape_of far_test far_options b)) (sym far);
}

-- ---- the promises
words : (words : List ℕ) × IsWovenTest far_test far_options far_blocks words
words = tests_have_words far_test far_options far_blocks (read_sound far_bytes far_test fit read) sound admitted are (omega (arith, size))

pub far_promised : FarPromised
far_promised = record {
  read = read;
  words = words.0;
  woven = words.1;
  far = far;
  table = refl;
  told = told;
  kept = tests_kept far_test far_options far_blocks words.0 far_plan words.1 told any_address (any_reached far_test far_options refl);
  landed = tests_landed far_test far_options far_blocks words.0 words.1 any_address (any_reached far_test far_options refl);
  caught = tests_caught far_test far_options far_blocks words.0 far_plan words.1 told any_address (any_reached far_test far_options refl);
  clean = tests_clean far_test far_options far_blocks words.0 words.1 refl any_address (any_reached far_test far_options refl);
}

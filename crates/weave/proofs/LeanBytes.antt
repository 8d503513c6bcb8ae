-- The lean form of an admitted test has fewer than 2^64 - 1 bytes.
use Rattle.std.proofs.Common.{ℕ, suc, cond, length-append, ◌+◌, ◌-◌, ◌*◌, ◌%◌, ◌^◌, ◌<◌, ◌≤◌, Bool, true, false, List, [], ◌∷◌, ◌++◌, length, arith}
use Rattle.std.specs.Prelude.{◌==◌, ℤ, pos, neg_ℤ}
use Rattle.rv_isa.specs.declared.class.Class.TheVariants as class
use Rattle.qed_model.specs.declared.item.Item.{Item}
use Rattle.qed_model.specs.declared.item.Item.TheVariants.{Plain, Go}
use Rattle.tests.specs.Admission.DataRanges.{data_ranges, ElfFile}
use Rattle.tests.specs.Admission.Refusals.{IsAdmitted}
use Rattle.tests.specs.Elf.Sound.{AreLoads}
use Rattle.machine.specs.Loading.{load_segments}
use Rattle.machine.specs.Step.{target, Ins, Class, class_of, ins, Addi, Andi}
use Rattle.qed_model.specs.Weave.Blocks.{AreBlocks, begins_at, Options}
use Rattle.qed_model.specs.Weave.Code.{Sequences, block_items, body_of, entries_of, pieces_of}
use Rattle.qed_model.specs.Weave.Forms.{mirror_of, form_of}
use Rattle.qed_model.specs.Weave.Lean.{enter, call_at, is_short, turn_by, turn, goes, called, check_distance, look_up, look_again, first_word, done, check, guard_address, guard_value, mirrored_store, opposite, check_way, taken, leave, leave_as}
use Rattle.qed_model.specs.Weave.LeanCode.{Lean, is_store, store_part, both_parts, parts_with, worded, fall_words, lean_of, items_with, lean_items}
use Rattle.tests.specs.Admission.Places.{base_of, image_of, half_of, code_place}
use Rattle.machine.specs.Offsets.{distance_between}
use Rattle.qed_model.specs.Weave.Placed.{sum_of_sizes, entry_of}
use Rattle.qed_model.specs.Weave.SoundOptions.{AreSoundOptions}
use Rattle.qed_model.specs.Weave.Sequences.{Form, Block, End, Falls, Stops, body_length, original, each_part, guard, links, before_end, visit, stub, SIGNATURE, TEMPORARY}
use Rattle.qed_model.proofs.Lemmas.{size-append}
use Rattle.weave.proofs.BlockCount.{weight}
use Rattle.weave.proofs.CodeBytes.{few}
use Rattle.weave.proofs.DataWords.{few_data}
use Rattle.weave.proofs.ItemBytes.{cond_small, guard_small, original_small, mirror_small, each_small, visit_small, links_small, end_small}

abbrev size : List Item → ℕ
size items = sum_of_sizes false items

-- ---- turns
turn_small : (a t : ℕ) → size (turn a t) ≤ 12
turn_small a t =
    let d = distance_between a t in
    cond_small false (a == t) [] (turn_by d) 12 (omega arith) (cond_small false (is_short d) _ _ 12 (omega arith) (omega arith))

goes_small : (a t : ℕ) → size (goes a t) ≤ 16
goes_small a t = omega (arith, size-append false (turn a t) (Go t ∷ []), turn_small a t)

falls_small : (leader : ℕ → Bool) (a t : ℕ) → size (turn a t ++ fall_words leader t) ≤ 16
falls_small leader a t = omega (arith, size-append false (turn a t) (fall_words leader t), turn_small a t, cond_small false (leader t) [] (Go t ∷ []) 4 (omega arith) (omega arith))

-- ---- the entries
enter_small : (land ticks : Bool) (a most : ℕ) (d : ℤ) → size (enter land ticks a most d) ≤ 40
enter_small true true a most d = omega arith
enter_small true false a most d = omega arith
enter_small false true a most d = omega arith
enter_small false false a most d = omega arith

-- ---- the check, behind what runs first
check_small : (base d every round : ℕ) (spans : List (ℕ × ℕ)) → round ≤ 1024 → length spans ≤ 67_108_864 → size (check base d every round spans) ≤ 1_374_389_559_600
check_small base d every round spans few ranges =
    let last : List Item = done (first_word base spans) every ++ (look_up SIGNATURE ++ look_again d) in
    omega (arith, visit_small false round spans few ranges, size-append false (visit round spans) last)

-- ---- a piece
both_small : (diverse : Bool) (is : List Ins) (at : ℕ) → size (both_parts diverse is at) ≤ 56 * length is
both_small diverse is at =
    let x = each_part original is at in
    let y = each_part (mirror_of diverse) is at in
    omega (arith, each_small false original (original_small false) is at, each_small false (mirror_of diverse) (mirror_small false diverse) is at, size-append false x y)

store_small : (i : Ins) → size (store_part i) ≤ 32
store_small i = omega (arith, size-append false (guard_value i) (Plain i ∷ mirrored_store i ∷ []), cond_small false (i.rs2 == i.rs1) [] (guard i.rs2) 8 (omega arith) (guard_small false i.rs2))

parts_small : (diverse : Bool) (run : List Ins) (at : ℕ) (is : List Ins) → size (parts_with diverse run at is) ≤ 56 * (length run + length is)
parts_small diverse run at [] = let r = both_small diverse run at in omega (arith, r)
parts_small diverse run at (i ∷ is) = by (is_store (class_of i.kind)) (parts_small diverse [] (at + 4 * length run + 4) is) (parts_small diverse (run ++ (i ∷ [])) at is) where
  by :
      (b : Bool) → size (parts_with diverse [] (at + 4 * length run + 4) is) ≤ 56 * (0 + length is)
      → size (parts_with diverse (run ++ (i ∷ [])) at is) ≤ 56 * (length (run ++ (i ∷ [])) + length is)
      → size (cond b (both_parts diverse run at ++ (store_part i ++ parts_with diverse [] (at + 4 * length run + 4) is)) (parts_with diverse (run ++ (i ∷ [])) at is)) ≤ 56 * (length run + suc (length is))
  by true e f =
      let rest = parts_with diverse [] (at + 4 * length run + 4) is in
      let r = both_small diverse run at in
      let s = store_small i in
      omega (arith, r, s, e, size-append false (both_parts diverse run at) (store_part i ++ rest), size-append false (store_part i) rest)
  by false e f = let l = length-append run (i ∷ []) in omega (arith, f, l)

-- ---- the leaves
module _ (d : ℕ) (before : List Item) (few : size before ≤ 2_952_790_120) (leader : ℕ → Bool) (a : ℕ) where
  leave_small : (c : Class) (i : Ins) (at : ℕ) → size (leave_as d before (fall_words leader) c i a at) ≤ 2_952_790_260
  leave_small class.End i at = omega (arith, few, size-append false before (Plain i ∷ []))
  leave_small class.Jump i at = omega (arith, links_small false i at, goes_small a (target i at), size-append false (links i at) (goes a (target i at)))
  leave_small class.Branch i at =
      let n = (at + 4) % 2 ^ 64 in
      let missed : List Item = check_way (opposite i.kind) i ++ (turn a n ++ fall_words leader n) in
      omega (arith, goes_small a (target i at), falls_small leader a n, size-append false (goes a (target i at)) missed)
  leave_small class.JumpReg i at =
      let ups : List Item = look_up TEMPORARY ++ look_again d in
      let aim : List Item = Plain (ins Addi TEMPORARY i.rs1 0 i.imm) ∷ Plain (ins Andi TEMPORARY TEMPORARY 0 (neg_ℤ (pos 2))) ∷ (called ++ (links i at ++ ups)) in
      omega (arith, guard_small false i.rs1, links_small false i at, size-append false (guard i.rs1) aim, size-append false (links i at) ups)
  leave_small _ i at = omega arith

  ends_small : (e : End) (at : ℕ) → size (leave d before (fall_words leader) e a at) ≤ 2_952_790_260
  ends_small Falls at = omega (arith, falls_small leader a at)
  ends_small (Stops i) at = leave_small (class_of i.kind) i at

-- ---- the entries of blocks
module _ (f : ElfFile) (o : Options) (round : o.round ≤ 1024) (spans : length (data_ranges (image_of f)) ≤ 67_108_864) (base : ℕ) (entry : ℕ → ℕ) (l : Lean) (leader : ℕ → Bool) where
  abbrev form : Form
  form = form_of f o false

  abbrev s : Sequences
  s = worded form base entry l leader

  pieces_small : (ps : List (List Ins)) (at : ℕ) → size (pieces_of s ps at) ≤ 56 * body_length ps
  pieces_small [] at = omega arith
  pieces_small (p ∷ ps) at =
      omega (arith, parts_small l.diverse [] at p, size-append false (parts_with l.diverse [] at p) (pieces_of s ps (at + 4 * length p)), pieces_small ps (at + 4 * length p))

  before_small : size (before_end form) ≤ 2_952_790_120
  before_small = end_small form (mirror_small false o.diverse) round spans

  entry_small : (b : Block) → size (block_items s b) ≤ 1_374_389_559_400 * (body_length b.body + length b.body + 1)
  entry_small b =
      let n = b.start + 4 * body_length b.body in
      let a = l.start_of b.end n in
      let d = distance_between (entry b.start + call_at l.land) l.check in
      omega (arith, size-append false (s.enter b.start) (body_of s b.body b.end b.start), enter_small l.land (l.ticks b.start) b.start (l.most b.start) d, size-append false (pieces_of s b.body b.start) (s.leave b.end n), pieces_small b.body b.start, ends_small l.distance (before_end form) before_small leader a b.end n)

  entries_small : (bs : List Block) → size (entries_of s bs) ≤ 1_374_389_559_400 * weight bs
  entries_small [] = omega arith
  entries_small (b ∷ bs) = omega (arith, size-append false (block_items s b) (entries_of s bs), entry_small b, entries_small bs)

  pub code_small : (d a : ℕ) (bs : List Block) → weight bs ≤ 5_242_880 → size (s.first d a ++ (entries_of s bs ++ stub)) < 2 ^ 64 - 1
  code_small d a bs light =
      omega (
        arith,
        light,
        check_small base d l.every o.round (data_ranges (image_of f)) round spans,
        entries_small bs,
        size-append false (s.first d a) (entries_of s bs ++ stub),
        size-append false (entries_of s bs) stub,
      )

module _ (f : ElfFile) (o : Options) (sound : AreSoundOptions o) (loads : AreLoads (load_segments f.segments)) (admitted : IsAdmitted f o) (blocks : List Block) (are : AreBlocks f o blocks) where
  pub few_lean_bytes : (every : ℕ) → size (lean_items f o every blocks) < 2 ^ 64 - 1
  few_lean_bytes every =
      code_small f o sound.few_visits (few_data f o sound loads admitted).ranges (base_of (image_of f)) (entry_of false (code_place o.half (image_of f)) (items_with f o every blocks (λ a. 0))) (lean_of f o every blocks) (begins_at blocks) (half_of o.half (image_of f)) f.entry blocks
      (few f o sound loads admitted blocks are)

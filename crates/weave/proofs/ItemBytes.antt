-- The most bytes of the entries of blocks, by their instructions and pieces, for at most 1024 visits behind a piece and
-- 67,108,864 data ranges.
use Rattle.std.proofs.Common.{◌≡◌, ℕ, zero, suc, ◌+◌, ◌*◌, ◌≤◌, Bool, true, false, cond, List, [], ◌∷◌, ◌++◌, length, refl, arith}
use Rattle.std.specs.Prelude.{◌==◌, ◌%◌, ◌^◌, nat_lt, ℤ, pos, neg_ℤ}
use Rattle.std.specs.List.{list_all}
use Rattle.std.proofs.lemmas.Bool.{ltb-true}
use Rattle.std.proofs.Math.Nat.{mul-le-mul, suc-mul}
use Rattle.rv_isa.specs.declared.class.Class.TheVariants as class
use Rattle.qed_model.specs.declared.item.Item.{Item}
use Rattle.qed_model.specs.declared.item.Item.TheVariants.{Plain, Constant, Go}
use Rattle.machine.specs.Step.{target, Ins, Class, class_of}
use Rattle.machine.specs.Table.{ins, kinds, Kind, Addi, Andi, Add, Beq, Jalr, Lw}
use Rattle.qed_model.specs.declared.diverse.Part.{Part}
use Rattle.qed_model.specs.Weave.Diverse.{part_items, parts_of, diverse_as, diverse}
use Rattle.qed_model.specs.Weave.Placed.{go_size, sum_of_sizes}
use Rattle.qed_model.specs.Weave.Sequences.{Form, Block, End, Falls, Stops, fired_check, guard, guards_of, compare, wraps, visit_word, times, visit, sweep_range, sweep, original_as, original, mirror_as, mirrored, each_part, piece, links, before_end, leave_as, leave, go_on, body_length, prologue, PAIR_DISTANCE, DISTANCE, TEMPORARY, SPARE, pair}
use Rattle.machine.specs.Operands.{is_auipc}
use Rattle.qed_model.specs.Weave.Code.{block_items, entries_of, pieces_of, sequences}
use Rattle.qed_model.specs.Weave.Forms.{mirror_of}
use Rattle.machine.proofs.Lemmas.{each_kind}
use Rattle.qed_model.proofs.Lemmas.{size-append}
use Rattle.weave.proofs.BlockCount.{weight}

-- ---- other mirror parts have at most seven words
parts_tested : (n : ℤ) → list_all (λ k. nat_lt (length (parts_of k n)) 8) kinds ≡ true
parts_tested n = refl

few_parts : (k : Kind) (n : ℤ) → length (parts_of k n) ≤ 7
few_parts k n = let h = ltb-true (length (parts_of k n)) 8 (each_kind (λ j. nat_lt (length (parts_of j n)) 8) (parts_tested n) k) in omega (arith, h)

-- ---- items in either form
go_small : (far : Bool) → go_size far ≤ 8
go_small true = omega arith
go_small false = omega arith

module _ (far : Bool) where
  abbrev size : List Item → ℕ
  size items = sum_of_sizes far items

  pub cond_small : (b : Bool) (xs ys : List Item) (n : ℕ) → size xs ≤ n → size ys ≤ n → size (cond b xs ys) ≤ n
  cond_small true xs ys n h k = h
  cond_small false xs ys n h k = k

  -- ---- checks
  pub guard_small : (r : ℕ) → size (guard r) ≤ 8
  guard_small r = cond_small (r == 0) [] (Plain (ins Beq 0 r (r + PAIR_DISTANCE) (pos 8)) ∷ fired_check ∷ []) 8 (omega arith) (omega arith)

  pub guards_small : (i : Ins) → size (guards_of i) ≤ 16
  guards_small i =
      let a = guard_small i.rs1 in
      let b = cond_small (i.rs2 == i.rs1) [] (guard i.rs2) 8 (omega arith) (guard_small i.rs2) in
      omega (arith, a, b, size-append far (guard i.rs1) (cond (i.rs2 == i.rs1) [] (guard i.rs2)))

  -- ---- both parts of an instruction
  pub original_small : (i : Ins) (at : ℕ) → size (original i at) ≤ 28
  original_small i at = cond_small (is_auipc i.kind) (Constant i.rd (target i at) ∷ []) (original_as (class_of i.kind) i at) 28 (omega arith) (by (class_of i.kind)) where
    by : (c : Class) → size (original_as c i at) ≤ 28
    by class.Load = omega (arith, guard_small i.rs1, size-append far (guard i.rs1) (Plain i ∷ []))
    by class.Store = omega (arith, guards_small i, size-append far (guards_of i) (Plain i ∷ []))
    by c = omega arith

  mirrored_small : (i : Ins) (at : ℕ) → size (mirrored i at) ≤ 28
  mirrored_small i at = cond_small (is_auipc i.kind) (Constant (pair i.rd) (target i at) ∷ []) (mirror_as (class_of i.kind) i at) 28 (omega arith) (by (class_of i.kind)) where
    by : (c : Class) → size (mirror_as c i at) ≤ 28
    by class.Load = omega arith
    by class.Store = omega arith
    by class.Fence = omega arith
    by c = omega arith

  pub parts_size : (i : Ins) (ps : List Part) → size (part_items i ps) ≡ 4 * length ps
  parts_size i [] = omega arith
  parts_size i (p ∷ ps) = omega (arith, parts_size i ps)

  diverse_small : (i : Ins) (at : ℕ) → size (diverse i at) ≤ 28
  diverse_small i at = by (parts_of i.kind i.imm) (few_parts i.kind i.imm) where
    by : (ps : List Part) → length ps ≤ 7 → size (diverse_as ps i at) ≤ 28
    by [] h = mirrored_small i at
    by (p ∷ ps) h = omega (arith, parts_size i (p ∷ ps), h)

  pub mirror_small : (other : Bool) (i : Ins) (at : ℕ) → size (mirror_of other i at) ≤ 28
  mirror_small true i at = diverse_small i at
  mirror_small false i at = mirrored_small i at

  pub each_small : (part : Ins → ℕ → List Item) → ((i : Ins) (at : ℕ) → size (part i at) ≤ 28) → (is : List Ins) (at : ℕ) → size (each_part part is at) ≤ 28 * length is
  each_small part h [] at = omega arith
  each_small part h (i ∷ is) at = omega (arith, size-append far (part i at) (each_part part is (at + 4)), h i at, each_small part h is (at + 4))

  -- ---- visits and the sweep
  pub wraps_size : (rs : List (ℕ × ℕ)) (first : ℕ) → size (wraps rs first) ≡ 20 * length rs
  wraps_size [] first = omega arith
  wraps_size (r ∷ []) first = omega arith
  wraps_size (r ∷ n ∷ rs) first = omega (arith, wraps_size (n ∷ rs) first)

  word_small : (rs : List (ℕ × ℕ)) → size (visit_word rs) ≤ 24 + 20 * length rs
  word_small [] = omega arith
  word_small (r ∷ rs) = omega (arith, wraps_size (r ∷ rs) r.0)

  pub times_size : (n : ℕ) (is : List Item) → size (times n is) ≡ n * size is
  times_size zero is = omega arith
  times_size (suc n) is = omega (arith, size-append far is (times n is), times_size n is, suc-mul n (size is))

  -- a visit takes 24 bytes, and 20 for each range; there are 1024 at most
  pub visit_small : (n : ℕ) (rs : List (ℕ × ℕ)) → n ≤ 1024 → length rs ≤ 67_108_864 → size (visit n rs) ≤ 1_374_389_559_296
  visit_small n rs h k =
      let w = word_small rs in
      let one : size (visit_word rs) ≤ 1_342_177_304 = omega (arith, w, k) in
      let m : n * size (visit_word rs) ≤ 1024 * 1_342_177_304 = mul-le-mul h one in
      omega (arith, m, times_size n (visit_word rs))

  pub sweep_size : (rs : List (ℕ × ℕ)) → size (sweep rs) ≡ 44 * length rs
  sweep_size [] = omega arith
  sweep_size (r ∷ rs) = omega (arith, size-append far (sweep_range r) (sweep rs), sweep_size rs)

  -- ---- the leave
  pub links_small : (i : Ins) (at : ℕ) → size (links i at) ≤ 16
  links_small i at = cond_small (i.rd == 0) [] (Constant i.rd ((at + 4) % 2 ^ 64) ∷ Constant (pair i.rd) ((at + 4) % 2 ^ 64) ∷ []) 16 (omega arith) (omega arith)

  -- ---- what runs first
  pub prologue_small : (d : ℕ) (spans : List (ℕ × ℕ)) (a : ℕ) → size (prologue d spans a) ≤ 132
  prologue_small d [] a = omega (arith, go_small far)
  prologue_small d (r ∷ rs) a = omega (arith, go_small far)

-- ---- the entries of blocks
module _ (form : Form) (mirror : (i : Ins) (at : ℕ) → sum_of_sizes form.far (form.mirror i at) ≤ 28) (round : form.round ≤ 1024) (spans : length form.spans ≤ 67_108_864) where
  abbrev bytes : List Item → ℕ
  bytes items = sum_of_sizes form.far items

  -- 28 bytes for each part of an instruction, 104 for the comparison, and the visits
  piece_small : (is : List Ins) (at : ℕ) → bytes (piece form is at) ≤ 56 * length is + 1_374_389_559_400
  piece_small is at =
      let far = form.far in
      let a = each_small far original (original_small far) is at in
      let b = each_small far form.mirror mirror is at in
      let v = visit_small far form.round form.spans round spans in
      let x = size-append far (each_part original is at) (each_part form.mirror is at ++ (compare ++ visit form.round form.spans)) in
      let y = size-append far (each_part form.mirror is at) (compare ++ visit form.round form.spans) in
      let z = size-append far compare (visit form.round form.spans) in
      omega (arith, a, b, v, x, y, z)

  pieces_small : (ps : List (List Ins)) (at : ℕ) → bytes (pieces_of (sequences form) ps at) ≤ 56 * body_length ps + 1_374_389_559_400 * length ps
  pieces_small [] at = omega arith
  pieces_small (p ∷ ps) at =
      omega (arith, size-append form.far (piece form p at) (pieces_of (sequences form) ps (at + 4 * length p)), piece_small p at, pieces_small ps (at + 4 * length p))

  -- the sweep has 44 bytes for each range
  pub end_small : bytes (before_end form) ≤ 2_952_790_120
  end_small = cond_small form.far form.sweep (sweep form.spans ++ compare) [] 2_952_790_120 (omega (arith, size-append form.far (sweep form.spans) compare, sweep_size form.far form.spans, spans)) (omega arith)

  leave_small : (c : Class) (i : Ins) (at : ℕ) → bytes (leave_as form c i at) ≤ 2_952_790_124
  leave_small class.End i at = omega (arith, end_small, size-append form.far (before_end form) (Plain i ∷ []))
  leave_small class.Jump i at = omega (arith, links_small form.far i at, go_small form.far, size-append form.far (links i at) (go_on (target i at)))
  leave_small class.Branch i at =
      let goes : List Item = Plain (ins i.kind 0 i.rs1 i.rs2 (pos (4 + go_size form.far))) ∷ Go ((at + 4) % 2 ^ 64) ∷ Go (target i at) ∷ [] in
      omega (arith, guards_small form.far i, go_small form.far, size-append form.far (guards_of i) goes)
  leave_small class.JumpReg i at =
      let goes : List Item = Plain (ins Add SPARE TEMPORARY DISTANCE (pos 0)) ∷ Plain (ins Add SPARE SPARE DISTANCE (pos 0)) ∷ Plain (ins Lw TEMPORARY SPARE 0 (pos 0)) ∷ Plain (ins Add TEMPORARY TEMPORARY SPARE (pos 0)) ∷ Plain (ins Jalr 0 TEMPORARY 0 (pos 0)) ∷ [] in
      let masks : List Item = Plain (ins Addi TEMPORARY i.rs1 0 i.imm) ∷ Plain (ins Andi TEMPORARY TEMPORARY 0 (neg_ℤ (pos 2))) ∷ (links i at ++ goes) in
      omega (arith, guard_small form.far i.rs1, links_small form.far i at, size-append form.far (guard i.rs1) masks, size-append form.far (links i at) goes)
  leave_small c i at = omega arith

  ends_small : (e : End) (at : ℕ) → bytes (leave form e at) ≤ 2_952_790_124
  ends_small Falls at = omega (arith, go_small form.far)
  ends_small (Stops i) at = leave_small (class_of i.kind) i at

  entry_small : (b : Block) → bytes (block_items (sequences form) b) ≤ 1_374_389_559_400 * (body_length b.body + length b.body + 1)
  entry_small b =
      let n = b.start + 4 * body_length b.body in
      omega (arith, size-append form.far (pieces_of (sequences form) b.body b.start) (leave form b.end n), pieces_small b.body b.start, ends_small b.end n)

  pub entries_small : (bs : List Block) → bytes (entries_of (sequences form) bs) ≤ 1_374_389_559_400 * weight bs
  entries_small [] = omega arith
  entries_small (b ∷ bs) = omega (arith, size-append form.far (block_items (sequences form) b) (entries_of (sequences form) bs), entry_small b, entries_small bs)

-- The items of new code have the bytes that blocks and instructions alone determine.
use Rattle.std.proofs.Common.{◌≡◌, ℕ, zero, suc, ◌+◌, ◌*◌, ◌^◌, Bool, true, false, cond, Option, Some, None, List, [], ◌∷◌, ◌++◌, length, map, sum, take, drop, refl, sym, ap, ◌∙◌, arith}
use Rattle.std.proofs.Common.{length-drop}
use Rattle.std.specs.Prelude.{All, ◌==◌, ◌%◌, pos, neg_ℤ}
use Rattle.std.proofs.lemmas.List.Elements.{All-head, All-tail}
use Rattle.std.proofs.lemmas.List.Sums.{sum_by-cons}
use Rattle.std.proofs.Math.Nat.{suc-mul}
use Rattle.rv_isa.specs.declared.class.Class.TheVariants as class
use Rattle.qed_model.specs.declared.item.Item.{Item}
use Rattle.qed_model.specs.declared.item.Item.TheVariants.{Plain, Constant, Go}
use Rattle.tests.specs.declared.options.Options.{Options}
use Rattle.tests.specs.declared.range.Range.{Range}
use Rattle.tests.specs.declared.test.Test.{Test}
use Rattle.machine.specs.Step.{target, Ins, Class, class_of, ins, Addi, Andi, Add, Beq, Jalr, Lw}
use Rattle.qed_model.specs.declared.diverse.Part.{Part}
use Rattle.qed_model.specs.Weave.Diverse.{parts_of, diverse_as}
use Rattle.qed_model.specs.Weave.Placed.{go_size, sum_of_sizes}
use Rattle.qed_model.specs.Weave.Pieces.{divided}
use Rattle.qed_model.specs.Weave.Sequences.{Form, fired_check, guard, guards_of, compare, visit_word, visit, sweep, original_as, original, mirror_as, mirrored, each_part, piece, links, before_end, leave_as, leave, go_on, body_length, prologue, PAIR_DISTANCE, DISTANCE, TEMPORARY, SPARE, pair}
use Rattle.machine.specs.Operands.{is_auipc}
use Rattle.qed_model.specs.Weave.Code.{block_items, entries_of, pieces_of, sequences}
use Rattle.qed_model.specs.Weave.Forms.{mirror_of}
use Rattle.qed_model.proofs.Lemmas.{size-append}
use Rattle.block_split.specs.declared.block.CodeBlock.{CodeBlock}
use Rattle.block_split.specs.Listed.{block_of, end_of}
use Rattle.plc_rounds.specs.Spans.{spans_of}
use Rattle.relinker.specs.Counted.{capped}
use Rattle.weave.specs.Fits.{FitsBlock}
use Rattle.weave.specs.Form.{form_with}
use Rattle.weave.specs.declared.size.Sizes.{Sizes}
use Rattle.weave.specs.Code.{items_of}
use Rattle.weave.specs.Sizes.{guard_room, guards_bytes, original_as_bytes, original_bytes, mirror_as_bytes, mirrored_bytes, diverse_bytes, mirror_bytes, body_bytes, visited_room, end_bytes, AreSizes, links_bytes, leave_as_bytes, leave_bytes, block_bytes, blocks_bytes, prologue_bytes}
use Rattle.weave.proofs.ItemBytes.{parts_size, wraps_size, times_size, sweep_size}

-- ---- instructions
module _ (far : Bool) where
  abbrev size : List Item → ℕ
  size items = sum_of_sizes far items

  size_cond : (b : Bool) (xs ys : List Item) (m n : ℕ) → size xs ≡ m → size ys ≡ n → size (cond b xs ys) ≡ cond b m n
  size_cond true xs ys m n h k = h
  size_cond false xs ys m n h k = k

  pub guard_is : (r : ℕ) → size (guard r) ≡ guard_room r
  guard_is r = size_cond (r == 0) [] (Plain (ins Beq 0 r (r + PAIR_DISTANCE) (pos 8)) ∷ fired_check ∷ []) 0 8 refl refl

  guards_are : (i : Ins) → size (guards_of i) ≡ guards_bytes i
  guards_are i =
      let b = size_cond (i.rs2 == i.rs1) [] (guard i.rs2) 0 (guard_room i.rs2) refl (guard_is i.rs2) in
      omega (arith, guard_is i.rs1, b, size-append far (guard i.rs1) (cond (i.rs2 == i.rs1) [] (guard i.rs2)))

  original_is : (i : Ins) (at : ℕ) → size (original i at) ≡ original_bytes i
  original_is i at = size_cond (is_auipc i.kind) (Constant i.rd (target i at) ∷ []) (original_as (class_of i.kind) i at) 8 (original_as_bytes (class_of i.kind) i) refl (by (class_of i.kind)) where
    by : (c : Class) → size (original_as c i at) ≡ original_as_bytes c i
    by class.Load = omega (arith, guard_is i.rs1, size-append far (guard i.rs1) (Plain i ∷ []))
    by class.Store = omega (arith, guards_are i, size-append far (guards_of i) (Plain i ∷ []))
    by c = refl

  mirrored_is : (i : Ins) (at : ℕ) → size (mirrored i at) ≡ mirrored_bytes i
  mirrored_is i at = size_cond (is_auipc i.kind) (Constant (pair i.rd) (target i at) ∷ []) (mirror_as (class_of i.kind) i at) 8 (mirror_as_bytes (class_of i.kind)) refl (by (class_of i.kind)) where
    by : (c : Class) → size (mirror_as c i at) ≡ mirror_as_bytes c
    by class.Load = refl
    by class.Store = refl
    by class.Fence = refl
    by c = refl

  diverse_is : (i : Ins) (at : ℕ) (ps : List Part) → size (diverse_as ps i at) ≡ diverse_bytes ps i
  diverse_is i at [] = mirrored_is i at
  diverse_is i at (p ∷ ps) = parts_size far i (p ∷ ps)

  pub mirror_is : (other : Bool) (i : Ins) (at : ℕ) → size (mirror_of other i at) ≡ mirror_bytes other i
  mirror_is true i at = diverse_is i at (parts_of i.kind i.imm)
  mirror_is false i at = mirrored_is i at

  parts_are : (other : Bool) (is : List Ins) (at : ℕ) → size (each_part original is at) + size (each_part (mirror_of other) is at) ≡ body_bytes other is
  parts_are other [] at = refl
  parts_are other (i ∷ is) at =
      omega (
        arith,
        size-append far (original i at) (each_part original is (at + 4)),
        size-append far (mirror_of other i at) (each_part (mirror_of other) is (at + 4)),
        original_is i at,
        mirror_is other i at,
        parts_are other is (at + 4),
      )

  -- ---- visits
  pub spans_many : (rs : List Range) → length (spans_of rs) ≡ length rs
  spans_many [] = refl
  spans_many (r ∷ rs) = ap suc (spans_many rs)

  word_is : (rs : List Range) → size (visit_word (spans_of rs)) ≡ visited_room rs
  word_is [] = refl
  word_is (r ∷ rs) = omega (arith, wraps_size far (spans_of (r ∷ rs)) r.start, spans_many rs)

  pub visit_is : (n : ℕ) (rs : List Range) → size (visit n (spans_of rs)) ≡ n * visited_room rs
  visit_is n rs = times_size far n (visit_word (spans_of rs)) ∙ ap (λ m. n * m) (word_is rs)

  end_is : (sweeps : Bool) (rs : List Range) → size (cond sweeps (sweep (spans_of rs) ++ compare) []) ≡ end_bytes sweeps rs
  end_is sweeps rs = size_cond sweeps (sweep (spans_of rs) ++ compare) [] (44 * length rs + 104) 0 (omega (arith, size-append far (sweep (spans_of rs)) compare, sweep_size far (spans_of rs), spans_many rs)) refl

  pub links_are : (i : Ins) (at : ℕ) → size (links i at) ≡ links_bytes i
  links_are i at = size_cond (i.rd == 0) [] (Constant i.rd ((at + 4) % 2 ^ 64) ∷ Constant (pair i.rd) ((at + 4) % 2 ^ 64) ∷ []) 0 16 refl refl

-- ---- bodies
body_split : (other : Bool) (n : ℕ) (is : List Ins) → body_bytes other (take n is) + body_bytes other (drop n is) ≡ body_bytes other is
body_split other zero is = omega arith
body_split other (suc n) [] = omega arith
body_split other (suc n) (i ∷ is) = omega (arith, body_split other n is)

-- ---- blocks
module _ (far : Bool) (o : Options) (span : List Range) (s : Sizes) (are : AreSizes s o far span) where
  abbrev form : Form
  form = form_with (spans_of span) o far

  abbrev bytes : List Item → ℕ
  bytes items = sum_of_sizes far items

  piece_is : (is : List Ins) (at : ℕ) → bytes (piece form is at) ≡ body_bytes s.diverse is + s.piece
  piece_is is at =
      let parts : bytes (each_part original is at) + bytes (each_part form.mirror is at) ≡ body_bytes s.diverse is = parts_are far o.diverse is at ∙ ap (λ d. body_bytes d is) (sym are.diverse) in
      let x = size-append far (each_part original is at) (each_part form.mirror is at ++ (compare ++ visit o.round (spans_of span))) in
      let y = size-append far (each_part form.mirror is at) (compare ++ visit o.round (spans_of span)) in
      let z = size-append far compare (visit o.round (spans_of span)) in
      omega (arith, parts, x, y, z, visit_is far o.round span, are.piece)

  pieces_are : (ns : List ℕ) (is : List Ins) (at : ℕ) → sum ns ≡ length is → bytes (pieces_of (sequences form) (divided ns is) at) ≡ body_bytes s.diverse is + length ns * s.piece
  pieces_are [] [] at e = omega arith
  pieces_are [] (i ∷ is) at e = absurd (omega (arith, e))
  pieces_are (n ∷ ns) is at e =
      let w : n + sum ns ≡ length is = sym (sum_by-cons (λ n. n) n ns) ∙ e in
      let later = at + 4 * length (take n is) in
      let rest = pieces_are ns (drop n is) later (omega (arith, w, length-drop n is)) in
      omega
      (arith, size-append far (piece form (take n is) at) (pieces_of (sequences form) (divided ns (drop n is)) later), piece_is (take n is) at, rest, body_split s.diverse n is, suc-mul (length ns) s.piece)

  leave_as_is : (c : Class) (i : Ins) (at : ℕ) → bytes (leave_as form c i at) ≡ leave_as_bytes s c i
  leave_as_is class.End i at = omega (arith, end_is far o.sweep span, size-append far (before_end form) (Plain i ∷ []), are.end)
  leave_as_is class.Jump i at = omega (arith, links_are far i at, are.go, size-append far (links i at) (go_on (target i at)))
  leave_as_is class.Branch i at =
      let goes : List Item = Plain (ins i.kind 0 i.rs1 i.rs2 (pos (4 + go_size far))) ∷ Go ((at + 4) % 2 ^ 64) ∷ Go (target i at) ∷ [] in
      omega (arith, guards_are far i, are.go, size-append far (guards_of i) goes)
  leave_as_is class.JumpReg i at =
      let goes : List Item = Plain (ins Add SPARE TEMPORARY DISTANCE (pos 0)) ∷ Plain (ins Add SPARE SPARE DISTANCE (pos 0)) ∷ Plain (ins Lw TEMPORARY SPARE 0 (pos 0)) ∷ Plain (ins Add TEMPORARY TEMPORARY SPARE (pos 0)) ∷ Plain (ins Jalr 0 TEMPORARY 0 (pos 0)) ∷ [] in
      let masks : List Item = Plain (ins Addi TEMPORARY i.rs1 0 i.imm) ∷ Plain (ins Andi TEMPORARY TEMPORARY 0 (neg_ℤ (pos 2))) ∷ (links i at ++ goes) in
      omega (arith, guard_is far i.rs1, links_are far i at, size-append far (guard i.rs1) masks, size-append far (links i at) goes)
  leave_as_is c i at = refl

  leave_is : (e : Option Ins) (at : ℕ) → bytes (leave form (end_of e) at) ≡ leave_bytes s e
  leave_is None at = omega (arith, are.go)
  leave_is (Some i) at = leave_as_is (class_of i.kind) i at

  pub block_is : (b : CodeBlock) → FitsBlock b → bytes (block_items (sequences form) (block_of b)) ≡ block_bytes s b
  block_is b fits =
      let ps = divided b.lengths b.body in
      let n = b.start + 4 * body_length ps in
      omega (arith, size-append far (pieces_of (sequences form) ps b.start) (leave form (end_of b.end) n), pieces_are b.lengths b.body b.start fits.whole, leave_is b.end n)

  blocks_are : (bs : List CodeBlock) → All FitsBlock bs → bytes (entries_of (sequences form) (map block_of bs)) ≡ blocks_bytes s bs
  blocks_are [] fit = refl
  blocks_are (b ∷ bs) fit =
      omega
      (arith, size-append far (block_items (sequences form) (block_of b)) (entries_of (sequences form) (map block_of bs)), block_is b (All-head FitsBlock b bs fit), blocks_are bs (All-tail FitsBlock b bs fit))

-- ---- what runs first
pub prologue_is : (far : Bool) (d : ℕ) (rs : List Range) (entry : ℕ) → sum_of_sizes far (prologue d (spans_of rs) entry) ≡ prologue_bytes (go_size far) rs
prologue_is far d [] entry = omega arith
prologue_is far d (r ∷ rs) entry = omega arith

-- ---- the whole code
pub code_is :
    (far : Bool) (o : Options) (t : Test) (s : Sizes) (blocks : List CodeBlock) → AreSizes s o far t.span → All FitsBlock blocks
    → sum_of_sizes far (items_of t o far blocks) ≡ prologue_bytes s.go t.span + blocks_bytes s blocks
code_is far o t s blocks are fit =
    let form = form_with (spans_of t.span) o far in
    omega (
      arith,
      size-append far (prologue t.distance (spans_of t.span) t.entry) (entries_of (sequences form) (map block_of blocks)),
      prologue_is far t.distance t.span t.entry,
      ap (λ g. prologue_bytes g t.span) are.go,
      blocks_are far o t.span s are blocks fit,
    )

-- the sum of the parts, each at most 2^64 - 1, with the stub
pub total_is :
    (sum first entries a b c d : ℕ) → sum ≡ first + entries → a ≡ first → b ≡ capped entries → c ≡ capped (b + a) → d ≡ capped (c + 4) → d ≡ capped (sum + 4)
total_is sum first entries a b c d e f g h k = omega (arith, e, f, g, h, k)

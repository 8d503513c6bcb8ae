-- No sequence of the lean form has a mark, and its entries stand where they do whatever distances its ticks take.
use Rattle.std.proofs.Common.{◌≡◌, ℕ, ◌+◌, ◌-◌, ◌*◌, ◌%◌, ◌^◌, Bool, true, false, cond, List, [], ◌∷◌, ◌++◌, length, refl, sym, ap, ◌∙◌}
use Rattle.std.specs.Prelude.{◌==◌, ℤ, pos, neg_ℤ, unwrap_or}
use Rattle.std.proofs.lemmas.List.{append_assoc}
use Rattle.rv_isa.specs.declared.class.Class.TheVariants as class
use Rattle.qed_model.specs.declared.item.Item.{Item}
use Rattle.qed_model.specs.declared.item.Item.TheVariants.{Mark, Plain, Constant, Go}
use Rattle.machine.specs.Step.{target, Ins, Class, class_of, ins, Lui, Addi, Andi}
use Rattle.qed_model.specs.Weave.Code.{Sequences, NoMarks, AreUnmarked, pieces_of, body_of, block_items, entries_of, code_of}
use Rattle.machine.specs.Offsets.{distance_between}
use Rattle.qed_model.specs.Weave.Placed.{sum_of_sizes, rows_from, entry_of, entry_at}
use Rattle.qed_model.specs.Weave.Sequences.{Form, End, Falls, Stops, Block, body_length, guard, original, each_part, check_sign, compare, visit, sweep, before_end, links, zero_from, stub, ORIGINALS, DISTANCE, CURSOR, SIGNATURE, TEMPORARY}
use Rattle.qed_model.specs.Weave.Forms.{mirror_of}
use Rattle.qed_model.specs.Weave.Lean.{is_short, turn_by, turn, called, look_up, look_again, first_word, done, check, call_at, tick, enter, goes, check_way, opposite, guard_value, mirrored_store, leave, leave_as, begin}
use Rattle.qed_model.specs.Weave.LeanCode.{Lean, is_store, store_part, both_parts, parts_with, worded, fall_words}
use Rattle.qed_model.proofs.Lemmas.{size-append}
use Rattle.weave_core.proofs.Lemmas.{unmarked_of, unmarked_cond, unmarked_guard, unmarked_original, unmarked_each, unmarked_visit, unmarked_sweep, unmarked_links, unmarked_zero, unmarked_append, rows_behind}

unmarked_turn : (a t : ℕ) → NoMarks (turn a t)
unmarked_turn a t = unmarked_cond (a == t) [] (turn_by (distance_between a t)) tt (by (distance_between a t)) where
  by : (d : ℤ) → NoMarks (turn_by d)
  by d = unmarked_cond (is_short d) _ _ tt tt

unmarked_goes : (a t : ℕ) → NoMarks (goes a t)
unmarked_goes a t = unmarked_append (turn a t) (Go t ∷ []) (unmarked_turn a t) tt

unmarked_fall : (leader : ℕ → Bool) (t : ℕ) → NoMarks (fall_words leader t)
unmarked_fall leader t = unmarked_cond (leader t) [] (Go t ∷ []) tt tt

unmarked_before : (form : Form) → NoMarks (before_end form)
unmarked_before form = unmarked_cond form.sweep (sweep form.spans ++ compare) [] (unmarked_append (sweep form.spans) compare (unmarked_sweep form.spans) tt) tt

unmarked_check : (base d every round : ℕ) (spans : List (ℕ × ℕ)) → NoMarks (check base d every round spans)
unmarked_check base d every round spans = unmarked_append (visit round spans) (done (first_word base spans) every ++ (look_up SIGNATURE ++ look_again d)) (unmarked_visit round spans) tt

unmarked_tick : (land : Bool) (a most : ℕ) (d : ℤ) → NoMarks (tick land a most d)
unmarked_tick true a most d = tt
unmarked_tick false a most d = tt

unmarked_begin : (d a : ℕ) → NoMarks (begin d a)
unmarked_begin d a =
    let last = Plain (ins Lui DISTANCE 0 0 (pos d)) ∷ Constant SIGNATURE a ∷ Plain (ins Addi CURSOR 0 0 (pos 2047)) ∷ Go a ∷ [] in
    unmarked_append (zero_from 1 ORIGINALS) (zero_from 17 ORIGINALS ++ last) (unmarked_zero ORIGINALS 1) (unmarked_append (zero_from 17 ORIGINALS) last (unmarked_zero ORIGINALS 17) tt)

-- ---- pieces
unmarked_store : (i : Ins) → NoMarks (store_part i)
unmarked_store i = unmarked_append (guard_value i) (Plain i ∷ mirrored_store i ∷ []) (unmarked_cond (i.rs2 == i.rs1) [] (guard i.rs2) tt (unmarked_guard i.rs2)) tt

unmarked_both : (diverse : Bool) (is : List Ins) (at : ℕ) → NoMarks (both_parts diverse is at)
unmarked_both diverse is at = unmarked_append (each_part original is at) (each_part (mirror_of diverse) is at) (unmarked_each original unmarked_original is at) (unmarked_each (mirror_of diverse) (unmarked_of diverse) is at)

unmarked_parts : (diverse : Bool) (run : List Ins) (at : ℕ) (is : List Ins) → NoMarks (parts_with diverse run at is)
unmarked_parts diverse run at [] = unmarked_both diverse run at
unmarked_parts diverse run at (i ∷ is) =
    let next = at + 4 * length run + 4 in
    let rest = parts_with diverse [] next is in
    unmarked_cond (is_store (class_of i.kind)) (both_parts diverse run at ++ (store_part i ++ rest)) (parts_with diverse (run ++ (i ∷ [])) at is)
    (unmarked_append (both_parts diverse run at) (store_part i ++ rest) (unmarked_both diverse run at) (unmarked_append (store_part i) rest (unmarked_store i) (unmarked_parts diverse [] next is)))
    (unmarked_parts diverse (run ++ (i ∷ [])) at is)

-- ---- leaves
module _ (d : ℕ) (before : List Item) (fall : ℕ → List Item) (no_before : NoMarks before) (no_fall : (t : ℕ) → NoMarks (fall t)) where
  unmarked_leave_as : (c : Class) (i : Ins) (a at : ℕ) → NoMarks (leave_as d before fall c i a at)
  unmarked_leave_as class.End i a at = unmarked_append before (Plain i ∷ []) no_before tt
  unmarked_leave_as class.Jump i a at = unmarked_append (links i at) (goes a (target i at)) (unmarked_links i at) (unmarked_goes a (target i at))
  unmarked_leave_as class.Branch i a at =
      let n = (at + 4) % 2 ^ 64 in
      unmarked_append (goes a (target i at)) (check_way (opposite i.kind) i ++ (turn a n ++ fall n)) (unmarked_goes a (target i at)) (unmarked_append (turn a n) (fall n) (unmarked_turn a n) (no_fall n))
  unmarked_leave_as class.JumpReg i a at =
      let last = look_up TEMPORARY ++ look_again d in
      unmarked_append (guard i.rs1) (Plain (ins Addi TEMPORARY i.rs1 0 i.imm) ∷ Plain (ins Andi TEMPORARY TEMPORARY 0 (neg_ℤ (pos 2))) ∷ (called ++ (links i at ++ last))) (unmarked_guard i.rs1) (unmarked_append (links i at) last (unmarked_links i at) tt)
  unmarked_leave_as _ i a at = tt

  unmarked_leave : (e : End) (a at : ℕ) → NoMarks (leave d before fall e a at)
  unmarked_leave Falls a at = unmarked_append (turn a at) (fall at) (unmarked_turn a at) (no_fall at)
  unmarked_leave (Stops i) a at = unmarked_leave_as (class_of i.kind) i a at

pub unmarked_worded : (form : Form) (base : ℕ) (entry : ℕ → ℕ) (l : Lean) (leader : ℕ → Bool) → AreUnmarked (worded form base entry l leader)
unmarked_worded form base entry l leader = record {
  first = λ d a. unmarked_append (begin d a) (check base d l.every form.round form.spans) (unmarked_begin d a) (unmarked_check base d l.every form.round form.spans);
  enter = λ a.
      let t = tick l.land a (l.most a) (distance_between (entry a + call_at l.land) l.check) in
      unmarked_append (cond l.land (check_sign a) []) (cond (l.ticks a) t []) (unmarked_cond l.land (check_sign a) [] tt tt) (unmarked_cond (l.ticks a) t [] (unmarked_tick l.land a (l.most a) (distance_between (entry a + call_at l.land) l.check)) tt);
  piece = λ is at. unmarked_parts l.diverse [] at is;
  leave = λ e at. unmarked_leave l.distance (before_end form) (fall_words leader) (unmarked_before form) (unmarked_fall leader) e (l.start_of e at) at;
}

-- ---- where the entries stand
module _ (form : Form) (base : ℕ) (l : Lean) (leader : ℕ → Bool) (x y : ℕ → ℕ) where
  abbrev s : (ℕ → ℕ) → Sequences
  s entry = worded form base entry l leader

  pieces_same : (ps : List (List Ins)) (at : ℕ) → pieces_of (s x) ps at ≡ pieces_of (s y) ps at
  pieces_same [] at = refl
  pieces_same (p ∷ ps) at = ap (λ k. (s x).piece p at ++ k) (pieces_same ps (at + 4 * length p))

  body_same : (b : Block) → body_of (s x) b.body b.end b.start ≡ body_of (s y) b.body b.end b.start
  body_same b = ap (λ k. k ++ (s x).leave b.end (b.start + 4 * body_length b.body)) (pieces_same b.body b.start)

  -- what stands behind the mark of a block takes the same bytes
  abbrev behind : (ℕ → ℕ) → Block → List Item
  behind entry b = (s entry).enter b.start ++ body_of (s entry) b.body b.end b.start

  behind_size : (b : Block) → sum_of_sizes false (behind x b) ≡ sum_of_sizes false (behind y b)
  behind_size b = by l.land (l.ticks b.start) where
    by : (land ticks : Bool) → sum_of_sizes false (enter land ticks b.start (l.most b.start) (distance_between (x b.start + call_at land) l.check) ++ body_of (s x) b.body b.end b.start) ≡ sum_of_sizes false (enter land ticks b.start (l.most b.start) (distance_between (y b.start + call_at land) l.check) ++ body_of (s y) b.body b.end b.start)
    by true true = ap (λ k. 8 + (4 + (4 + (4 + (4 + (4 + (4 + (4 + sum_of_sizes false k)))))))) (body_same b)
    by true false = ap (λ k. 8 + (4 + (4 + sum_of_sizes false k))) (body_same b)
    by false true = ap (λ k. 4 + (4 + (4 + (8 + (4 + (4 + sum_of_sizes false k)))))) (body_same b)
    by false false = ap (sum_of_sizes false) (body_same b)

  block_size : (b : Block) → sum_of_sizes false (block_items (s x) b) ≡ sum_of_sizes false (block_items (s y) b)
  block_size b = ap (λ n. 0 + n) (behind_size b)

  sizes_same : (bs : List Block) → sum_of_sizes false (entries_of (s x) bs) ≡ sum_of_sizes false (entries_of (s y) bs)
  sizes_same [] = refl
  sizes_same (b ∷ bs) =
      size-append false (block_items (s x) b) (entries_of (s x) bs)
      ∙ ap (λ n. n + sum_of_sizes false (entries_of (s x) bs)) (block_size b)
      ∙ ap (λ n. sum_of_sizes false (block_items (s y) b) + n) (sizes_same bs)
      ∙ sym (size-append false (block_items (s y) b) (entries_of (s y) bs))

  no_marks : (entry : ℕ → ℕ) (b : Block) → NoMarks (behind entry b)
  no_marks entry b =
      let u = unmarked_worded form base entry l leader in
      unmarked_append ((s entry).enter b.start) (body_of (s entry) b.body b.end b.start) (u.enter b.start)
      (unmarked_append (pieces_of (s entry) b.body b.start) ((s entry).leave b.end (b.start + 4 * body_length b.body)) (pieces b.body b.start) (u.leave b.end (b.start + 4 * body_length b.body))) where
        pieces : (ps : List (List Ins)) (at : ℕ) → NoMarks (pieces_of (s entry) ps at)
        pieces [] at = tt
        pieces (p ∷ ps) at = unmarked_append ((s entry).piece p at) (pieces_of (s entry) ps (at + 4 * length p)) ((unmarked_worded form base entry l leader).piece p at) (pieces ps (at + 4 * length p))

  rows_same : (bs : List Block) (at : ℕ) → rows_from false at (entries_of (s x) bs ++ stub) ≡ rows_from false at (entries_of (s y) bs ++ stub)
  rows_same [] at = refl
  rows_same (b ∷ bs) at =
      let of = λ (e : ℕ → ℕ). entries_of (s e) bs ++ stub in
      ap (rows_from false at) (append_assoc (block_items (s x) b) (entries_of (s x) bs) stub)
      ∙ ap (λ k. record { input = b.start; output = at } ∷ k) (rows_behind false at (behind x b) (of x) (no_marks x b)
      ∙ ap (λ n. rows_from false (at + n) (of x)) (behind_size b)
      ∙ rows_same bs (at + sum_of_sizes false (behind y b))
      ∙ sym (rows_behind false at (behind y b) (of y) (no_marks y b)))
      ∙ sym (ap (rows_from false at) (append_assoc (block_items (s y) b) (entries_of (s y) bs) stub))

  -- so each address has the same entry
  module _ (d a : ℕ) (bs : List Block) where
    abbrev first : List Item
    first = (s x).first d a

    no_first : NoMarks first
    no_first = (unmarked_worded form base x l leader).first d a

    pub code_rows : (at : ℕ) → rows_from false at (code_of (s x) d a bs) ≡ rows_from false at (code_of (s y) d a bs)
    code_rows at =
        rows_behind false at first (entries_of (s x) bs ++ stub) no_first ∙ rows_same bs (at + sum_of_sizes false first) ∙ sym (rows_behind false at first (entries_of (s y) bs ++ stub) no_first)

    pub code_size : sum_of_sizes false (code_of (s x) d a bs) ≡ sum_of_sizes false (code_of (s y) d a bs)
    code_size = size (entries_of (s x) bs) ∙ ap (λ n. sum_of_sizes false first + (n + sum_of_sizes false stub)) (sizes_same bs) ∙ sym (size (entries_of (s y) bs)) where
      size : (es : List Item) → sum_of_sizes false (first ++ (es ++ stub)) ≡ sum_of_sizes false first + (sum_of_sizes false es + sum_of_sizes false stub)
      size es = size-append false first (es ++ stub) ∙ ap (λ n. sum_of_sizes false first + n) (size-append false es stub)

    pub entry_same : (at t : ℕ) → entry_of false at (code_of (s x) d a bs) t ≡ entry_of false at (code_of (s y) d a bs) t
    entry_same at t = ap (λ rows. unwrap_or (entry_at rows t) (at + sum_of_sizes false (code_of (s x) d a bs) - 4)) (code_rows at) ∙ ap (λ n. unwrap_or (entry_at (rows_from false at (code_of (s y) d a bs)) t) (at + n - 4)) code_size

  -- if both know the same entries, the code is the same
  pub same_code : ((t : ℕ) → x t ≡ y t) → (d a : ℕ) (bs : List Block) → code_of (s x) d a bs ≡ code_of (s y) d a bs
  same_code e d a bs = ap (λ k. (s x).first d a ++ (k ++ stub)) (same bs) where
    block_same : (b : Block) → block_items (s x) b ≡ block_items (s y) b
    block_same b = ap (λ n. Mark b.start ∷ ((s (λ t. n)).enter b.start ++ body_of (s x) b.body b.end b.start)) (e b.start) ∙ ap (λ k. Mark b.start ∷ ((s y).enter b.start ++ k)) (body_same b)

    same : (bs : List Block) → entries_of (s x) bs ≡ entries_of (s y) bs
    same [] = refl
    same (b ∷ bs) = ap (λ k. k ++ entries_of (s x) bs) (block_same b) ∙ ap (λ k. block_items (s y) b ++ k) (same bs)

-- In the new code a branch on x0 to x13 stands before the jumps of its two ways, among items and among words.
use Rattle.std.proofs.Common.{◌≡◌, ℕ, zero, suc, ◌+◌, ◌*◌, ◌%◌, ◌^◌, ◌<◌, ◌≤◌, ⊎_elim, Bool, true, false, cond, List, [], ◌∷◌, ◌++◌, length, refl, sym, ap, ◌∙◌, subst, arith}
use Rattle.std.specs.Prelude.{◌==◌, pos, neg_ℤ}
use Rattle.std.proofs.lemmas.Bool.{false≢true, cases_Bool}
use Rattle.rv_isa.specs.declared.class.Class.TheVariants as class
use Rattle.machine.specs.Operands.{is_auipc}
use Rattle.qed_model.specs.Promise.Closed.{uses, guards_other, is_checked}
use Rattle.qed_model.specs.Promise.Faults.{IsOwnBranch}
use Rattle.qed_model.specs.Weave.Code.{sequences, pieces_of, body_of, block_items, entries_of, code_of}
use Rattle.qed_model.specs.Weave.Placed.{go_size, instructions_from}
use Rattle.qed_model.specs.Weave.Sequences.{pair, Reads, Form, fired_check, guard, guards, guards_of, originals, compare, check_sign, wraps, visit_word, times, visit, sweep_range, sweep, original, original_as, each_part, piece, End, Falls, Stops, links, go_on, before_end, leave, leave_as, Block, body_length, zero_from, cursor, prologue, stub}
use Rattle.weave_core.specs.World.{Item, Mark, Plain, Constant, Go, Ins, Addi, Andi, Add, Beq, Bne, Ebreak, Jal, Jalr, Illegal, Ld, Lui, Lw, ins, class_of, Class, Fetched, Known, imm, target, ORIGINALS, LAST_ORIGINAL, PAIR_DISTANCE, DISTANCE, CURSOR, TEMPORARY, SPARE}
use Rattle.weave_core.specs.Blocks.{IsBody, FitsPiece, AllFit}
use Rattle.weave_core.specs.Kinds.{is_guard}
use Rattle.weave_core.specs.KindItems.{LandsAs, AllLand, MirrorsFit, end_branches, end_jumps, end_jumps_reg, end_ends, end_illegal, AllPieces, GoodEnd, AllBlocks}
use Rattle.weave_core.specs.Lock.{Opens}
use Rattle.weave_core.proofs.Lemmas.{guard_found, known_same}

-- ---- items
-- a branch that skips the first of two jumps
pub record IsForked (far : Bool) (i : Ins) (behind : List Item) : Type 0 where
  pub passed : ℕ
  pub taken : ℕ
  pub rest : List Item
  pub stand : behind ≡ Go passed ∷ Go taken ∷ rest
  pub skips : i.imm ≡ pos (4 + go_size far)

-- each branch on x0 to x13 is one
abbrev pub Forks : Bool → List Item → Type 0
Forks far [] = Unit {0}
Forks far (Mark m ∷ is) = Forks far is
Forks far (Plain i ∷ is) = (IsOwnBranch i → IsForked far i is) × Forks far is
Forks far (Constant r v ∷ is) = Forks far is
Forks far (Go t ∷ is) = Forks far is

module _ (far : Bool) where
  -- items one behind the other
  forks_then : (xs ys : List Item) → Forks far xs → Forks far ys → Forks far (xs ++ ys)
  forks_then [] ys h k = k
  forks_then (Mark m ∷ is) ys h k = forks_then is ys h k
  forks_then (Plain i ∷ is) ys h k = (λ b. let x = h.0 b in record { passed = x.passed; taken = x.taken; rest = x.rest ++ ys; stand = ap (λ l. l ++ ys) x.stand; skips = x.skips }, forks_then is ys h.1 k)
  forks_then (Constant r v ∷ is) ys h k = forks_then is ys h k
  forks_then (Go t ∷ is) ys h k = forks_then is ys h k

  -- an instruction of another class
  other : (i : Ins) (k : Class) → class_of i.kind ≡ k → (k ≡ class.Branch → ⊥) → IsOwnBranch i → {P : Type 0} → P
  other i k e never b = absurd (never (sym e ∙ b.branch))

  -- alone
  one : (i : Ins) (k : Class) → class_of i.kind ≡ k → (k ≡ class.Branch → ⊥) → Forks far (Plain i ∷ [])
  one i k e never = (λ b. other i k e never b, tt)

  -- ---- items that do not jump: all of them, since the law of the mirror parts says no more
  -- code that uses x1 everywhere
  abbrev copies : ℕ → Fetched
  copies a = Known (ins Addi TEMPORARY 1 0 (pos 0))

  not_open : (a : ℕ) → Opens copies a → ⊥
  unfolding uses guards_other is_checked
  not_open a o = false≢true (sym (o 1))

  -- a guard has a second register above x13
  no_guard : (i : Ins) → IsOwnBranch i → is_guard i ≡ false
  no_guard i b = ⊎_elim (λ e. let x = guard_found i e in let high = x.3 in let low = b.second in absurd (omega (arith, high, low))) (λ e. e) (cases_Bool (is_guard i))

  no_fork : (i : Ins) (a : ℕ) → LandsAs (class_of i.kind) copies a i → IsOwnBranch i → {P : Type 0} → P
  no_fork i a h b = absurd (not_open ((a + imm i) % 2 ^ 64) (subst (λ k. LandsAs k copies a i) b.branch h (no_guard i b)))

  straight_forks : (is : List Item) (a : ℕ) → AllLand copies a (instructions_from far (λ t. 0) a is) → Forks far is
  straight_forks is a h = by far is a h where
    by : (far : Bool) (is : List Item) (a : ℕ) → AllLand copies a (instructions_from far (λ t. 0) a is) → Forks far is
    by far [] a h = tt
    by far (Mark m ∷ is) a h = by far is a h
    by far (Plain i ∷ is) a h = (λ b. no_fork i a h.0 b, by far is (a + 4) h.1)
    by far (Constant r v ∷ is) a h = let s : a + 4 + 4 ≡ a + 8 = omega arith in by far is (a + 8) (subst (λ b. AllLand copies b (instructions_from far (λ t. 0) (a + 8) is)) s h.1.1)
    by false (Go t ∷ is) a h = by false is (a + 4) h.1
    by true (Go t ∷ is) a h = let s : a + 4 + 4 ≡ a + 8 = omega arith in by true is (a + 8) (subst (λ b. AllLand copies b (instructions_from true (λ t. 0) (a + 8) is)) s h.1.1)

  -- ---- guards and checks
  brk_no : IsOwnBranch (ins Ebreak 0 0 0 (pos 0)) → {P : Type 0} → P
  brk_no b = other (ins Ebreak 0 0 0 (pos 0)) class.Break refl (λ e. absurd (cc)) b

  -- a branch whose second register is above x13
  high_no : (i : Ins) → 14 ≤ i.rs2 → IsOwnBranch i → {P : Type 0} → P
  high_no i h b = let low = b.second in absurd (omega (arith, h, low))

  forks_guard : (q : ℕ) → Forks far (guard q)
  forks_guard q = elim (q == 0) as (λ t. Forks far (cond t [] (Plain (ins Beq 0 q (q + PAIR_DISTANCE) (pos 8)) ∷ fired_check ∷ []))) [
    | true ↦ tt
    | false ↦ (λ b. high_no _ (omega arith) b, (λ b. brk_no b, tt))
  ]

  forks_guards : (qs : List ℕ) → Forks far (guards qs)
  forks_guards [] = tt
  forks_guards (q ∷ qs) = forks_then (guard q) (guards qs) (forks_guard q) (forks_guards qs)

  forks_both : (i : Ins) → Forks far (guards_of i)
  forks_both i = forks_then (guard i.rs1) (cond (i.rs2 == i.rs1) [] (guard i.rs2)) (forks_guard i.rs1) (second (i.rs2 == i.rs1)) where
    second : (t : Bool) → Forks far (cond t [] (guard i.rs2))
    second true = tt
    second false = forks_guard i.rs2

  forks_sign : (a : ℕ) → Forks far (check_sign a)
  forks_sign a = (λ b. high_no _ (omega arith) b, (λ b. brk_no b, tt))

  -- ---- visits and the sweep
  forks_wraps : (spans : List (ℕ × ℕ)) (first : ℕ) → Forks far (wraps spans first)
  forks_wraps [] first = tt
  forks_wraps (r ∷ []) first = (λ b. high_no _ (omega arith) b, tt)
  forks_wraps (r ∷ n ∷ rs) first = (λ b. high_no _ (omega arith) b, forks_wraps (n ∷ rs) first)

  -- the words up to the EBREAK of a visited word
  forks_looks : (is : List Item) → Forks far is → Forks far (Plain (ins Ld TEMPORARY CURSOR 0 (pos 0)) ∷ Plain (ins Add SPARE CURSOR DISTANCE (pos 0)) ∷ Plain (ins Ld SPARE SPARE 0 (pos 0)) ∷ Plain (ins Beq 0 TEMPORARY SPARE (pos 8)) ∷ fired_check ∷ Plain (ins Addi CURSOR CURSOR 0 (pos 8)) ∷ is)
  forks_looks is h = (
    λ b. other _ class.Load refl (λ e. absurd (cc)) b,
    (
      λ b. other _ class.Compute refl (λ e. absurd (cc)) b,
      (
        λ b. other _ class.Load refl (λ e. absurd (cc)) b,
        (λ b. high_no _ (omega arith) b, (λ b. brk_no b, (λ b. other _ class.Compute refl (λ e. absurd (cc)) b, h))),
      ),
    ),
  )

  forks_visit : (round : ℕ) (spans : List (ℕ × ℕ)) → Forks far (visit round spans)
  forks_visit round spans = each round where
    word : (spans : List (ℕ × ℕ)) → Forks far (visit_word spans)
    word [] = tt
    word (r ∷ rs) = forks_looks (wraps (r ∷ rs) r.0) (forks_wraps (r ∷ rs) r.0)

    each : (n : ℕ) → Forks far (times n (visit_word spans))
    each zero = tt
    each (suc n) = forks_then (visit_word spans) (times n (visit_word spans)) (word spans) (each n)

  forks_sweep : (spans : List (ℕ × ℕ)) → Forks far (sweep spans)
  forks_sweep [] = tt
  forks_sweep (r ∷ rs) = forks_then (sweep_range r) (sweep rs) (forks_looks (Constant TEMPORARY r.1 ∷ Plain (ins Bne 0 CURSOR TEMPORARY (neg_ℤ (pos 32))) ∷ []) (λ b. high_no _ (omega arith) b, tt)) (forks_sweep rs)

  -- ---- what runs first
  forks_zeros : (a n : ℕ) → Forks far (zero_from a n)
  forks_zeros a zero = tt
  forks_zeros a (suc n) = (λ b. other (ins Addi a 0 0 (pos 0)) class.Compute refl (λ e. absurd (cc)) b, forks_zeros (a + 1) n)

  forks_prologue : (d : ℕ) (spans : List (ℕ × ℕ)) (a : ℕ) → Forks far (prologue d spans a)
  forks_prologue d spans a = forks_then (zero_from 1 ORIGINALS) (zero_from 17 ORIGINALS ++ (Plain (ins Lui DISTANCE 0 0 (pos d)) ∷ (cursor spans ++ go_on a))) (forks_zeros 1 ORIGINALS)
      (forks_then (zero_from 17 ORIGINALS) (Plain (ins Lui DISTANCE 0 0 (pos d)) ∷ (cursor spans ++ go_on a)) (forks_zeros 17 ORIGINALS) (λ b. other (ins Lui DISTANCE 0 0 (pos d)) class.Compute refl (λ e. absurd (cc)) b, begins spans)) where
        begins : (spans : List (ℕ × ℕ)) → Forks far (cursor spans ++ go_on a)
        begins [] = tt
        begins (r ∷ rs) = tt

  -- ---- pieces
  forks_original : (i : Ins) (at : ℕ) → FitsPiece i → Forks far (original i at)
  forks_original i at f = elim (is_auipc i.kind) as (λ t. Forks far (cond t (Constant i.rd (target i at) ∷ []) (original_as (class_of i.kind) i at))) [ true ↦ tt | false ↦ by (class_of i.kind) refl f.body ] where
    by : (k : Class) → class_of i.kind ≡ k → IsBody k → Forks far (original_as k i at)
    by class.Compute e b = one i class.Compute e (λ x. absurd (cc))
    by class.Fence e b = one i class.Fence e (λ x. absurd (cc))
    by class.Load e b = forks_then (guard i.rs1) (Plain i ∷ []) (forks_guard i.rs1) (one i class.Load e (λ x. absurd (cc)))
    by class.Store e b = forks_then (guards_of i) (Plain i ∷ []) (forks_both i) (one i class.Store e (λ x. absurd (cc)))
    by k e b = absurd b

  forks_each : (part : Ins → ℕ → List Item) → ((i : Ins) (at : ℕ) → FitsPiece i → Forks far (part i at)) → (is : List Ins) (at : ℕ) → AllFit is → Forks far (each_part part is at)
  forks_each part law [] at h = tt
  forks_each part law (i ∷ is) at h = forks_then (part i at) (each_part part is (at + 4)) (law i at h.0) (forks_each part law is (at + 4) h.1)

-- ---- the items of a form
module _ (form : Form) (mirrors : MirrorsFit form.far form.mirror) where
  forks_piece : (is : List Ins) (at : ℕ) → AllFit is → Forks form.far (piece form is at)
  forks_piece is at h =
      forks_then form.far (each_part original is at) (each_part form.mirror is at ++ (compare ++ visit form.round form.spans)) (forks_each form.far original (λ i a f. forks_original form.far i a f) is at h)
      (forks_then form.far (each_part form.mirror is at) (compare ++ visit form.round form.spans) (forks_each form.far form.mirror (λ i a f. straight_forks form.far (form.mirror i a) 0 (mirrors.straight i a f (copies form.far) (λ t. 0) 0)) is at h)
      (forks_then form.far compare (visit form.round form.spans) (forks_guards form.far originals) (forks_visit form.far form.round form.spans)))

  -- a pair is x0 or above x13
  pair_zero : (r : ℕ) → pair r ≤ LAST_ORIGINAL → pair r ≡ 0
  pair_zero zero h = refl
  pair_zero (suc r) h = absurd (omega (arith, h))

  forks_links : (i : Ins) (at : ℕ) → Forks form.far (links i at)
  forks_links i at = elim (i.rd == 0) as (λ t. Forks form.far (cond t [] (Constant i.rd ((at + 4) % 2 ^ 64) ∷ Constant (pair i.rd) ((at + 4) % 2 ^ 64) ∷ []))) [ true ↦ tt | false ↦ tt ]

  -- the words behind the return address of a JALR
  abbrev look : List Item
  look = Plain (ins Add SPARE TEMPORARY DISTANCE (pos 0)) ∷ Plain (ins Add SPARE SPARE DISTANCE (pos 0)) ∷ Plain (ins Lw TEMPORARY SPARE 0 (pos 0)) ∷ Plain (ins Add TEMPORARY TEMPORARY SPARE (pos 0)) ∷ Plain (ins Jalr 0 TEMPORARY 0 (pos 0)) ∷ []

  forks_leave : (e : End) (at : ℕ) → GoodEnd e → Forks form.far (leave form e at)
  forks_leave Falls at g = tt
  forks_leave (Stops i) at (end_branches c h1 h2) = rw c ((
    λ b. let x = pair_zero i.rs1 b.first in let y = pair_zero i.rs2 b.second in let some = b.some in absurd (omega (arith, x, y, some)),
    (
      λ b. other form.far (ins Jal 0 0 0 (pos 12)) class.Jump refl (λ e. absurd (cc)) b,
      forks_then form.far (guards_of i) (Plain (ins i.kind 0 i.rs1 i.rs2 (pos (4 + go_size form.far))) ∷ Go ((at + 4) % 2 ^ 64) ∷ Go (target i at) ∷ []) (forks_both form.far i)
          (λ b. record { passed = (at + 4) % 2 ^ 64; taken = target i at; rest = []; stand = refl; skips = refl }, tt),
    ),
  ))
  forks_leave (Stops i) at (end_jumps c h) = rw c (forks_then form.far (links i at) (go_on (target i at)) (forks_links i at) tt)
  forks_leave (Stops i) at (end_jumps_reg c hd h1) = rw c (leaps) where
    computes : (j : Ins) (is : List Item) → class_of j.kind ≡ class.Compute → Forks form.far is → Forks form.far (Plain j ∷ is)
    computes j is e h = (λ b. other form.far j class.Compute e (λ x. absurd (cc)) b, h)

    looks : Forks form.far look
    looks = computes _ _ refl (computes _ _ refl (λ b. other form.far (ins Lw TEMPORARY SPARE 0 (pos 0)) class.Load refl (λ e. absurd (cc)) b, computes _ _ refl (one form.far (ins Jalr 0 TEMPORARY 0 (pos 0)) class.JumpReg refl (λ e. absurd (cc)))))

    leaps : Forks form.far (leave_as form class.JumpReg i at)
    leaps = computes _ _ refl (computes _ _ refl (forks_then form.far (guard i.rs1) (Plain (ins Addi TEMPORARY i.rs1 0 i.imm) ∷ Plain (ins Andi TEMPORARY TEMPORARY 0 (neg_ℤ (pos 2))) ∷ (links i at ++ look)) (forks_guard form.far i.rs1)
        (computes _ _ refl (computes _ _ refl (forks_then form.far (links i at) look (forks_links i at) looks)))))
  forks_leave (Stops i) at (end_ends c) = rw c (forks_then form.far (before_end form) (Plain i ∷ []) before (one form.far i class.End c (λ e. absurd (cc)))) where
    before : Forks form.far (before_end form)
    before = elim form.sweep as (λ t. Forks form.far (cond t (sweep form.spans ++ compare) [])) [ true ↦ forks_then form.far (sweep form.spans) compare (forks_sweep form.far form.spans) (forks_guards form.far originals) | false ↦ tt ]
  forks_leave (Stops i) at (end_illegal c) = rw c (one form.far i class.Illegal c (λ e. absurd (cc)))

  forks_pieces : (ps : List (List Ins)) (at : ℕ) → AllPieces ps → Forks form.far (pieces_of (sequences form) ps at)
  forks_pieces [] at h = tt
  forks_pieces (p ∷ ps) at h = forks_then form.far (piece form p at) (pieces_of (sequences form) ps (at + 4 * length p)) (forks_piece p at h.0) (forks_pieces ps (at + 4 * length p) h.1)

  forks_block : (b : Block) → AllPieces b.body → GoodEnd b.end → Forks form.far (block_items (sequences form) b)
  forks_block b h g =
      forks_then form.far (check_sign b.start) (body_of (sequences form) b.body b.end b.start) (forks_sign form.far b.start)
      (forks_then form.far (pieces_of (sequences form) b.body b.start) (leave form b.end (b.start + 4 * body_length b.body)) (forks_pieces b.body b.start h) (forks_leave b.end (b.start + 4 * body_length b.body) g))

  forks_entries : (bs : List Block) → AllBlocks bs → Forks form.far (entries_of (sequences form) bs)
  forks_entries [] h = tt
  forks_entries (b ∷ bs) h = forks_then form.far (block_items (sequences form) b) (entries_of (sequences form) bs) (forks_block b h.0 h.1) (forks_entries bs h.2)

  -- the whole code
  pub forks_code : (d start : ℕ) (bs : List Block) → AllBlocks bs → Forks form.far (code_of (sequences form) d start bs)
  forks_code d start bs h =
      forks_then form.far (prologue d form.spans start) (entries_of (sequences form) bs ++ stub) (forks_prologue form.far d form.spans start)
      (forks_then form.far (entries_of (sequences form) bs) stub (forks_entries bs h) (one form.far (ins Illegal 0 0 0 (pos 0)) class.Illegal refl (λ e. absurd (cc))))

-- ---- words
-- behind a branch at an address stand its two jumps
pub record ForksAt (far : Bool) (c : ℕ → Fetched) (e : ℕ → ℕ) (a : ℕ) (i : Ins) : Type 0 where
  pub passed : ℕ
  pub taken : ℕ
  pub rest : List Item
  pub reads : Reads far c e (a + 4) (Go passed ∷ Go taken ∷ rest)
  pub skips : i.imm ≡ pos (4 + go_size far)

module _ (c : ℕ → Fetched) (e : ℕ → ℕ) (i : Ins) (b : IsOwnBranch i) (a : ℕ) (at : c a ≡ Known i) where
  -- another instruction stands elsewhere
  elsewhere : (p : ℕ) (j : Ins) (k : Class) → c p ≡ Known j → class_of j.kind ≡ k → (k ≡ class.Branch → ⊥) → a ≡ p → {P : Type 0} → P
  elsewhere p j k h is never same = let one : j ≡ i = known_same (sym h ∙ sym (ap c same) ∙ at) in absurd (never (sym is ∙ ap (λ l. class_of l.kind) one ∙ b.branch))

  -- such a branch among the words of items
  pub forked_at :
      (far : Bool) (is : List Item) (p k : ℕ) → Forks far is → Reads far c e p is → k < length (instructions_from far e p is) → a ≡ p + 4 * k → ForksAt far c e a i
  forked_at far [] p k h r inside same = absurd (omega (arith, inside))
  forked_at far (Mark m ∷ is) p k h r inside same = forked_at far is p k h r.1 inside same
  forked_at far (Plain j ∷ is) p zero h r inside same =
      let here : p ≡ a = omega (arith, same) in
      let one : j ≡ i = known_same (sym r.0 ∙ ap c here ∙ at) in
      let x = h.0 (subst IsOwnBranch (sym one) b) in
      record { passed = x.passed; taken = x.taken; rest = x.rest; reads = subst (λ q. Reads far c e (q + 4) (Go x.passed ∷ Go x.taken ∷ x.rest)) here (subst (λ l. Reads far c e (p + 4) l) x.stand r.1); skips = ap (λ l. l.imm) (sym one) ∙ x.skips }
  forked_at far (Plain j ∷ is) p (suc k) h r inside same = forked_at far is (p + 4) k h.1 r.1 (omega (arith, inside)) (omega (arith, same))
  forked_at far (Constant x v ∷ is) p zero h r inside same = elsewhere p _ class.Compute r.0 refl (λ z. absurd (cc)) (omega (arith, same))
  forked_at far (Constant x v ∷ is) p (suc zero) h r inside same = elsewhere (p + 4) _ class.Compute r.1 refl (λ z. absurd (cc)) (omega (arith, same))
  forked_at far (Constant x v ∷ is) p (suc (suc k)) h r inside same = forked_at far is (p + 8) k h r.2 (omega (arith, inside)) (omega (arith, same))
  forked_at false (Go t ∷ is) p zero h r inside same = elsewhere p _ class.Jump r.0.0 refl (λ z. absurd (cc)) (omega (arith, same))
  forked_at false (Go t ∷ is) p (suc k) h r inside same = forked_at false is (p + 4) k h r.1 (omega (arith, inside)) (omega (arith, same))
  forked_at true (Go t ∷ is) p zero h r inside same = elsewhere p _ class.Compute r.0.0 refl (λ z. absurd (cc)) (omega (arith, same))
  forked_at true (Go t ∷ is) p (suc zero) h r inside same = elsewhere (p + 4) _ class.JumpReg r.0.1.0 refl (λ z. absurd (cc)) (omega (arith, same))
  forked_at true (Go t ∷ is) p (suc (suc k)) h r inside same = forked_at true is (p + 8) k h r.1 (omega (arith, inside)) (omega (arith, same))

-- Words that write only some registers and go on, or skip a word: a run gets behind them all with what they keep.
use Rattle.std.proofs.Common.{◌≡◌, ℕ, zero, suc, ◌+◌, ◌*◌, ◌%◌, ◌^◌, ◌≤◌, ◌⊎◌, inl, inr, ⊎_elim, Bool, true, false, cond, List, [], ◌∷◌, ◌++◌, refl, sym, ap, ◌∙◌, subst, arith}
use Rattle.std.specs.Prelude.{◌==◌, pos}
use Rattle.std.specs.List.{list_all}
use Rattle.std.proofs.lemmas.Bool.{and_parts}
use Rattle.rv_isa.specs.declared.class.Class.TheVariants as class
pub use Rattle.rv_isa.proofs.RegsLaws.{slice_index-set_reg_other, slice_index-set_reg_same, slice_index-set_reg_zero, length-set_reg}
use Rattle.machine.specs.Table.{ins, Ins, Auipc, Addi, Beq}
use Rattle.qed_model.specs.declared.diverse.Place.{Place}
use Rattle.qed_model.specs.declared.diverse.Place.TheVariants.{X0, RD, RS1, RS2, X30, X31}
use Rattle.qed_model.specs.declared.diverse.Part.{Part}
use Rattle.qed_model.specs.Weave.Diverse.{reg_at, part_items, parts_of, diverse_as}
use Rattle.qed_model.specs.Weave.Forms.{mirror_of}
use Rattle.qed_model.specs.Weave.Placed.{sum_of_sizes}
use Rattle.machine.specs.Offsets.{distance_between, upper_part, lower_part}
use Rattle.qed_model.specs.Weave.Lean.{is_break, cost, check_distance, check_way}
use Rattle.qed_model.specs.Weave.Sequences.{Reads, fired_check, guard, guards, guards_of, mirrored, mirror_as, PAIR_DISTANCE, TEMPORARY, pair}
use Rattle.machine.specs.Operands.{is_auipc}
pub use Rattle.qed_model.proofs.Lemmas.{all_fine, fine_part, allows-flags, byte_after, grants-weaker, size-append, some-flags, untouched}
pub use Rattle.machine.proofs.Lemmas.{constant_value, same_fetch, flags-put, run-last, step-class, Over, known_at, run-more, over_moved, difference, run-none, each_kind, Walk, byte_at-put_outside, constant_walk, get-put_outside, same_number, set_reg-pos, step-compute, step-load, step-store, walk_none, walk_on, wrapped-add}
use Rattle.weave_core.specs.Blocks.{FitsPiece}
use Rattle.weave_core.specs.World.{World, Item, Mark, Plain, Constant, Go, wrapped, holds, State, reg, moved, jumped, imm, next_pc, execute, Known, step, run, target, Kind, Class, class_of}
pub use Rattle.weave_core.proofs.Lemmas.{known_same, reads_front, step-jump, steady_none, auipc_is, IsBodyWord, body_computes, body_loads, body_stores, body_fences, body_word, operates_class, jumped_to, pc_four, Standing, standing_step, one_run, WeaveIn, go_walk, go_most, branch_passed, step-break, sets_compute, writes, writes_out, writes_long, standing_run, flagged_moved, standing_at, sized_step, sets_equal, sign_walk, AllTemps, Branches, Leaps, Passes, Sets, Tabled, add_result, addi_value, aim, all_small, andi_value, auipc_step, branch_step, branch_taken, branch_to, compare_stands, entry_leap, equal_holds, find, first_sourced, found, guard_pass, guards_pass, halved_gone, halved_moved, halved_original, halved_pair, halved_regs, halved_views, halved_writes, has_front, has_rest, jump_step, leap_step, led_more, led_none, linked, linked_out, links_as, links_sets, load_granted, mapped_in, met_ended, met_going, met_same, no_code, not_trapped_le, over_stored, own_pair, pair_value, pass_none, raised_place, result_alike, run-ended, sets_const, sets_on, source_run, spared, steady_le, steady_rest, step-end, step-fence, step-illegal, store_granted, sub_result, table_load, table_word, tabled, visit_later, visit_more, visit_row, width_le, word, word_low, words_within}
pub use Rattle.weave_core.proofs.Words.{const_signed}
pub use Rattle.lockstep.proofs.Lemmas.{word_below}
use Rattle.lean.specs.Strayed.{IsOver}
use Rattle.lean.proofs.Weave.Chain.{break_is, no_break}

-- ---- the words
-- it writes only registers for which `free` is true, stores only if `stores` is, and goes on behind it, fires or traps
abbrev pub keeps_as : (ℕ → Bool) → Bool → Class → Ins → Bool
keeps_as free stores class.Compute i = free i.rd
keeps_as free stores class.Load i = free i.rd
keeps_as free stores class.Store i = stores
keeps_as free stores class.Fence i = true
keeps_as free stores class.Break i = true
keeps_as free stores _ i = false

abbrev pub keeps : (ℕ → Bool) → Bool → Ins → Bool
keeps free stores i = keeps_as free stores (class_of i.kind) i

-- a word or a constant stands first
abbrev pub Begins : List Item → Type 0
Begins [] = ⊥
Begins (Mark m ∷ xs) = ⊥
Begins (Plain i ∷ xs) = Unit {0}
Begins (Constant r v ∷ xs) = Unit {0}
Begins (Go t ∷ xs) = ⊥

-- its bytes
abbrev pub first_size : List Item → ℕ
first_size [] = 0
first_size (Mark m ∷ xs) = 0
first_size (Plain i ∷ xs) = 4
first_size (Constant r v ∷ xs) = 8
first_size (Go t ∷ xs) = 0

-- a branch over it
abbrev pub Skips : Ins → List Item → Type 0
Skips i xs = (class_of i.kind ≡ class.Branch) × (i.imm ≡ pos (4 + first_size xs)) × Begins xs

abbrev pub Keep : (ℕ → Bool) → Bool → List Item → Type 0
Keep free stores [] = Unit {0}
Keep free stores (Mark m ∷ xs) = ⊥
Keep free stores (Plain i ∷ xs) = ((keeps free stores i ≡ true) ⊎ Skips i xs) × Keep free stores xs
Keep free stores (Constant r v ∷ xs) = (free r ≡ true) × Keep free stores xs
Keep free stores (Go t ∷ xs) = ⊥

abbrev pub behind : List Item → List Item
behind [] = []
behind (x ∷ xs) = xs

-- no more steps than words
pub size_cost : (xs : List Item) → 4 * cost xs ≤ sum_of_sizes false xs
size_cost [] = omega arith
size_cost (Mark m ∷ xs) = let e = size_cost xs in omega (arith, e)
size_cost (Plain i ∷ xs) = by (is_break i.kind) (cost xs) (sum_of_sizes false xs) (size_cost xs) where
  by : (b : Bool) (m n : ℕ) → 4 * m ≤ n → 4 * (cond b 0 1 + m) ≤ 4 + n
  by true m n e = omega (arith, e)
  by false m n e = omega (arith, e)
size_cost (Constant r v ∷ xs) = let e = size_cost xs in omega (arith, e)
size_cost (Go t ∷ xs) = let e = size_cost xs in omega (arith, e)

-- ---- lists of them
begins_append : (xs ys : List Item) → Begins xs → Begins (xs ++ ys)
begins_append [] ys h = absurd h
begins_append (Mark m ∷ xs) ys h = absurd h
begins_append (Plain i ∷ xs) ys h = tt
begins_append (Constant r v ∷ xs) ys h = tt
begins_append (Go t ∷ xs) ys h = absurd h

first_append : (xs ys : List Item) → Begins xs → first_size (xs ++ ys) ≡ first_size xs
first_append [] ys h = absurd h
first_append (Mark m ∷ xs) ys h = absurd h
first_append (Plain i ∷ xs) ys h = refl
first_append (Constant r v ∷ xs) ys h = refl
first_append (Go t ∷ xs) ys h = absurd h

module _ (free : ℕ → Bool) (stores : Bool) where
  pub keep_append : (xs ys : List Item) → Keep free stores xs → Keep free stores ys → Keep free stores (xs ++ ys)
  keep_append [] ys h k = k
  keep_append (Mark m ∷ xs) ys h k = absurd h
  keep_append (Plain i ∷ xs) ys h k = (⊎_elim (λ d. inl d) (λ s. inr (s.0, s.1 ∙ ap (λ n. pos (4 + n)) (sym (first_append xs ys s.2)), begins_append xs ys s.2)) h.0, keep_append xs ys h.1 k)
  keep_append (Constant r v ∷ xs) ys h k = (h.0, keep_append xs ys h.1 k)
  keep_append (Go t ∷ xs) ys h k = absurd h

  pub keep_guard : (r : ℕ) → Keep free stores (guard r)
  keep_guard r = by (r == 0) where
    by : (b : Bool) → Keep free stores (cond b [] (Plain (ins Beq 0 r (r + PAIR_DISTANCE) (pos 8)) ∷ fired_check ∷ []))
    by true = tt
    by false = (inr (refl, refl, tt), (inl refl, tt))

  pub keep_guards : (rs : List ℕ) → Keep free stores (guards rs)
  keep_guards [] = tt
  keep_guards (r ∷ rs) = keep_append (guard r) (guards rs) (keep_guard r) (keep_guards rs)

  pub keep_guards_of : (i : Ins) → Keep free stores (guards_of i)
  keep_guards_of i = keep_append (guard i.rs1) (cond (i.rs2 == i.rs1) [] (guard i.rs2)) (keep_guard i.rs1) (by (i.rs2 == i.rs1)) where
    by : (b : Bool) → Keep free stores (cond b [] (guard i.rs2))
    by true = tt
    by false = keep_guard i.rs2

  pub keep_way : (k : Kind) (i : Ins) → class_of k ≡ class.Branch → Keep free stores (check_way k i)
  keep_way k i c = (inr (c, refl, tt), (inl refl, tt))

  -- ---- mirror parts
  module _ (pairs : (r : ℕ) → free (pair r) ≡ true) (thirty : free 30 ≡ true) (last : free 31 ≡ true) where
    pub keep_distance : (d : ℕ) → Keep free stores (check_distance d)
    keep_distance d = (inl thirty, (inr (refl, refl, tt), (inl refl, tt)))

    keep_mirrored : (i : Ins) (at : ℕ) → FitsPiece i → (class_of i.kind ≡ class.Store → stores ≡ true) → Keep free stores (mirrored i at)
    keep_mirrored i at f may = by (is_auipc i.kind) where
      body : IsBodyWord i → Keep free stores (mirror_as (class_of i.kind) i at)
      body (body_computes k) = rw k ((inl (subst (λ c. keeps_as free stores c (record { kind = i.kind; rd = pair i.rd; rs1 = pair i.rs1; rs2 = pair i.rs2; imm = i.imm }) ≡ true) (sym k) (pairs i.rd)), tt))
      body (body_loads k) = rw k ((inl thirty, (inl (subst (λ c. keeps_as free stores c (ins i.kind (pair i.rd) TEMPORARY 0 i.imm) ≡ true) (sym k) (pairs i.rd)), tt)))
      body (body_stores k) = rw k ((inl thirty, (inl (subst (λ c. keeps_as free stores c (ins i.kind 0 TEMPORARY (pair i.rs2) i.imm) ≡ true) (sym k) (may k)), tt)))
      body (body_fences k) = rw k tt

      by : (b : Bool) → Keep free stores (cond b (Constant (pair i.rd) (target i at) ∷ []) (mirror_as (class_of i.kind) i at))
      by true = (pairs i.rd, tt)
      by false = body (body_word i f)

    keep_parts : (i : Ins) (ps : List Part) → list_all fine_part ps ≡ true → Keep free stores (part_items i ps)
    keep_parts i [] e = tt
    keep_parts i (p ∷ ps) e =
        let x = and_parts _ _ e in
        let y = and_parts _ _ x.0 in
        (inl (subst (λ c. keeps_as free stores c (ins p.kind (reg_at i p.to) (reg_at i p.left) (reg_at i p.right) p.imm) ≡ true) (sym (operates_class p.kind y.0)) (at_place p.to)), keep_parts i ps x.1) where
          at_place : (x : Place) → free (reg_at i x) ≡ true
          at_place X0 = pairs 0
          at_place RD = pairs i.rd
          at_place RS1 = pairs i.rs1
          at_place RS2 = pairs i.rs2
          at_place X30 = thirty
          at_place X31 = last

    pub keep_mirror : (other : Bool) (i : Ins) (at : ℕ) → FitsPiece i → (class_of i.kind ≡ class.Store → stores ≡ true) → Keep free stores (mirror_of other i at)
    keep_mirror false i at f may = keep_mirrored i at f may
    keep_mirror true i at f may = by (parts_of i.kind i.imm) (all_fine i.kind i.imm) where
      by : (ps : List Part) → list_all fine_part ps ≡ true → Keep free stores (diverse_as ps i at)
      by [] e = keep_mirrored i at f may
      by (p ∷ ps) e = keep_parts i (p ∷ ps) e

-- ---- runs
-- within `most` steps the run comes to such a state, or to one whose next step fires or traps
pub record Comes (P : State → Type 0) (u : State) (most : ℕ) : Type 0 where
  pub steps : ℕ
  pub within : steps ≤ most
  pub is : IsOver (run u (steps + 1)).outcome ⊎ P (run u steps)

pub comes_none : (P : State → Type 0) (u : State) (most : ℕ) → P u → Comes P u most
unfolding run
comes_none P u most p = record { steps = 0; within = omega arith; is = inr p }

pub comes_over : (P : State → Type 0) (u : State) (most : ℕ) → IsOver (step u).outcome → Comes P u most
comes_over P u most o = record { steps = 0; within = omega arith; is = inl (subst (λ y. IsOver y.outcome) (sym (one_run u)) o) }

pub comes_one : (P : State → Type 0) (u : State) → IsOver (step u).outcome ⊎ P (step u) → Comes P u 1
comes_one P u h = ⊎_elim (λ o. comes_over P u 1 o) (λ p. record { steps = 1; within = omega arith; is = inr (subst P (sym (one_run u)) p) }) h

pub comes_more : (P : State → Type 0) (u : State) (m n : ℕ) → m ≤ n → Comes P u m → Comes P u n
comes_more P u m n h c = record { steps = c.steps; within = omega (arith, h, c.within); is = c.is }

pub comes_map : (P Q : State → Type 0) (u : State) (n : ℕ) → Comes P u n → ((y : State) → P y → Q y) → Comes Q u n
comes_map P Q u n c f = record { steps = c.steps; within = c.within; is = ⊎_elim (λ o. inl o) (λ p. inr (f (run u c.steps) p)) c.is }

-- behind a run to another state
pub comes_behind : (P : State → Type 0) (u y : State) (m n : ℕ) → run u m ≡ y → Comes P y n → Comes P u (m + n)
comes_behind P u y m n e c =
    let k = c.steps in
    let one : m + k + 1 ≡ m + (k + 1) = omega arith in
    let over : run u (m + k + 1) ≡ run y (k + 1) = ap (run u) one ∙ run-more u m (k + 1) ∙ ap (λ z. run z (k + 1)) e in
    let there : run u (m + k) ≡ run y k = run-more u m k ∙ ap (λ z. run z k) e in
    record { steps = m + k; within = omega (arith, c.within); is = ⊎_elim (λ o. inl (subst (λ z. IsOver z.outcome) (sym over) o)) (λ p. inr (subst P (sym there) p)) c.is }

pub comes_on : (P Q : State → Type 0) (u : State) (m n : ℕ) → Comes P u m → ((y : State) → P y → Comes Q y n) → Comes Q u (m + n)
comes_on P Q u m n c f =
    ⊎_elim
    (λ o. record { steps = c.steps; within = omega (arith, c.within); is = inl o })
    (λ p. comes_more Q u (c.steps + n) (m + n) (omega (arith, c.within)) (comes_behind Q u (run u c.steps) c.steps n refl (f (run u c.steps) p)))
    c.is

-- ---- what they keep
-- a property of states that go on over the code, which such words keep
pub record Carried (w : World) (free : ℕ → Bool) (stores : Bool) (D : State → Type 0) : Type 0 where
  pub over : (u : State) → D u → Over w.code u
  pub word : (u : State) (i : Ins) → D u → w.code u.pc ≡ Known i → keeps free stores i ≡ true → IsOver (step u).outcome ⊎ (D (step u) × ((step u).pc ≡ u.pc + 4))
  pub goes : (u : State) (p : ℕ) → D u → D (moved u.regs p u)

module _ (w : World) (free : ℕ → Bool) (stores : Bool) (D : State → Type 0) (keeper : Carried w free stores D) where
  -- before some words
  abbrev pub At : List Item → State → Type 0
  At xs y = D y × Reads false w.code w.entry y.pc xs

  -- from the begin of such words
  abbrev Good : List Item → Type 0
  Good xs = (u : State) (rest : List Item) → D u → Reads false w.code w.entry u.pc (xs ++ rest) → Comes (At rest) u (cost xs)

  -- a word goes on to the next, or is over
  on_word : (u : State) (i : Ins) (xs rest : List Item) → D u → Reads false w.code w.entry u.pc (Plain i ∷ xs ++ rest) → keeps free stores i ≡ true → Good xs → Comes (At rest) u (cond (is_break i.kind) 0 1 + cost xs)
  unfolding execute
  on_word u i xs rest a r d good = by (is_break i.kind) refl where
    by : (b : Bool) → is_break i.kind ≡ b → Comes (At rest) u (cond b 0 1 + cost xs)
    by true e = comes_over (At rest) u (0 + cost xs) (inl (ap (λ s. s.outcome) (step-class u i class.Break (keeper.over u a).going (known_at w.code u i (keeper.over u a) r.0) (break_is i.kind e))))
    by false e =
        comes_on (At (xs ++ rest)) (At rest) u 1 (cost xs)
        (comes_one (At (xs ++ rest)) u (⊎_elim (λ o. inl o) (λ g. inr (g.0, subst (λ p. Reads false w.code w.entry p (xs ++ rest)) (sym g.1) r.1)) (keeper.word u i a r.0 d)))
        (λ y b. good y rest b.0 b.1)

  reads_behind : (p : ℕ) (xs rest : List Item) → Begins xs → Reads false w.code w.entry p (xs ++ rest) → Reads false w.code w.entry (p + first_size xs) (behind xs ++ rest)
  reads_behind p [] rest h r = absurd h
  reads_behind p (Mark m ∷ xs) rest h r = absurd h
  reads_behind p (Plain i ∷ xs) rest h r = r.1
  reads_behind p (Constant q v ∷ xs) rest h r = r.2
  reads_behind p (Go t ∷ xs) rest h r = absurd h

  -- it stands below 2^63
  low_word : (p : ℕ) (xs rest : List Item) → Begins xs → Reads false w.code w.entry (p + 4) (xs ++ rest) → p + 20 ≤ 2 ^ 64
  low_word p [] rest h r = absurd h
  low_word p (Mark m ∷ xs) rest h r = absurd h
  low_word p (Plain i ∷ xs) rest h r = let l = w.low (p + 4) i r.0 in omega (arith, l)
  low_word p (Constant q v ∷ xs) rest h r = let l = w.low (p + 4) (ins Auipc q 0 0 (upper_part (distance_between (p + 4) v))) r.0 in omega (arith, l)
  low_word p (Go t ∷ xs) rest h r = absurd h

  pub cost_behind : (xs : List Item) → cost (behind xs) ≤ cost xs
  cost_behind [] = omega arith
  cost_behind (Mark m ∷ xs) = omega arith
  cost_behind (Plain i ∷ xs) = omega arith
  cost_behind (Constant q v ∷ xs) = omega arith
  cost_behind (Go t ∷ xs) = omega arith

  -- a branch over a word: where it goes on, and where it jumps
  pub both_ways : (u : State) (i : Ins) (xs rest : List Item) → D u → Reads false w.code w.entry u.pc (Plain i ∷ xs ++ rest) → Skips i xs → At (xs ++ rest) (moved u.regs (u.pc + 4) u) × At (behind xs ++ rest) (jumped u.regs (target i u.pc) u)
  both_ways u i xs rest a r s = ((keeper.goes u (u.pc + 4) a, r.1), subst (At (behind xs ++ rest)) (sym (ap (λ p. jumped u.regs p u) goal ∙ jumped_to u.regs there u grain)) (keeper.goes u there a, reads_behind (u.pc + 4) xs rest s.2 r.1)) where
    there : ℕ
    there = u.pc + 4 + first_size xs

    size_few : (xs : List Item) → (first_size xs ≤ 8) × (first_size xs % 4 ≡ 0)
    size_few [] = (omega arith, refl)
    size_few (Mark m ∷ xs) = (omega arith, refl)
    size_few (Plain j ∷ xs) = (omega arith, refl)
    size_few (Constant q v ∷ xs) = (omega arith, refl)
    size_few (Go t ∷ xs) = (omega arith, refl)

    value_of : (n : ℕ) → n ≤ 8 → wrapped (pos (4 + n)) ≡ 4 + n
    value_of n h = omega (arith, h)

    goal : (u.pc + imm i) % 2 ^ 64 ≡ u.pc + 4 + first_size xs
    goal = let low = low_word u.pc xs rest s.2 r.1 in let few = size_few xs in let z : imm i ≡ 4 + first_size xs = ap wrapped s.1 ∙ value_of (first_size xs) few.0 in omega (arith, low, z, few.0)

    grain : (u.pc + 4 + first_size xs) % 4 ≡ 0
    grain = let g = w.grain u.pc i r.0 in let few = size_few xs in omega (arith, g, few.1)

  -- its step leads to it, or behind it
  pub skipped : (u : State) (i : Ins) (xs rest : List Item) → D u → Reads false w.code w.entry u.pc (Plain i ∷ xs ++ rest) → Skips i xs → At (xs ++ rest) (step u) ⊎ At (behind xs ++ rest) (step u)
  unfolding execute
  skipped u i xs rest a r s = by (holds i.kind (reg u i.rs1) (reg u i.rs2)) (step-class u i class.Branch (keeper.over u a).going (known_at w.code u i (keeper.over u a) r.0) s.0) where
    ways : At (xs ++ rest) (moved u.regs (u.pc + 4) u) × At (behind xs ++ rest) (jumped u.regs (target i u.pc) u)
    ways = both_ways u i xs rest a r s

    by : (b : Bool) → step u ≡ cond b (jumped u.regs (target i u.pc) u) (moved u.regs (next_pc u) u) → At (xs ++ rest) (step u) ⊎ At (behind xs ++ rest) (step u)
    by true e = inr (subst (At (behind xs ++ rest)) (sym e) ways.1)
    by false e = inl (subst (At (xs ++ rest)) (sym (e ∙ ap (λ p. moved u.regs p u) (pc_four w u i r.0))) ways.0)

  on_skip : (u : State) (i : Ins) (xs rest : List Item) → D u → Reads false w.code w.entry u.pc (Plain i ∷ xs ++ rest) → Skips i xs → Good xs → Good (behind xs) → Comes (At rest) u (cond (is_break i.kind) 0 1 + cost xs)
  on_skip u i xs rest a r s good far =
      let counts : cond {A = ℕ} (is_break i.kind) 0 1 ≡ 1 = ap (λ b. cond {A = ℕ} b 0 1) (no_break i.kind class.Branch s.0 (λ e. absurd (cc))) in
      subst (λ n. Comes (At rest) u (n + cost xs)) (sym counts)
      (comes_on (λ y. At (xs ++ rest) y ⊎ At (behind xs ++ rest) y) (At rest) u 1 (cost xs)
      (comes_one _ u (inr (skipped u i xs rest a r s)))
      (λ y b. ⊎_elim (λ h. good y rest h.0 h.1) (λ h. comes_more (At rest) y (cost (behind xs)) (cost xs) (cost_behind xs) (far y rest h.0 h.1)) b))

  -- the second word of a constant
  abbrev second : ℕ → ℕ → ℕ → Ins
  second p r v = ins Addi r r 0 (lower_part (distance_between p v))

  on_constant : (u : State) (r v : ℕ) (xs rest : List Item) → D u → Reads false w.code w.entry u.pc (Constant r v ∷ xs ++ rest) → free r ≡ true → Good xs → Comes (At rest) u (2 + cost xs)
  on_constant u r v xs rest a h ne good =
      let i = ins Auipc r 0 0 (upper_part (distance_between u.pc v)) in
      let P : State → Type 0 = λ y. D y × (y.pc ≡ u.pc + 4) in
      comes_more (At rest) u (1 + (1 + cost xs)) (2 + cost xs) (omega arith)
      (comes_on P (At rest) u 1 (1 + cost xs) (comes_one P u (keeper.word u i a h.0 ne))
      (λ y b.
      let far : u.pc + 8 ≡ y.pc + 4 = let e = b.1 in omega (arith, e) in
      on_word y (second u.pc r v) xs rest b.0 (ap w.code b.1 ∙ h.1, subst (λ p. Reads false w.code w.entry p (xs ++ rest)) far h.2) ne good))

  -- from their begin, and from behind their first
  both : (xs : List Item) → Keep free stores xs → Good xs × Good (behind xs)
  both [] d = (λ u rest a r. comes_none (At rest) u 0 (a, r), λ u rest a r. comes_none (At rest) u 0 (a, r))
  both (Mark m ∷ xs) d = absurd d
  both (Plain i ∷ xs) d =
      let more = both xs d.1 in
      (λ u rest a r. ⊎_elim (λ k. on_word u i xs rest a r k more.0) (λ s. on_skip u i xs rest a r s more.0 more.1) d.0, more.0)
  both (Constant q v ∷ xs) d = let more = both xs d.1 in (λ u rest a r. on_constant u q v xs rest a r d.0 more.0, more.0)
  both (Go t ∷ xs) d = absurd d

  -- ---- the law
  pub carry : (xs : List Item) → Keep free stores xs → (u : State) (rest : List Item) → D u → Reads false w.code w.entry u.pc (xs ++ rest) → Comes (At rest) u (cost xs)
  carry xs d = (both xs d).0

  -- from any word of them, or behind them
  pub carry_from :
      (xs : List Item) → Keep free stores xs → (n p : ℕ) (u : State) (rest : List Item) → 4 * n ≤ sum_of_sizes false xs → D u → u.pc ≡ p + 4 * n → Reads false w.code w.entry p (xs ++ rest)
      → Comes (At rest) u (cost xs)
  carry_from xs d zero p u rest h a at r = carry xs d u rest a (subst (λ q. Reads false w.code w.entry q (xs ++ rest)) (let e : p ≡ u.pc = omega (arith, at) in e) r)
  carry_from [] d (suc n) p u rest h a at r = absurd (omega (arith, h))
  carry_from (Mark m ∷ xs) d (suc n) p u rest h a at r = absurd d
  carry_from (Plain i ∷ xs) d (suc n) p u rest h a at r = comes_more (At rest) u (cost xs) (cond (is_break i.kind) 0 1 + cost xs) (omega arith) (carry_from xs d.1 n (p + 4) u rest (omega (arith, h)) a (omega (arith, at)) r.1)
  carry_from (Constant q v ∷ xs) d (suc zero) p u rest h a at r =
      let there : p + 4 ≡ u.pc = omega (arith, at) in
      let far : p + 8 ≡ u.pc + 4 = omega (arith, at) in
      comes_more (At rest) u (1 + cost xs) (2 + cost xs) (omega arith)
      (on_word u (second p q v) xs rest a (ap w.code (sym there) ∙ r.1, subst (λ z. Reads false w.code w.entry z (xs ++ rest)) far r.2) d.0 (carry xs d.1))
  carry_from (Constant q v ∷ xs) d (suc (suc n)) p u rest h a at r = comes_more (At rest) u (cost xs) (2 + cost xs) (omega arith) (carry_from xs d.1 n (p + 8) u rest (omega (arith, h)) a (omega (arith, at)) r.2)
  carry_from (Go t ∷ xs) d (suc n) p u rest h a at r = absurd d

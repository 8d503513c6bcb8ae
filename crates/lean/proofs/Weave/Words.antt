-- The words of the lean form are of the kinds that two runs in lockstep know, and lead to where no register is closed.
use Rattle.std.proofs.Common.{◌≡◌, ℕ, ◌+◌, ◌%◌, ◌^◌, ◌≤◌, inl, inr, Bool, true, false, cond, List, [], ◌∷◌, ◌++◌, refl, subst, arith, append_assoc, ⊎_elim}
use Rattle.std.specs.Prelude.{◌==◌, ℤ, pos, neg_ℤ, ◌&&◌, not, nat_le}
use Rattle.std.specs.List.{list_all}
use Rattle.std.proofs.lemmas.List.{append-nil}
use Rattle.std.proofs.lemmas.Bool.{and_parts, or_cases, leb-true, eqb-true, not-true, false≢true}
use Rattle.rv_isa.specs.declared.class.Class.TheVariants as class
use Rattle.machine.specs.Table.{ins, Lui, Addi, Andi, Slli, Add, Sub, Beq, Bge, Jal, Jalr, Lw, Ins}
use Rattle.qed_model.specs.declared.item.Item.{Item}
use Rattle.qed_model.specs.declared.item.Item.TheVariants.{Plain, Constant, Go}
use Rattle.machine.specs.Offsets.{distance_between, upper_part, lower_part}
use Rattle.qed_model.specs.Weave.Sequences.{Form, End, Falls, Stops, check_sign, compare, visit, guard, links, fired_check, zero_from, sweep, before_end, ORIGINALS, LAST_ORIGINAL, PAIR_DISTANCE, DISTANCE, CURSOR, SIGNATURE, TEMPORARY, SPARE, Class, class_of, pair}
use Rattle.qed_model.specs.Weave.Lean.{named, tick, enter, is_short, turn_by, turn, check_distance, look_up, look_again, first_word, called, begun, done, check, goes, take_target, turn_leap, leave, leave_as, begin}
use Rattle.weave_core.specs.KindItems.{LockItems, LandItems, Straight, GoodEnd, end_branches, end_jumps, end_jumps_reg, end_ends, end_illegal}
use Rattle.weave_core.specs.Lock.{Scratch}
use Rattle.weave_core.specs.Kinds.{is_ld, is_scratch}
use Rattle.machine.specs.Step.{target}
use Rattle.weave_core.proofs.Lemmas.{brk, scratch_compute, scratch_load, scratch_branch, a_jump, a_jump_reg, an_end, an_illegal, a_break, high_branch, if_guarded, items_then, items_none, items_one, items_constant, items_go, one_guard, compare_items, visits_items, sweep_items, links_items, zero_items, pair_scratch, takes_use, straight_none, straight_compute, straight_constant, straight_then, straight_lands, straight_compare, straight_guard, straight_links, straight_zeros, straight_one, land_then, land_behind, land_check, land_visits, land_sweep, land_go, straight_load, branch_items, branch_lands}

-- ---- words that compute on temporaries, loads by them, and constants in them
scratch : (r : ℕ) → is_scratch r ≡ true → Scratch r
scratch r e = ⊎_elim (λ x. inl (eqb-true r 0 x)) (λ x. inr (leb-true 14 r x)) (or_cases (r == 0) (nat_le 14 r) e)

abbrev computes_as : Class → Ins → Bool
computes_as class.Compute i = is_scratch i.rs1 && is_scratch i.rs2
computes_as class.Load i = nat_le 16 i.rs1 && not (is_ld i.kind && (i.rd == TEMPORARY))
computes_as _ i = false

abbrev computes : Item → Bool
computes (Plain i) = computes_as (class_of i.kind) i
computes (Constant r v) = nat_le 14 r
computes _ = false

module _ (far : Bool) where
  word_items : (c : Class) (i : Ins) (is : List Item) → class_of i.kind ≡ c → computes_as c i ≡ true → LockItems far is → LockItems far (Plain i ∷ is)
  word_items class.Compute i is k e h = let p = and_parts _ _ e in items_one far i is (scratch_compute i k (scratch i.rs1 p.0) (scratch i.rs2 p.1)) h
  word_items class.Load i is k e h = let p = and_parts _ _ e in items_one far i is (scratch_load i k (leb-true 16 i.rs1 p.0) (not-true _ p.1)) h
  word_items _ i is k e h = absurd (false≢true e)

  computing : (xs ys : List Item) → list_all computes xs ≡ true → LockItems far ys → LockItems far (xs ++ ys)
  computing [] ys e h = h
  computing (Plain i ∷ xs) ys e h = let p = and_parts _ _ e in word_items (class_of i.kind) i (xs ++ ys) refl p.0 (computing xs ys p.1 h)
  computing (Constant r v ∷ xs) ys e h = let p = and_parts (nat_le 14 r) (list_all computes xs) e in items_constant far r v (xs ++ ys) (inr (leb-true 14 r p.0)) (computing xs ys p.1 h)
  computing (x ∷ xs) ys e h = absurd (false≢true e)

  all_computing : (xs : List Item) → list_all computes xs ≡ true → LockItems far xs
  all_computing xs e = subst (LockItems far) (append-nil xs) (computing xs [] e (items_none far))

  word_straight : (c : Class) (i : Ins) (is : List Item) → class_of i.kind ≡ c → computes_as c i ≡ true → Straight far is → Straight far (Plain i ∷ is)
  word_straight class.Compute i is k e h = straight_compute far i is k h
  word_straight class.Load i is k e h = straight_load far i is k h
  word_straight _ i is k e h = absurd (false≢true e)

  straight : (xs : List Item) → list_all computes xs ≡ true → Straight far xs
  straight [] e = straight_none far
  straight (Plain i ∷ xs) e = let p = and_parts _ _ e in word_straight (class_of i.kind) i xs refl p.0 (straight xs p.1)
  straight (Constant r v ∷ xs) e = straight_constant far r v xs (straight xs (and_parts (nat_le 14 r) (list_all computes xs) e).1)
  straight (x ∷ xs) e = absurd (false≢true e)

  -- a comparison of temporaries that skips an EBREAK
  compares : (i : Ins) (is : List Item) → class_of i.kind ≡ class.Branch → Scratch i.rs1 → Scratch i.rs2 → (i.rs2 == i.rs1 + PAIR_DISTANCE) ≡ false → LockItems far is → LockItems far (Plain i ∷ fired_check ∷ is)
  compares i is c a b apart h = items_one far i (fired_check ∷ is) (scratch_branch i c a b apart) (items_one far brk is a_break h)

  -- ---- the tick
  named_items : (land : Bool) (a : ℕ) (ys : List Item) → LockItems far ys → LockItems far (named land a ++ ys)
  named_items true a ys h = h
  named_items false a ys h = items_constant far 30 a ys (inr (omega arith)) h

  call_items : (d : ℤ) → LockItems far (Plain (ins Jal 0 0 0 d) ∷ fired_check ∷ [])
  call_items d = items_one far (ins Jal 0 0 0 d) (fired_check ∷ []) (a_jump (ins Jal 0 0 0 d) refl) (items_one far brk [] a_break (items_none far))

  pub tick_items : (land : Bool) (a most : ℕ) (d : ℤ) → LockItems far (tick land a most d)
  tick_items land a most d =
      let over = ins Bge 0 SPARE 0 (pos (cond land 12 20)) in
      let rest = named land a ++ (Plain (ins Jal 0 0 0 d) ∷ fired_check ∷ []) in
      computing (Plain (ins Addi CURSOR CURSOR 0 (pos most)) ∷ Plain (ins Slli SPARE CURSOR 0 (pos 52)) ∷ []) (Plain over ∷ rest) refl
      (items_one far over rest (scratch_branch over refl (inr (omega arith)) (inl refl) refl) (named_items land a (Plain (ins Jal 0 0 0 d) ∷ fired_check ∷ []) (call_items d)))

  -- ---- the signature
  pub called_items : (ys : List Item) → LockItems far ys → LockItems far (called ++ ys)
  called_items ys y = compares (ins Beq 0 SIGNATURE TEMPORARY (pos 8)) ys refl (inr (omega arith)) (inr (omega arith)) refl y

  called_lands : LandItems far called
  called_lands = land_check far (ins Beq 0 SIGNATURE TEMPORARY (pos 8)) refl refl

  pub sign_items : (a : ℕ) (ys : List Item) → LockItems far ys → LockItems far (check_sign a ++ ys)
  sign_items a ys y = computing (Constant TEMPORARY a ∷ []) (called ++ ys) refl (called_items ys y)

  pub sign_lands : (a : ℕ) (ys : List Item) → LockItems far ys → LandItems far ys → LandItems far (check_sign a ++ ys)
  sign_lands a ys y h = land_behind far (Constant TEMPORARY a ∷ []) (called ++ ys) (straight (Constant TEMPORARY a ∷ []) refl) (land_then far called ys called_lands y h)

  -- ---- the distance of the halves
  distance_items : (d : ℕ) (ys : List Item) → LockItems far ys → LockItems far (check_distance d ++ ys)
  distance_items d ys y =
      let differs = ins Beq 0 DISTANCE TEMPORARY (pos 8) in
      computing (Plain (ins Lui TEMPORARY 0 0 (pos d)) ∷ []) (Plain differs ∷ fired_check ∷ ys) refl (items_one far differs (fired_check ∷ ys) (high_branch differs refl (omega arith) (inr (omega arith))) (items_one far brk ys a_break y))

  distance_lands : (d : ℕ) (ys : List Item) → LockItems far ys → LandItems far ys → LandItems far (check_distance d ++ ys)
  distance_lands d ys y h =
      let sets : List Item = Plain (ins Lui TEMPORARY 0 0 (pos d)) ∷ [] in
      let differs : List Item = Plain (ins Beq 0 DISTANCE TEMPORARY (pos 8)) ∷ fired_check ∷ [] in
      land_behind far sets (differs ++ ys) (straight sets refl) (land_then far differs ys (land_check far (ins Beq 0 DISTANCE TEMPORARY (pos 8)) refl refl) y h)

  -- ---- the entry: with the test of the signature, or without
  pub ticked_items : (land ticks : Bool) (a most : ℕ) (d : ℤ) → LockItems far (cond ticks (tick land a most d) [])
  ticked_items land true a most d = tick_items land a most d
  ticked_items land false a most d = items_none far

  pub enter_items : (land ticks : Bool) (a most : ℕ) (d : ℤ) → LockItems far (enter land ticks a most d)
  enter_items true ticks a most d = sign_items a (cond ticks (tick true a most d) []) (ticked_items true ticks a most d)
  enter_items false ticks a most d = ticked_items false ticks a most d

  -- ---- turns
  turn_by_items : (d : ℤ) → LockItems far (turn_by d)
  turn_by_items d = by (is_short d) where
    by : (b : Bool) → LockItems far (cond b (Plain (ins Addi SIGNATURE SIGNATURE 0 d) ∷ []) (Plain (ins Lui TEMPORARY 0 0 (upper_part d)) ∷ Plain (ins Addi TEMPORARY TEMPORARY 0 (lower_part d)) ∷ Plain (ins Add SIGNATURE SIGNATURE TEMPORARY (pos 0)) ∷ []))
    by true = all_computing (Plain (ins Addi SIGNATURE SIGNATURE 0 d) ∷ []) refl
    by false = all_computing (Plain (ins Lui TEMPORARY 0 0 (upper_part d)) ∷ Plain (ins Addi TEMPORARY TEMPORARY 0 (lower_part d)) ∷ Plain (ins Add SIGNATURE SIGNATURE TEMPORARY (pos 0)) ∷ []) refl

  pub turn_items : (a t : ℕ) → LockItems far (turn a t)
  turn_items a t = by (a == t) where
    by : (b : Bool) → LockItems far (cond b [] (turn_by (distance_between a t)))
    by true = items_none far
    by false = turn_by_items (distance_between a t)

  straight_turn_by : (d : ℤ) → Straight far (turn_by d)
  straight_turn_by d = by (is_short d) where
    by : (b : Bool) → Straight far (cond b (Plain (ins Addi SIGNATURE SIGNATURE 0 d) ∷ []) (Plain (ins Lui TEMPORARY 0 0 (upper_part d)) ∷ Plain (ins Addi TEMPORARY TEMPORARY 0 (lower_part d)) ∷ Plain (ins Add SIGNATURE SIGNATURE TEMPORARY (pos 0)) ∷ []))
    by true = λ c e a. (tt, tt)
    by false = λ c e a. (tt, (tt, (tt, tt)))

  pub straight_turn : (a t : ℕ) → Straight far (turn a t)
  straight_turn a t = by (a == t) where
    by : (b : Bool) → Straight far (cond b [] (turn_by (distance_between a t)))
    by true = straight_none far
    by false = straight_turn_by (distance_between a t)

  pub goes_items : (a t : ℕ) → LockItems far (goes a t)
  goes_items a t = items_then far (turn a t) (Go t ∷ []) (turn_items a t) (items_go far t [] (items_none far))

  pub goes_lands : (a t : ℕ) → LandItems far (goes a t)
  goes_lands a t = land_behind far (turn a t) (Go t ∷ []) (straight_turn a t) (land_go far t)

  -- ---- the table
  abbrev again_front : ℕ → List Item
  again_front d = Plain (ins Add SPARE DISTANCE DISTANCE (pos 0)) ∷ Plain (ins Add SPARE SPARE SIGNATURE (pos 0)) ∷ Plain (ins Lw DISTANCE SPARE 0 (pos 0)) ∷ Plain (ins Add SPARE SPARE DISTANCE (pos 0)) ∷ Plain (ins Lui DISTANCE 0 0 (pos d)) ∷ []

  abbrev jumps : List Item
  jumps = Plain (ins Jalr 0 TEMPORARY 0 (pos 0)) ∷ []

  jumps_items : LockItems far jumps
  jumps_items = items_one far (ins Jalr 0 TEMPORARY 0 (pos 0)) [] (a_jump_reg (ins Jalr 0 TEMPORARY 0 (pos 0)) refl (inr (omega arith))) (items_none far)

  again_items : (d : ℕ) → LockItems far (look_again d)
  again_items d =
      let differs = ins Beq 0 TEMPORARY SPARE (pos 8) in
      computing (again_front d) (Plain differs ∷ fired_check ∷ jumps) refl (compares differs jumps refl (inr (omega arith)) (inr (omega arith)) refl jumps_items)

  again_lands : (d : ℕ) → LandItems far (look_again d)
  again_lands d =
      let differs : List Item = Plain (ins Beq 0 TEMPORARY SPARE (pos 8)) ∷ fired_check ∷ [] in
      let last : Straight far jumps = λ c e a. (tt, tt) in
      land_behind far (again_front d) (differs ++ jumps) (straight (again_front d) refl)
      (land_then far differs jumps (land_check far (ins Beq 0 TEMPORARY SPARE (pos 8)) refl refl) jumps_items (straight_lands far jumps last))

  -- both look-ups
  looks_items : (r : ℕ) (d : ℕ) → list_all computes (look_up r) ≡ true → LockItems far (look_up r ++ look_again d)
  looks_items r d e = computing (look_up r) (look_again d) e (again_items d)

  looks_lands : (r : ℕ) (d : ℕ) → list_all computes (look_up r) ≡ true → LandItems far (look_up r ++ look_again d)
  looks_lands r d e = land_behind far (look_up r) (look_again d) (straight (look_up r) e) (again_lands d)

  -- ---- the check: what stands behind its parts
  module _ (d every round : ℕ) (spans : List (ℕ × ℕ)) (first : ℕ) where
    abbrev end_of : List Item
    end_of = done first every ++ (look_up SIGNATURE ++ look_again d)

    abbrev visits_of : List Item
    visits_of = visit round spans ++ end_of

    abbrev compares_of : List Item
    compares_of = compare ++ (begun first ++ visits_of)

    end_items : LockItems far end_of
    end_items = computing (done first every) (look_up SIGNATURE ++ look_again d) refl (looks_items SIGNATURE d refl)

    end_lands : LandItems far end_of
    end_lands = land_behind far (done first every) (look_up SIGNATURE ++ look_again d) (straight (done first every) refl) (looks_lands SIGNATURE d refl)

    compares_items : LockItems far compares_of
    compares_items =
        items_then far compare (begun first ++ visits_of) (compare_items far)
        (computing (begun first) visits_of refl (items_then far (visit round spans) end_of (visits_items far round spans) end_items))

    compares_lands : LandItems far compares_of
    compares_lands =
        land_behind far compare (begun first ++ visits_of) (straight_compare far)
        (land_behind far (begun first) visits_of (straight (begun first) refl) (land_then far (visit round spans) end_of (land_visits far round spans) end_items end_lands))

    called_checks : LockItems far (called ++ (check_distance d ++ compares_of))
    called_checks = called_items (check_distance d ++ compares_of) (distance_items d compares_of compares_items)

    called_leads : LandItems far (called ++ (check_distance d ++ compares_of))
    called_leads = land_then far called (check_distance d ++ compares_of) called_lands (distance_items d compares_of compares_items) (distance_lands d compares_of compares_items compares_lands)

  pub check_items : (base d every round : ℕ) (spans : List (ℕ × ℕ)) → LockItems far (check base d every round spans)
  check_items base d every round spans = called_checks d every round spans (first_word base spans)

  pub check_lands : (base d every round : ℕ) (spans : List (ℕ × ℕ)) → LandItems far (check base d every round spans)
  check_lands base d every round spans = called_leads d every round spans (first_word base spans)

  -- ---- the leave of a JALR
  module _ (d : ℕ) (i : Ins) (a at : ℕ) (h1 : i.rs1 ≤ LAST_ORIGINAL) where
    abbrev use_it : ℕ → Ins
    use_it r = ins Addi TEMPORARY r 0 i.imm

    abbrev even : List Item
    even = Plain (ins Andi TEMPORARY TEMPORARY 0 (neg_ℤ (pos 2))) ∷ []

    -- from the links on, from the test of the target on, and from the guard on
    abbrev linked : List Item
    linked = links i at ++ (look_up TEMPORARY ++ look_again d)

    abbrev tested : List Item
    tested = even ++ (called ++ linked)

    abbrev guarded : List Item
    guarded = guard i.rs1 ++ (Plain (use_it i.rs1) ∷ tested)

    linked_items : i.rd ≤ LAST_ORIGINAL → LockItems far linked
    linked_items hd = items_then far (links i at) (look_up TEMPORARY ++ look_again d) (links_items far i at hd) (looks_items TEMPORARY d refl)

    guarded_items : i.rd ≤ LAST_ORIGINAL → LockItems far guarded
    guarded_items hd =
        let own = use_it i.rs1 in
        let used : LockItems far (guard i.rs1 ++ (Plain own ∷ [])) = one_guard far own i.rs1 (if_guarded own i.rs1 h1 (takes_use i.rs1 i.imm h1)) in
        subst (LockItems far) (append_assoc (guard i.rs1) (Plain own ∷ []) tested) (items_then far (guard i.rs1 ++ (Plain own ∷ [])) tested used (computing even (called ++ linked) refl (called_items linked (linked_items hd))))

    leap_items : (fall : ℕ → List Item) → i.rd ≤ LAST_ORIGINAL → LockItems far (leave_as d [] fall class.JumpReg i a at)
    leap_items fall hd =
        let other = use_it (pair i.rs1) in
        let signs : List Item = even ++ (Plain (ins Add SIGNATURE SIGNATURE TEMPORARY (pos 0)) ∷ Constant TEMPORARY a ∷ Plain (ins Sub SIGNATURE SIGNATURE TEMPORARY (pos 0)) ∷ []) in
        items_one far other (signs ++ (check_distance d ++ guarded)) (scratch_compute other refl (pair_scratch i.rs1) (inl refl)) (computing signs (check_distance d ++ guarded) refl (distance_items d guarded (guarded_items hd)))

    leap_lands : (fall : ℕ → List Item) → i.rd ≤ LAST_ORIGINAL → LandItems far (leave_as d [] fall class.JumpReg i a at)
    leap_lands fall hd =
        let turns : List Item = take_target i (pair i.rs1) ++ (Plain (ins Add SIGNATURE SIGNATURE TEMPORARY (pos 0)) ∷ []) in
        let takes : List Item = take_target i i.rs1 in
        let away : List Item = Plain (ins Sub SIGNATURE SIGNATURE TEMPORARY (pos 0)) ∷ [] in
        let turned : Straight far turns = λ c e a. (tt, (tt, (tt, tt))) in
        let last : Straight far away = λ c e a. (tt, tt) in
        let taken : Straight far takes = λ c e a. (tt, (tt, tt)) in
        let all_turned : Straight far (turn_leap i a) = straight_then far turns (Constant TEMPORARY a ∷ away) turned (straight_constant far 30 a away last) in
        let leads : LandItems far (called ++ linked) = land_then far called linked called_lands (linked_items hd) (land_behind far (links i at) (look_up TEMPORARY ++ look_again d) (straight_links far i at) (looks_lands TEMPORARY d refl)) in
        let behind : LandItems far guarded = land_behind far (guard i.rs1) (takes ++ (called ++ linked)) (straight_guard far i.rs1 h1) (land_behind far takes (called ++ linked) taken leads) in
        land_behind far (turn_leap i a) (check_distance d ++ guarded) all_turned (distance_lands d guarded (guarded_items hd) behind)

-- ---- where they lead, in near code
more_lands : (fall : ℕ → List Item) (a t : ℕ) → ((t : ℕ) → LandItems false (fall t)) → LandItems false (turn a t ++ fall t)
more_lands fall a t f = land_behind false (turn a t) (fall t) (straight_turn false a t) (f t)

more_items : (fall : ℕ → List Item) (a t : ℕ) → ((t : ℕ) → LockItems false (fall t)) → LockItems false (turn a t ++ fall t)
more_items fall a t f = items_then false (turn a t) (fall t) (turn_items false a t) (f t)

-- ---- any leave
-- what stands before the end
before_items : (form : Form) → LockItems false (before_end form)
before_items form = by form.sweep where
  by : (b : Bool) → LockItems false (cond b (sweep form.spans ++ compare) [])
  by true = items_then false (sweep form.spans) compare (sweep_items false form.spans) (compare_items false)
  by false = items_none false

before_lands : (form : Form) → LandItems false (before_end form)
before_lands form = by form.sweep where
  by : (b : Bool) → LandItems false (cond b (sweep form.spans ++ compare) [])
  by true = land_then false (sweep form.spans) compare (land_sweep false form.spans) (compare_items false) (straight_lands false compare (straight_compare false))
  by false = straight_lands false [] (straight_none false)

ecall_items : (form : Form) (i : Ins) → class_of i.kind ≡ class.End → LockItems false (before_end form ++ (Plain i ∷ []))
ecall_items form i c = items_then false (before_end form) (Plain i ∷ []) (before_items form) (items_one false i [] (an_end i c) (items_none false))

ecall_lands : (form : Form) (i : Ins) → class_of i.kind ≡ class.End → LandItems false (before_end form ++ (Plain i ∷ []))
ecall_lands form i c = land_then false (before_end form) (Plain i ∷ []) (before_lands form) (items_one false i [] (an_end i c) (items_none false)) (straight_lands false (Plain i ∷ []) (straight_one false i class.End [] c (λ c a. tt) (straight_none false)))

ended_items : (d : ℕ) (form : Form) (i : Ins) (a : ℕ) → class_of i.kind ≡ class.End → LockItems false (check_distance d ++ (check_sign a ++ (before_end form ++ (Plain i ∷ []))))
ended_items d form i a c = distance_items false d (check_sign a ++ (before_end form ++ (Plain i ∷ []))) (sign_items false a (before_end form ++ (Plain i ∷ [])) (ecall_items form i c))

ended_lands : (d : ℕ) (form : Form) (i : Ins) (a : ℕ) → class_of i.kind ≡ class.End → LandItems false (check_distance d ++ (check_sign a ++ (before_end form ++ (Plain i ∷ []))))
ended_lands d form i a c =
    let last = before_end form ++ (Plain i ∷ []) in
    distance_lands false d (check_sign a ++ last) (sign_items false a last (ecall_items form i c)) (sign_lands false a last (ecall_items form i c) (ecall_lands form i c))

pub leave_items : (d : ℕ) (form : Form) (fall : ℕ → List Item) (e : End) (a at : ℕ) → ((t : ℕ) → LockItems false (fall t)) → GoodEnd e → LockItems false (leave d (before_end form) fall e a at)
leave_items d form fall Falls a at f g = more_items fall a at f
leave_items d form fall (Stops i) a at f (end_branches c h1 h2) = rw c (branch_items d (before_end form) fall i a at c h1 h2 (goes_items false a (target i at)) (more_items fall a ((at + 4) % 2 ^ 64) f))
leave_items d form fall (Stops i) a at f (end_jumps c hd) = rw c (items_then false (links i at) (goes a (target i at)) (links_items false i at hd) (goes_items false a (target i at)))
leave_items d form fall (Stops i) a at f (end_jumps_reg c hd h1) = rw c (leap_items false d i a at h1 fall hd)
leave_items d form fall (Stops i) a at f (end_ends c) = rw c (items_then false compare (check_distance d ++ (check_sign a ++ (before_end form ++ (Plain i ∷ [])))) (compare_items false) (ended_items d form i a c))
leave_items d form fall (Stops i) a at f (end_illegal c) = rw c (items_one false i [] (an_illegal i c) (items_none false))

pub leave_lands : (d : ℕ) (form : Form) (fall : ℕ → List Item) (e : End) (a at : ℕ) → ((t : ℕ) → LockItems false (fall t)) → ((t : ℕ) → LandItems false (fall t)) → GoodEnd e → LandItems false (leave d (before_end form) fall e a at)
leave_lands d form fall Falls a at f h g = more_lands fall a at h
leave_lands d form fall (Stops i) a at f h (end_branches c h1 h2) =
    let n = (at + 4) % 2 ^ 64 in
    let t = target i at in
    rw c (branch_lands d (before_end form) fall i a at c h1 h2 (goes_items false a t) (more_items fall a n f) (goes_lands false a t) (more_lands fall a n h))
leave_lands d form fall (Stops i) a at f h (end_jumps c hd) = rw c (land_behind false (links i at) (goes a (target i at)) (straight_links false i at) (goes_lands false a (target i at)))
leave_lands d form fall (Stops i) a at f h (end_jumps_reg c hd h1) = rw c (leap_lands false d i a at h1 fall hd)
leave_lands d form fall (Stops i) a at f h (end_ends c) = rw c (land_behind false compare (check_distance d ++ (check_sign a ++ (before_end form ++ (Plain i ∷ [])))) (straight_compare false) (ended_lands d form i a c))
leave_lands d form fall (Stops i) a at f h (end_illegal c) = rw c (straight_lands false (Plain i ∷ []) (straight_one false i class.Illegal [] c (λ c a. tt) (straight_none false)))

-- ---- what runs first
abbrev start_front : ℕ → ℕ → List Item
start_front d a = Plain (ins Lui DISTANCE 0 0 (pos d)) ∷ Constant SIGNATURE a ∷ Plain (ins Addi CURSOR 0 0 (pos 2047)) ∷ []

pub begin_items : (d a : ℕ) → LockItems false (begin d a)
begin_items d a =
    let tail = start_front d a ++ (Go a ∷ []) in
    items_then false (zero_from 1 ORIGINALS) (zero_from 17 ORIGINALS ++ tail) (zero_items false 1 ORIGINALS)
    (items_then false (zero_from 17 ORIGINALS) tail (zero_items false 17 ORIGINALS) (computing false (start_front d a) (Go a ∷ []) refl (items_go false a [] (items_none false))))

pub begin_lands : (d a : ℕ) → LandItems false (begin d a)
begin_lands d a =
    let tail = start_front d a ++ (Go a ∷ []) in
    land_behind false (zero_from 1 ORIGINALS) (zero_from 17 ORIGINALS ++ tail) (straight_zeros false 1 ORIGINALS)
    (land_behind false (zero_from 17 ORIGINALS) tail (straight_zeros false 17 ORIGINALS) (land_behind false (start_front d a) (Go a ∷ []) (straight false (start_front d a) refl) (land_go false a)))

-- A leave under a wrong signature, or with a wrong x14: the next entry has a wrong one too, or the leave's test fires.
use Rattle.std.proofs.Common.{◌≡◌, ℕ, zero, suc, ◌+◌, ◌*◌, ◌/◌, ◌%◌, ◌^◌, ◌<◌, ◌≤◌, ◌⊎◌, inl, inr, ⊎_elim, Bool, true, false, cond, List, [], ◌∷◌, ◌++◌, length, refl, sym, ap, ◌∙◌, subst, arith, append_assoc}
use Rattle.std.specs.Prelude.{◌==◌, ◌-◌, pos}
use Rattle.std.proofs.lemmas.Bool.{eqb-true, ne_eqb, cases_eq}
use Rattle.std.proofs.lemmas.List.{append-nil}
use Rattle.rv_isa.specs.declared.class.Class.TheVariants as class
use Rattle.machine.specs.Table.{ins, Ins, Illegal, Lui, Beq}
use Rattle.qed_model.specs.Promise.Kept.{is_trapped}
use Rattle.qed_model.specs.Weave.Blocks.{begins_at}
use Rattle.qed_model.specs.Weave.Code.{pieces_of}
use Rattle.qed_model.specs.Weave.Lean.{leave_cost_as, take_target, called, check_distance, check_way, look_up, look_again, turn, goes, taken, opposite, leave_as, cost}
use Rattle.qed_model.specs.Weave.LeanCode.{Lean, fall_to}
use Rattle.machine.specs.Offsets.{distance_between}
use Rattle.qed_model.specs.Weave.Placed.{sum_of_sizes}
use Rattle.qed_model.specs.Weave.Sequences.{Reads, End, Block, body_length, check_sign, compare, guard, links, fired_check, ORIGINALS, LAST_ORIGINAL, PAIR_DISTANCE, DISTANCE, SIGNATURE, CURSOR, TEMPORARY, pair}
use Rattle.weave_core.specs.World.{World, Item, Mark, Plain, Go, Program, holds, wrapped, State, reg, moved, jumped, trapped, imm, next_pc, execute, Known, step, run, target, class_of}
use Rattle.weave_core.specs.Blocks.{EndStands}
use Rattle.weave_core.specs.Kinds.{originals}
use Rattle.weave_core.specs.Weave.{Weave}
use Rattle.weave_core.specs.WeaveLaws.{PiecesAt}
use Rattle.lean.specs.Woven.{LeanPlan, lean_weave_of}
use Rattle.lean.proofs.Weave.Chain.{items, effects, read_back, chain, cost_append}
use Rattle.lean.proofs.Weave.Costs.{guard_most, way_most}
use Rattle.lean.proofs.Weave.Drift.{Drifts, comes_none, is_other, keep_guards, keep_way, drifts_append, drifts_links, drifts_piece, drifts_distance, Comes, comes_over, comes_one, comes_more, comes_behind, comes_on, Drifting, Before, over_of, drift, step-class, Over as CodeOver, over_moved, known_at, difference, WeaveIn, go_walk, go_most, jumped_to, branch_passed, step-break, pc_four, sets_compute, writes, writes_out, writes_long, standing_step, standing_run}
use Rattle.lean.proofs.Weave.Leap.{goal, signed, turn_ops, turn_gives, aim_ops, aim_gives}
use Rattle.lean.proofs.Weave.Leave.{far_enough, beyond_taken, guard_cost}
use Rattle.lean.proofs.Weave.Promise.{woven}
use Rattle.lean.proofs.Weave.Sign.{fires, distance_set}
use Rattle.lean.proofs.Weave.Turn.{lui_value, turn_any, turned}
use Rattle.lean.proofs.Weave.Ways.{opposite_is}
use Rattle.std.specs.Prelude.{max}
use Rattle.std.proofs.Math.Nat.{le-max_left, le-max_right}
use Rattle.machine.specs.declared.outcome.Cause.TheVariants as cause

-- no pair is x16 or x30
not_sixteen : (r : ℕ) → r ≤ LAST_ORIGINAL → pair r ≡ 16 → ⊥
not_sixteen zero h e = absurd (omega (arith, e))
not_sixteen (suc r) h e = absurd (omega (arith, h, e))

not_thirty : (r : ℕ) → r ≤ LAST_ORIGINAL → pair r ≡ 30 → ⊥
not_thirty zero h e = absurd (omega (arith, e))
not_thirty (suc r) h e = absurd (omega (arith, h, e))

-- ---- the signature
-- turned from one address to another, it is that one only where it was the first
turned_same : (a t x z : ℕ) → a < 2 ^ 64 → x < 2 ^ 64 → (a + z) % 2 ^ 64 ≡ t → (x + z) % 2 ^ 64 ≡ t → x ≡ a
turned_same a t x z ha hx e f = omega (arith, ha, hx, e, f)

-- a target added and the address of the block taken away leave the target only if it was that address
shifted_same : (a x n : ℕ) → a < 2 ^ 64 → x < 2 ^ 64 → ((x + n % 2 ^ 64 / 2 * 2) % 2 ^ 64 + (2 ^ 64 - a)) % 2 ^ 64 ≡ n % 2 ^ 64 / 2 * 2 → x ≡ a
shifted_same a x n ha hx e = omega (arith, ha, hx, e)

module _ (w : World) (l : Lean) (leader : ℕ → Bool) where
  -- ---- the pieces
  pub drifts_pieces : (ps : List (List Ins)) (e : End) (at : ℕ) → PiecesAt w (lean_weave_of w l leader) leader ps e at → Drifts (pieces_of (lean_weave_of w l leader).code ps at)
  drifts_pieces [] e at h = tt
  drifts_pieces (q ∷ qs) e at h = drifts_append ((lean_weave_of w l leader).code.piece q at) (pieces_of (lean_weave_of w l leader).code qs (at + 4 * length q)) (drifts_piece l.diverse q at h.0.fit) (drifts_pieces qs e (at + 4 * length q) h.1)

  pub end_stands : (ps : List (List Ins)) (e : End) (at : ℕ) → PiecesAt w (lean_weave_of w l leader) leader ps e at → EndStands w leader e (at + 4 * body_length ps)
  end_stands [] e at h = let z : at ≡ at + 4 * 0 = omega arith in subst (EndStands w leader e) z h
  end_stands (q ∷ qs) e at h = let z : at + 4 * length q + 4 * body_length qs ≡ at + 4 * body_length (q ∷ qs) = omega arith in subst (EndStands w leader e) z (end_stands qs e (at + 4 * length q) h.1)

module _ (f g : Program) (w : World) (l : Lean) (blocks : List Block) (p : LeanPlan f g w l blocks) (also : Bool) (c q : ℕ) where
  abbrev pub leader : ℕ → Bool
  leader a = begins_at blocks a

  abbrev pub v : Weave
  v = lean_weave_of w l leader

  -- no state: the run is over before
  abbrev pub Over : State → ℕ → Type 0
  Over u most = Comes (λ y. ⊥) u most

  pub over_more : (u : State) (m n : ℕ) → m ≤ n → Over u m → Over u n
  over_more u m n h c = comes_more (λ y. ⊥) u m n h c

  pub over_on : (P : State → Type 0) (u : State) (m n : ℕ) → Comes P u m → ((y : State) → P y → Over y n) → Over u (m + n)
  over_on P u m n c f = comes_on P (λ y. ⊥) u m n c f

  pub over_behind : (u y : State) (m n : ℕ) → run u m ≡ y → Over y n → Over u (m + n)
  over_behind u y m n e c = comes_behind (λ y. ⊥) u y m n e c

  -- at the entry of a leader to which some way leads, under another signature or with another number in x14
  pub record Lost (on : ℕ → Bool) (y : State) : Type 0 where
    pub at : ℕ
    pub sign : ℕ
    pub way : on at ≡ true
    pub leads : leader at ≡ true
    pub here : y.pc ≡ w.entry at
    pub wrong : (sign ≡ at → ⊥) ⊎ ((also ≡ true) × (q ≡ w.distance → ⊥))
    pub small : sign < 2 ^ 64
    pub state : Drifting w (sign, c, q) y

  pub to_far : (a : ℕ) (xs : List Item) → Reads false w.code w.entry a xs → Reads w.form.far w.code w.entry a xs
  to_far a xs r = subst (λ b. Reads b w.code w.entry a xs) (sym p.sound.near) r

  pub to_near : (a : ℕ) (xs : List Item) → Reads w.form.far w.code w.entry a xs → Reads false w.code w.entry a xs
  to_near a xs r = subst (λ b. Reads b w.code w.entry a xs) p.sound.near r

  -- the signature is another one than an address, or, if that is asked too, x14 has another number than the distance
  abbrev Wrong : ℕ → ℕ → Type 0
  Wrong t x = (x ≡ t → ⊥) ⊎ ((also ≡ true) × (q ≡ w.distance → ⊥))

  abbrev Other : ℕ → ℕ → Type 0
  Other t x = leader t ≡ true → Wrong t x

  -- ---- single words
  -- the zero word
  illegal_step : (x : ℕ) (y : State) (i : Ins) → Drifting w (x, c, q) y → w.code y.pc ≡ Known i → class_of i.kind ≡ class.Illegal → step y ≡ trapped (cause.Word 0) y
  unfolding execute
  illegal_step x y i a h e = step-class y i class.Illegal a.going (known_at w.code y i (over_of w (x, c, q) y a) h) e

  pub at_illegal : (x : ℕ) (y : State) (i : Ins) → Drifting w (x, c, q) y → w.code y.pc ≡ Known i → class_of i.kind ≡ class.Illegal → Over y 0
  at_illegal x y i a h e = comes_over (λ z. ⊥) y 0 (inr (ap (λ s. is_trapped s.outcome) (illegal_step x y i a h e)))

  -- a comparison of two numbers
  pub beq_fires : (u : State) (r q : ℕ) (rest : List Item) → CodeOver w.code u → Reads w.form.far w.code w.entry u.pc (Plain (ins Beq 0 r q (pos 8)) ∷ fired_check ∷ rest) → (reg u r ≡ reg u q → ⊥) → Over u 1
  unfolding holds
  beq_fires u r q rest o k ne =
      let b = branch_passed w u (ins Beq 0 r q (pos 8)) o k.0 refl (ne_eqb (reg u r) (reg u q) ne) in
      let y = moved u.regs (u.pc + 4) u in
      over_behind u y 1 0 b.ends (comes_over (λ z. ⊥) y 0 (inl (step-break y o.going (o.code (u.pc + 4) ∙ k.1.0))))

  -- ---- the entries
  in_it : WeaveIn f g w v leader
  in_it = woven f g w l blocks p

  pub low_of : (t : ℕ) → leader t ≡ true → t < 2 ^ 64
  low_of t h = (in_it.entries t h).good.low

  at_entry : (on : ℕ → Bool) (t x : ℕ) (y : State) → on t ≡ true → x < 2 ^ 64 → Drifting w (x, c, q) y → y.pc ≡ w.entry t → Other t x → Comes (Lost on) y 0
  at_entry on t x y way small a at ne =
      ⊎_elim
      (λ h. comes_none (Lost on) y 0 (record { at = t; sign = x; way = way; leads = h; here = at; wrong = ne h; small = small; state = a }))
      (λ z. comes_over (Lost on) y 0 (inr (ap (λ s. is_trapped s.outcome) (illegal_step x y (ins Illegal 0 0 0 (pos 0)) a (ap w.code at ∙ z) refl))))
      (p.only.stubbed t)

  entry_place : (t : ℕ) → (w.entry t < 2 ^ 64) × (w.entry t % 4 ≡ 0)
  entry_place t =
      ⊎_elim
      (λ h. let e = in_it.rows.known t (in_it.entries t h) in (e.entry_low, e.grain))
      (λ z. let i = ins Illegal 0 0 0 (pos 0) in let low = w.low (w.entry t) i z in (omega (arith, low), w.grain (w.entry t) i z))
      (p.only.stubbed t)

  -- a jump to one
  go_law : (on : ℕ → Bool) (t x : ℕ) (y : State) (rest : List Item) → on t ≡ true → x < 2 ^ 64 → Drifting w (x, c, q) y → Reads false w.code w.entry y.pc (Go t ∷ rest) → Other t x → Comes (Lost on) y 1
  go_law on t x y rest way small a r ne =
      let e = entry_place t in
      let k = go_walk w y t rest (over_of w (x, c, q) y a) (to_far y.pc (Go t ∷ rest) r) a.standing.flagged.regs e.0 e.1 in
      let one : go_most w.form.far ≡ 1 = ap go_most p.sound.near in
      let z = run y k.steps in
      let there : Drifting w (x, c, q) z = record { going = ap (λ s. s.outcome) k.walk.ends ∙ a.going; standing = standing_run w.code w.output w.output_fixed k.steps y a.standing; sign = ap (λ s. reg s SIGNATURE) k.walk.ends ∙ k.same 16 (λ q. absurd (omega arith)) ∙ a.sign; cursor = ap (λ s. reg s CURSOR) k.walk.ends ∙ k.same 15 (λ q. absurd (omega arith)) ∙ a.cursor; distance = ap (λ s. reg s DISTANCE) k.walk.ends ∙ k.same 14 (λ q. absurd (omega arith)) ∙ a.distance } in
      comes_more (Lost on) y (k.steps + 0) 1 (omega (arith, k.within, one)) (comes_behind (Lost on) y z k.steps 0 refl (at_entry on t x z way small there (ap (λ s. s.pc) k.walk.ends) ne))

  -- a fall to one
  fall_law : (on : ℕ → Bool) (t x : ℕ) (y : State) → on t ≡ true → x < 2 ^ 64 → Drifting w (x, c, q) y → Reads false w.code w.entry y.pc (fall_to leader t) → Other t x → Comes (Lost on) y (cost (fall_to leader t))
  fall_law on t x y way small a r ne = by (leader t) r where
    by : (b : Bool) → Reads false w.code w.entry y.pc (cond b (Mark t ∷ []) (Go t ∷ [])) → Comes (Lost on) y (cost (cond b (Mark t ∷ []) (Go t ∷ [])))
    by true r = at_entry on t x y way small a (sym r.0) ne
    by false r = go_law on t x y [] way small a r ne

  -- ---- the leaves
  module _ (a x : ℕ) (low : a < 2 ^ 64) (small : x < 2 ^ 64) (ne : Wrong a x) where
    -- behind a turn the signature is another one still
    abbrev Turned : ℕ → List Item → State → Type 0
    Turned t rest y = (z : ℕ) × Before w (z, c, q) rest y × (z < 2 ^ 64) × (t < 2 ^ 64 → Wrong t z)

    turn_law : (t : ℕ) (u : State) (rest : List Item) → Drifting w (x, c, q) u → Reads false w.code w.entry u.pc (turn a t ++ rest) → Comes (Turned t rest) u (cost (turn a t))
    turn_law t u rest k r =
        let s = turn_any w u rest (over_of w (x, c, q) u k) k.standing.flagged.regs a t (to_far u.pc (turn a t ++ rest) r) in
        let to = turned w u rest (over_of w (x, c, q) u k) k.standing.flagged.regs a t in
        let ends = s.sets.walk.ends in
        let there : Drifting w (turned w u rest (over_of w (x, c, q) u k) k.standing.flagged.regs a t, c, q) (run u s.steps) = record { going = ap (λ z. z.outcome) ends ∙ k.going; standing = standing_run w.code w.output w.output_fixed s.steps u k.standing; sign = ap (λ z. reg z SIGNATURE) ends ∙ s.sign; cursor = ap (λ z. reg z CURSOR) ends ∙ s.same 15 (λ q. absurd (omega arith)) (λ q. absurd (omega arith)) ∙ k.cursor; distance = ap (λ z. reg z DISTANCE) ends ∙ s.same 14 (λ q. absurd (omega arith)) (λ q. absurd (omega arith)) ∙ k.distance } in
        record {
          steps = s.steps;
          within = s.within;
          is = inr (to, (there, subst (λ q. Reads false w.code w.entry q rest) (sym (ap (λ z. z.pc) ends)) (to_near s.sets.pc rest s.sets.reads)), low_turn (a == t), λ ht. ⊎_elim (λ n. inl (λ e. n (was (a == t) refl ht e))) (λ d. inr d) ne);
        } where
          low_turn : (b : Bool) → cond b (reg u SIGNATURE) ((reg u SIGNATURE + wrapped (distance_between a t)) % 2 ^ 64) < 2 ^ 64
          low_turn true = let e = k.sign in omega (arith, e, small)
          low_turn false = omega arith

          was : (b : Bool) → (a == t) ≡ b → t < 2 ^ 64 → cond b (reg u SIGNATURE) ((reg u SIGNATURE + wrapped (distance_between a t)) % 2 ^ 64) ≡ t → x ≡ a
          was true q ht e = sym k.sign ∙ e ∙ sym (eqb-true a t q)
          was false q ht e = turned_same a t x (wrapped (distance_between a t)) low small (difference a t low ht) (ap (λ n. (n + wrapped (distance_between a t)) % 2 ^ 64) (sym k.sign) ∙ e)

    goes_law : (on : ℕ → Bool) (t : ℕ) (u : State) (rest : List Item) → on t ≡ true → Drifting w (x, c, q) u → Reads false w.code w.entry u.pc (goes a t ++ rest) → Comes (Lost on) u (cost (goes a t))
    goes_law on t u rest way k r =
        let flat = subst (λ xs. Reads false w.code w.entry u.pc xs) (append_assoc (turn a t) (Go t ∷ []) rest) r in
        subst (Comes (Lost on) u) (sym (cost_append (turn a t) (Go t ∷ [])))
        (comes_on (Turned t (Go t ∷ rest)) (Lost on) u (cost (turn a t)) 1 (turn_law t u (Go t ∷ rest) k flat) (λ y b. go_law on t b.0 y rest way b.2 b.1.0 b.1.1 (λ h. b.3 (low_of t h))))

    pub falls_law : (on : ℕ → Bool) (t : ℕ) (u : State) → on t ≡ true → Drifting w (x, c, q) u → Reads false w.code w.entry u.pc (turn a t ++ fall_to leader t) → Comes (Lost on) u (cost (turn a t ++ fall_to leader t))
    falls_law on t u way k r =
        subst (Comes (Lost on) u) (sym (cost_append (turn a t) (fall_to leader t)))
        (comes_on (Turned t (fall_to leader t)) (Lost on) u (cost (turn a t)) (cost (fall_to leader t)) (turn_law t u (fall_to leader t) k r) (λ y b. fall_law on t b.0 y way b.2 b.1.0 b.1.1 (λ h. b.3 (low_of t h))))

    -- the comparison of x14, where that has another number
    pub distance_off : (u : State) (rest : List Item) → CodeOver w.code u → length u.regs ≡ 32 → (reg u DISTANCE ≡ w.distance → ⊥) → Reads w.form.far w.code w.entry u.pc (check_distance l.distance ++ rest) → Over u 2
    distance_off u rest o long other r =
        let d = l.distance in
        let near = p.sound.small in
        let same = p.sound.apart in
        let s = sets_compute w u (ins Lui TEMPORARY 0 0 (pos d)) d (Plain (ins Beq 0 DISTANCE TEMPORARY (pos 8)) ∷ fired_check ∷ rest) o r refl (λ e. absurd (cc)) (lui_value u 30 (pos d) ∙ whole d (omega (arith, near, same))) in
        let ws : List (ℕ × ℕ) = (30, d) ∷ [] in
        let y = moved (writes ws u.regs) s.pc u in
        over_behind u y 1 1 s.walk.ends (beq_fires y 14 30 rest (over_moved w.code u (writes ws u.regs) s.pc o) s.reads (λ e. other (sym (read_back ws u.regs 14 long refl) ∙ e ∙ read_back ws u.regs 30 long refl ∙ same))) where
          whole : (n : ℕ) → n < 2 ^ 64 → n % 2 ^ 64 ≡ n
          whole n h = omega (arith, h)

    pub end_law : (u : State) (rest : List Item) → Drifting w (x, c, q) u → Reads false w.code w.entry u.pc (compare ++ (check_distance l.distance ++ (check_sign a ++ rest))) → Over u 18
    end_law u rest k r =
        let d = l.distance in
        let more = check_sign a ++ rest in
        over_on (Before w (x, c, q) (check_distance d ++ more)) u ORIGINALS 5 (drift w compare (keep_guards is_other true originals) (x, c, q) u (check_distance d ++ more) k r)
        (λ z b.
        ⊎_elim
        (λ n.
        over_on (Before w (x, c, q) more) z 2 3 (drift w (check_distance d) (drifts_distance d) (x, c, q) z more b.0 b.1)
        (λ y b. record { steps = 3; within = omega arith; is = inl (inl (fires w y a rest low (over_of w (x, c, q) y b.0) b.0.standing.flagged.regs (to_far y.pc more b.1) (λ e. n (sym b.0.sign ∙ e)))) }))
        (λ o. over_more z 2 5 (omega arith) (distance_off z more (over_of w (x, c, q) z b.0) b.0.standing.flagged.regs (λ e. o.1 (sym b.0.distance ∙ e)) (to_far z.pc (check_distance d ++ more) b.1)))
        ne)

    pub jump_law : (on : ℕ → Bool) (u : State) (i : Ins) (at : ℕ) → on (target i at) ≡ true → i.rd ≤ LAST_ORIGINAL → Drifting w (x, c, q) u → Reads false w.code w.entry u.pc (links i at ++ goes a (target i at)) → Comes (Lost on) u (cost (links i at ++ goes a (target i at)))
    jump_law on u i at way h k r =
        let t = target i at in
        subst (Comes (Lost on) u) (sym (cost_append (links i at) (goes a t)))
        (comes_on (Before w (x, c, q) (goes a t)) (Lost on) u (cost (links i at)) (cost (goes a t)) (drift w (links i at) (drifts_links i at h) (x, c, q) u (goes a t) k r) (λ y b. goes_law on t y [] way b.0 (subst (λ xs. Reads false w.code w.entry y.pc xs) (sym (append-nil (goes a t))) b.1)))

    -- ---- a branch
    -- the way where the branch of the output leads, and the one behind it
    abbrev other_way : Ins → ℕ → List Item
    other_way i n = check_way (opposite i.kind) i ++ (turn a n ++ fall_to leader n)

    -- the steps behind both branches
    abbrev ways_most : ℕ → ℕ → ℕ
    ways_most t n = max (cost (goes a t)) (cost (turn a n ++ fall_to leader n))

    way_law :
        (on : ℕ → Bool) (u : State) (j i : Ins) (t n : ℕ) → on t ≡ true → on n ≡ true → class_of j.kind ≡ class.Branch → class_of i.kind ≡ class.Branch → j.imm ≡ pos (4 + sum_of_sizes false (taken i a t)) → Drifting w (x, c, q) u
        → Reads false w.code w.entry u.pc (Plain j ∷ (taken i a t ++ other_way i n)) → Comes (Lost on) u (2 + ways_most t n)
    unfolding execute
    way_law on u j i t n here there_on is b imm_is k r =
        comes_more (Lost on) u (1 + (1 + (ways_most t n))) (2 + ways_most t n) (omega arith)
        (comes_on (λ y. Before w (x, c, q) (taken i a t ++ other_way i n) y ⊎ Before w (x, c, q) (other_way i n) y) (Lost on) u 1 (1 + (ways_most t n))
        (comes_one _ u (inr (by (holds j.kind (reg u j.rs1) (reg u j.rs2)) (step-class u j class.Branch k.going (known_at w.code u j (over_of w (x, c, q) u k) r.0) is))))
        (λ y b. ⊎_elim (λ h. on_taken y h) (λ h. on_other y h) b)) where
          on_taken : (y : State) → Before w (x, c, q) (taken i a t ++ other_way i n) y → Comes (Lost on) y (1 + (ways_most t n))
          on_taken y h =
              let more = goes a t ++ other_way i n in
              let le = le-max_left (cost (goes a t)) (cost (turn a n ++ fall_to leader n)) in
              comes_on (Before w (x, c, q) more) (Lost on) y 1 (ways_most t n) (comes_more (Before w (x, c, q) more) y (cost (check_way i.kind i)) 1 (way_most i.kind i) (drift w (check_way i.kind i) (keep_way is_other true i.kind i b) (x, c, q) y more h.0 h.1)) (λ z q. comes_more (Lost on) z (cost (goes a t)) (ways_most t n) le (goes_law on t z (other_way i n) here q.0 q.1))

          on_other : (y : State) → Before w (x, c, q) (other_way i n) y → Comes (Lost on) y (1 + (ways_most t n))
          on_other y h =
              let more = turn a n ++ fall_to leader n in
              let le = le-max_right (cost (goes a t)) (cost (turn a n ++ fall_to leader n)) in
              comes_on (Before w (x, c, q) more) (Lost on) y 1 (ways_most t n) (comes_more (Before w (x, c, q) more) y (cost (check_way (opposite i.kind) i)) 1 (way_most (opposite i.kind) i) (drift w (check_way (opposite i.kind) i) (keep_way is_other true (opposite i.kind) i (opposite_is i.kind b).0) (x, c, q) y more h.0 h.1)) (λ z q. comes_more (Lost on) z (cost (turn a n ++ fall_to leader n)) (ways_most t n) le (falls_law on n z there_on q.0 q.1))

          there : (to : ℕ) → step u ≡ moved u.regs to u → Drifting w (x, c, q) (step u) × ((step u).pc ≡ to)
          there to e = (record { going = ap (λ z. z.outcome) e ∙ k.going; standing = standing_step w.code w.output w.output_fixed u k.standing; sign = ap (λ z. reg z SIGNATURE) e ∙ k.sign; cursor = ap (λ z. reg z CURSOR) e ∙ k.cursor; distance = ap (λ z. reg z DISTANCE) e ∙ k.distance }, ap (λ z. z.pc) e)

          by : (b : Bool) → step u ≡ cond b (jumped u.regs ((u.pc + imm j) % 2 ^ 64) u) (moved u.regs (next_pc u) u) → Before w (x, c, q) (taken i a t ++ other_way i n) (step u) ⊎ Before w (x, c, q) (other_way i n) (step u)
          by true e =
              let size = sum_of_sizes false (taken i a t) in
              let y = beyond_taken w leader p.sound.known p.sound.codes p.sound.near i (u.pc + 4) a t (other_way i n) (to_far (u.pc + 4) (taken i a t ++ other_way i n) r.1) in
              let goal : (u.pc + imm j) % 2 ^ 64 ≡ u.pc + 4 + size = ap (λ z. (u.pc + wrapped z) % 2 ^ 64) imm_is ∙ far_enough u.pc size y.low in
              let s = there (u.pc + 4 + size) (e ∙ ap (λ q. jumped u.regs q u) goal ∙ jumped_to u.regs (u.pc + 4 + size) u y.grain) in
              inr (s.0, subst (λ q. Reads false w.code w.entry q (other_way i n)) (sym s.1) (to_near (u.pc + 4 + size) (other_way i n) y.reads))
          by false e =
              let s = there (u.pc + 4) (e ∙ ap (λ q. moved u.regs q u) (pc_four w u j r.0)) in
              inl (s.0, subst (λ q. Reads false w.code w.entry q (taken i a t ++ other_way i n)) (sym s.1) r.1)

    pub branch_law : (on : ℕ → Bool) (u : State) (i : Ins) (at : ℕ) → on (target i at) ≡ true → on ((at + 4) % 2 ^ 64) ≡ true → class_of i.kind ≡ class.Branch → Drifting w (x, c, q) u → Reads false w.code w.entry u.pc (leave_as l.distance [] (fall_to leader) class.Branch i a at) → Comes (Lost on) u (leave_cost_as (fall_to leader) class.Branch i a at)
    branch_law on u i at here there_on b k r =
        let j = ins (opposite i.kind) 0 i.rs1 i.rs2 (pos (4 + sum_of_sizes false (taken i a (target i at)))) in
        way_law on u j i (target i at) ((at + 4) % 2 ^ 64) here there_on (opposite_is i.kind b).0 b refl k r

    -- ---- a JALR
    module _ (i : Ins) (at : ℕ) (h1 : i.rs1 ≤ LAST_ORIGINAL) where
      abbrev tail3 : List Item
      tail3 = called ++ (links i at ++ (look_up TEMPORARY ++ look_again l.distance))

      abbrev tail2 : List Item
      tail2 = take_target i i.rs1 ++ tail3

      -- under another signature
      module _ (n : x ≡ a → ⊥) where
        -- the signature turned by the pair is not the target by the same number
        differ : (value : ℕ) → signed i a x value ≡ goal i a x value → ⊥
        differ value e = n (shifted_same a x (value + imm i) low small e)

        -- behind the comparison of x14, where the original and the pair have a number
        aims_law :
            (u : State) (value : ℕ) → CodeOver w.code u → length u.regs ≡ 32 → reg u SIGNATURE ≡ signed i a x value → reg u i.rs1 ≡ value → (1 ≤ i.rs1 → reg u i.rs1 ≡ reg u (i.rs1 + PAIR_DISTANCE))
            → Reads w.form.far w.code w.entry u.pc (guard i.rs1 ++ tail2) → Over u 4
        aims_law u value o long sign is same r =
            let few = guard_most i.rs1 in
            let pass = guard_cost w u i.rs1 tail2 o r same in
            let y = moved u.regs pass.pc u in
            let aims = aim_ops i a x value i.rs1 [] in
            let s = chain w y tail3 (over_moved w.code u u.regs pass.pc o) aims long (aim_gives i a x value y i.rs1 [] long is tt) pass.reads in
            let ws = effects aims in
            let z = moved (writes ws u.regs) s.pc u in
            let not_same : reg z SIGNATURE ≡ reg z TEMPORARY → ⊥ = λ e. differ value (sym sign ∙ sym (read_back ws u.regs 16 long refl) ∙ e ∙ read_back ws u.regs 30 long refl) in
            over_more u (pass.steps + 3) 4 (omega (arith, few, pass.within))
            (over_behind u y pass.steps 3 pass.walk.ends (over_behind y z 2 1 s.walk.ends (beq_fires z 16 30 (links i at ++ (look_up TEMPORARY ++ look_again l.distance)) (over_moved w.code u (writes ws u.regs) s.pc o) s.reads not_same)))

        -- the guard, of any number
        guard_law :
            (u : State) (value : ℕ) → CodeOver w.code u → length u.regs ≡ 32 → reg u 0 ≡ 0 → reg u SIGNATURE ≡ signed i a x value → reg u (pair i.rs1) ≡ value → Reads w.form.far w.code w.entry u.pc (guard i.rs1 ++ tail2) → Over u 4
        guard_law u value o long zero_reg sign is r = by i.rs1 refl where
          by : (q : ℕ) → i.rs1 ≡ q → Over u 4
          by zero e = aims_law u value o long sign (ap (reg u) (e ∙ ap pair (sym e)) ∙ is) (λ one. absurd (omega (arith, one, e))) r
          by (suc q) e =
              let pairs : i.rs1 + PAIR_DISTANCE ≡ pair i.rs1 = ap (λ z. z + 16) e ∙ sym (ap pair e) in
              let some : (i.rs1 == 0) ≡ false = ne_eqb i.rs1 0 (λ z. absurd (omega (arith, z, e))) in
              let flat : Reads w.form.far w.code w.entry u.pc (Plain (ins Beq 0 i.rs1 (i.rs1 + PAIR_DISTANCE) (pos 8)) ∷ fired_check ∷ tail2) = subst (λ b. Reads w.form.far w.code w.entry u.pc (cond b [] (Plain (ins Beq 0 i.rs1 (i.rs1 + PAIR_DISTANCE) (pos 8)) ∷ fired_check ∷ []) ++ tail2)) some r in
              ⊎_elim
              (λ same. aims_law u value o long sign (same ∙ ap (reg u) pairs ∙ is) (λ one. same) r)
              (λ other. over_more u 1 4 (omega arith) (beq_fires u i.rs1 (i.rs1 + PAIR_DISTANCE) tail2 o flat other))
              (cases_eq (reg u i.rs1) (reg u (i.rs1 + PAIR_DISTANCE)))

        -- the comparison of x14, with any number in it
        distance_law :
            (u : State) (value : ℕ) → CodeOver w.code u → length u.regs ≡ 32 → reg u 0 ≡ 0 → reg u SIGNATURE ≡ signed i a x value → reg u (pair i.rs1) ≡ value
            → Reads w.form.far w.code w.entry u.pc (check_distance l.distance ++ (guard i.rs1 ++ tail2)) → Over u 6
        distance_law u value o long zero_reg sign is r =
            let near = p.sound.small in
            let far = p.sound.apart in
            let ws : List (ℕ × ℕ) = (30, l.distance) ∷ [] in
            let l1 = writes ws u.regs in
            ⊎_elim
            (λ same.
            let s = distance_set w u l.distance (guard i.rs1 ++ tail2) o long same (omega (arith, near, far)) r in
            let y = moved l1 s.pc u in
            over_behind u y 2 4 s.walk.ends (guard_law y value (over_moved w.code u l1 s.pc o) (writes_long ws u.regs ∙ long) (read_back ws u.regs 0 long refl ∙ zero_reg) (read_back ws u.regs 16 long refl ∙ sign) (writes_out ws u.regs (pair i.rs1) (not_thirty i.rs1 h1, tt) ∙ is) s.reads))
            (λ other. over_more u 2 6 (omega arith) (distance_off u (guard i.rs1 ++ tail2) o long (λ e. other (e ∙ sym far)) r))
            (cases_eq (reg u DISTANCE) l.distance)

      pub leap_law : (u : State) → Drifting w (x, c, q) u → Reads false w.code w.entry u.pc (leave_as l.distance [] (fall_to leader) class.JumpReg i a at) → Over u 12
      leap_law u b r =
          let value = reg u (pair i.rs1) in
          let turns = turn_ops i a x value in
          let o = over_of w (x, c, q) u b in
          let long = b.standing.flagged.regs in
          let rest = check_distance l.distance ++ (guard i.rs1 ++ tail2) in
          let s = chain w u rest o turns long (turn_gives i a x value u long b.sign refl low) (to_far u.pc (items turns ++ rest) r) in
          let ws = effects turns in
          let y = moved (writes ws u.regs) s.pc u in
          let oy = over_moved w.code u (writes ws u.regs) s.pc o in
          let long_y = writes_long ws u.regs ∙ long in
          over_behind u y 6 6 s.walk.ends
          (⊎_elim
          (λ n. distance_law n y value oy long_y (read_back ws u.regs 0 long refl ∙ b.standing.flagged.zero_reg) (read_back ws u.regs 16 long refl)
          (writes_out ws u.regs (pair i.rs1) (not_thirty i.rs1 h1, (not_thirty i.rs1 h1, (not_sixteen i.rs1 h1, (not_thirty i.rs1 h1, (not_sixteen i.rs1 h1, tt))))))
          s.reads)
          (λ other. over_more y 2 6 (omega arith) (distance_off y (guard i.rs1 ++ tail2) oy long_y (λ e. other.1 (sym b.distance ∙ sym (read_back ws u.regs 14 long refl) ∙ e)) s.reads))
          ne)

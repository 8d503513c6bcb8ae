-- A wrong signature, or a wrong number in x14, stays wrong from block to block. A tick's check, an end or a JALR fires.
use Rattle.std.proofs.Common.{◌≡◌, ℕ, zero, suc, ◌+◌, ◌-◌, ◌*◌, ◌/◌, ◌%◌, ◌^◌, ◌<◌, ◌≤◌, ◌⊎◌, inl, inr, ⊎_elim, Bool, true, false, cond, List, [], ◌∷◌, ◌++◌, refl, sym, ap, ◌∙◌, subst, arith, length}
use Rattle.std.specs.Prelude.{◌==◌, ◌||◌, pos, neg_ℤ}
use Rattle.std.proofs.lemmas.Bool.{and_parts, eqb-true, eq-eqb, or_left, or_right, cases_lt, cases_eq}
use Rattle.rv_isa.specs.declared.class.Class.TheVariants as class
use Rattle.tests.specs.Admission.Leaders.{is_end, is_indirect}
use Rattle.qed_model.specs.Promise.Kept.{after_output}
use Rattle.qed_model.specs.Promise.Landed.{placed_at}
use Rattle.qed_model.specs.Weave.Blocks.{begins_at}
use Rattle.qed_model.specs.Weave.Code.{pieces_of, body_of}
use Rattle.qed_model.specs.Weave.LeanBounds.{entry_steps, call_steps}
use Rattle.machine.specs.Offsets.{distance_between}
use Rattle.qed_model.specs.Weave.Lean.{begun as begin_visit, done, first_word, check_distance, tick, enter, call_at, called, leave, leave_as, leave_cost, leave_cost_as, cost, look_up, look_again}
use Rattle.qed_model.specs.Weave.LeanCode.{Lean, worded, fall_to, leads_as, body_steps, block_steps, end_at}
use Rattle.qed_model.specs.Weave.Sequences.{Reads, End, Falls, Stops, Block, body_length, before_end, compare, visit, guard, links, check_sign, CURSOR, SIGNATURE, TEMPORARY, DISTANCE}
use Rattle.machine.specs.Members.{Among}
use Rattle.machine.specs.Table.{ins, Addi, Andi, Beq}
use Rattle.weave_core.specs.World.{World, Item, Plain, Program, AreStartRegs, wrapped, State, reg, moved, run, target, Class, class_of, Ins}
use Rattle.weave_core.specs.Blocks.{EndStands, Leaves}
use Rattle.weave_core.specs.Weave.{Weave}
use Rattle.lean.specs.Strayed.{with_distance, HasCount, Displaced, IsInBlock, Stopped, Adrift, displaced_steps, displaced_inside}
use Rattle.lean.specs.Ticked.{with_count}
use Rattle.lean.specs.Woven.{LeanPlan, LeanDisplaced, lean_weave_of, owed, may_lead, LeanAdrift}
use Rattle.lean.proofs.Weave.Blocks.{begun, begins}
use Rattle.lean.proofs.Weave.Chain.{read_back, cost_append}
use Rattle.lean.proofs.Weave.Costs.{IsEnd, end_most}
use Rattle.lean.proofs.Weave.Drift.{Comes, comes_more, comes_on, comes_behind, Drifting, Before, over_of, drift, Over as CodeOver, over_moved, run-none, run-more, Standing, writes, standing_run, writes_long, sets_equal, sign_walk, slice_index-set_reg_same, slice_index-set_reg_other, slice_index-set_reg_zero, length-set_reg}
use Rattle.lean.proofs.Weave.Offset.{Lost, to_far, to_near, beq_fires, at_illegal, end_law, jump_law, branch_law, leap_law, falls_law, drifts_pieces, end_stands, distance_off}
use Rattle.lean.proofs.Weave.PieceCosts.{pieces_cost}
use Rattle.lean.proofs.Weave.Plan.{BlockAt}
use Rattle.lean.proofs.Weave.Promise.{block_at}
use Rattle.lean.proofs.Weave.Inside.{small_at, few, from_inside, drifting_at}
use Rattle.lean.proofs.Weave.Tick.{shifted, ticked, pass_row, call_row, jump_at}
use Rattle.lean.proofs.Weave.Sign.{fires}

-- ---- what a leave costs at least where its test fires
end_least : (leader : ℕ → Bool) (i : Ins) (a at : ℕ) → 18 ≤ cost (leave_as 0 [] (fall_to leader) class.End i a at)
end_least leader i a at = omega arith

leap_least : (leader : ℕ → Bool) (i : Ins) (a at : ℕ) → 12 ≤ cost (leave_as 0 [] (fall_to leader) class.JumpReg i a at)
leap_least leader i a at =
    let some : List Item = look_up TEMPORARY ++ look_again 0 in
    let f = cost_append (links i at) some in
    omega (arith, f, cost_append (guard i.rs1) (Plain (ins Addi TEMPORARY i.rs1 0 i.imm) ∷ Plain (ins Andi TEMPORARY TEMPORARY 0 (neg_ℤ (pos 2))) ∷ (called ++ (links i at ++ some))))

-- ---- what a number in x15 leaves
-- how far its count is from 2047, modulo 2^12
abbrev pub spare : ℕ → ℕ
spare c = (2 ^ 12 + 2047 - c % 2 ^ 12) % 2 ^ 12

-- bit 11 is the highest of what the tick shifts
low_half : (c : ℕ) → c % 2 ^ 12 < 2 ^ 11 → shifted c < 2 ^ 63
low_half c h = omega (arith, h)

high_half : (c : ℕ) → 2 ^ 11 ≤ c % 2 ^ 12 → 2 ^ 63 ≤ shifted c
high_half c h = omega (arith, h)

-- a tick that passes takes what it counts
spent : (c most : ℕ) → most ≤ 2047 → (c + most) % 2 ^ 64 % 2 ^ 12 < 2 ^ 11 → most + spare ((c + most) % 2 ^ 64) ≡ spare c
spent c most small low = omega (arith, small, low)

module _ (f g : Program) (w : World) (l : Lean) (blocks : List Block) (p : LeanPlan f g w l blocks) where
  abbrev leader : ℕ → Bool
  leader a = begins_at blocks a

  abbrev v : Weave
  v = lean_weave_of w l leader

  -- the signature is not an address, or x14 is not the distance
  abbrev Wrong : ℕ → ℕ → ℕ → Type 0
  Wrong q t x = (x ≡ t → ⊥) ⊎ ((true ≡ true) × (q ≡ w.distance → ⊥))

  -- ---- the leave of a block
  module _ (c q : ℕ) where
    abbrev L : (ℕ → Bool) → State → Type 0
    L = Lost f g w l blocks p true c q

    ended : (on : ℕ → Bool) (u : State) (m n : ℕ) → m ≤ n → Comes (λ y. ⊥) u m → Comes (L on) u n
    ended on u m n h z = record { steps = z.steps; within = omega (arith, h, z.within); is = ⊎_elim (λ o. inl o) (λ x. absurd x) z.is }

    module _ (a x : ℕ) (low : a < 2 ^ 64) (small : x < 2 ^ 64) (ne : Wrong q a x) where
      stop_law :
          (k : Class) (u : State) (i : Ins) (at : ℕ) → class_of i.kind ≡ k → Leaves k w leader i at → Drifting w (x, c, q) u
          → Reads false w.code w.entry u.pc (leave_as l.distance (before_end w.form) (fall_to leader) k i a at)
          → Comes (L (λ t. leads_as k i at t || is_indirect k)) u (leave_cost_as (fall_to leader) k i a at)
      stop_law class.End u i at e h s r = ended _ u 18 _ (end_least leader i a at) (end_law f g w l blocks p true c q a x low small ne u (before_end w.form ++ (Plain i ∷ [])) s r)
      stop_law class.Illegal u i at e h s r = ended _ u 0 _ (omega arith) (at_illegal f g w l blocks p true c q x u i s r.0 e)
      stop_law class.Jump u i at e h s r = jump_law f g w l blocks p true c q a x low small ne _ u i at (or_left _ _ (eq-eqb (target i at) (target i at) refl)) h.0 s r
      stop_law class.Branch u i at e h s r =
          let n = (at + 4) % 2 ^ 64 in
          branch_law f g w l blocks p true c q a x low small ne _ u i at
          (or_left _ _ (or_left (target i at == target i at) (n == target i at) (eq-eqb (target i at) (target i at) refl)))
          (or_left _ _ (or_right (target i at == n) (n == n) (eq-eqb n n refl))) e s r
      stop_law class.JumpReg u i at e h s r = ended _ u 12 _ (leap_least leader i a at) (leap_law f g w l blocks p true c q a x low small ne i at h.1 u s r)
      stop_law k u i at e h s r = absurd h

      leave_law : (e : End) (u : State) (at : ℕ) → EndStands w leader e at → Drifting w (x, c, q) u → Reads false w.code w.entry u.pc (leave l.distance (before_end w.form) (fall_to leader) e a at) → Comes (L (may_lead e at)) u (leave_cost (fall_to leader) e a at)
      leave_law Falls u at h s r = falls_law f g w l blocks p true c q a x low small ne _ at u (or_left _ _ (eq-eqb at at refl)) s r
      leave_law (Stops i) u at h s r = stop_law (class_of i.kind) u i at refl h.1 s r

    -- a block, from its pieces on
    block_law :
        (b : Block) (x : ℕ) (u : State) → BlockAt w l leader b → x < 2 ^ 64 → Wrong q b.start x → Drifting w (x, c, q) u → Reads false w.code w.entry u.pc (body_of v.code b.body b.end b.start)
        → Comes (L (may_lead b.end (end_at b))) u (body_steps l.diverse b.body + leave_cost (fall_to leader) b.end b.start (end_at b))
    block_law b x u here small ne s r =
        let own = eqb-true (l.start_of b.end (end_at b)) b.start (and_parts _ _ here.good.own).0 in
        let leaves = leave l.distance (before_end w.form) (fall_to leader) b.end b.start (end_at b) in
        let reads : Reads false w.code w.entry u.pc (pieces_of v.code b.body b.start ++ leaves) = subst (λ k. Reads false w.code w.entry u.pc (pieces_of v.code b.body b.start ++ leave l.distance (before_end w.form) (fall_to leader) b.end k (end_at b))) own r in
        let few = pieces_cost w l leader b.body b.end b.start here.good.pieces in
        comes_more _ u (cost (pieces_of v.code b.body b.start) + leave_cost (fall_to leader) b.end b.start (end_at b)) _ (omega (arith, few))
        (comes_on (Before w (x, c, q) leaves) _ u (cost (pieces_of v.code b.body b.start)) (leave_cost (fall_to leader) b.end b.start (end_at b))
        (drift w (pieces_of v.code b.body b.start) (drifts_pieces w l leader b.body b.end b.start here.good.pieces) (x, c, q) u leaves s reads)
        (λ y q. leave_law b.start x here.good.low small ne b.end y (end_at b) (end_stands w l leader b.body b.end b.start here.good.pieces) q.0 q.1))

  -- ---- from entry to entry
  -- the steps to the next tick, and those that the count leaves
  abbrev left : ℕ → ℕ → ℕ
  left t c = owed l t + spare c

  some : (b : Block) → 3 ≤ block_steps l.diverse l.land leader b
  some b = by l.land where
    by : (land : Bool) → 3 ≤ block_steps l.diverse land leader b
    by true = omega arith
    by false = omega arith

  -- ---- an entry
  module _ (b : Block) (m : Among b blocks) (c q x : ℕ) (y : State) (s : Drifting w (x, c, q) y) (at : y.pc ≡ w.entry b.start) (small_x : x < 2 ^ 64) (ne : Wrong q b.start x) where
    here : BlockAt w l leader b
    here = block_at f g w l blocks p b m

    abbrev body : List Item
    body = body_of v.code b.body b.end b.start

    abbrev Over : State → ℕ → Type 0
    Over u most = Comes (λ y. ⊥) u most

    -- behind its tick, if it has one
    record Behind : Type 0 where
      steps : ℕ
      within : steps ≤ entry_steps l.land
      to : State
      ends : run y steps ≡ to
      cursor : ℕ
      fewer : (o : ℕ) → o ≤ l.most b.start → o + spare cursor ≤ left b.start c
      state : Drifting w (x, cursor, q) to
      reads : Reads false w.code w.entry to.pc body

    small : l.most b.start ≤ 2047
    small = let e = p.sound.ticks b.start (begins blocks b m) in let h = p.sound.few in omega (arith, e, h)

    -- ---- at its tick, behind the test of the signature, if there is one
    module _ (land : Bool) (before : ℕ) (u : State) (ends : run y before ≡ u) (su : Drifting w (x, c, q) u) (named : land ≡ true → reg u TEMPORARY ≡ b.start) where
      abbrev ticks_to : List Item
      ticks_to = tick land b.start (l.most b.start) (distance_between (u.pc + jump_at land) l.check)

      over : CodeOver w.code u
      over = over_of w (x, c, q) u su

      abbrev now : ℕ
      now = (c + l.most b.start) % 2 ^ 64

      sum : (reg u CURSOR + wrapped (pos (l.most b.start))) % 2 ^ 64 ≡ now
      sum = let e = su.cursor in omega (arith, e)

      passed : before + 3 ≤ entry_steps l.land → now % 2 ^ 12 < 2 ^ 11 → Reads false w.code w.entry u.pc (ticks_to ++ body) → l.ticks b.start ≡ true → Behind
      passed le lt r is =
          let o = pass_row w u (l.most b.start) now over su.standing.flagged.regs su.standing.flagged.zero_reg sum land b.start body (distance_between (u.pc + jump_at land) l.check) (low_half now lt) (to_far f g w l blocks p true 0 0 u.pc (ticks_to ++ body) r) in
          let ws = ticked w u (l.most b.start) now over su.standing.flagged.regs su.standing.flagged.zero_reg sum in
          record {
            steps = before + 3;
            within = le;
            to = moved (writes ws u.regs) o.pc u;
            ends = run-more y before 3 ∙ ap (λ z. run z 3) ends ∙ o.walk.ends;
            cursor = now;
            fewer = λ o h.
                let z : left b.start c ≡ 0 + spare c = ap (λ t. cond t 0 (l.most b.start) + spare c) is in
                let e = spent c (l.most b.start) small lt in
                omega (arith, h, z, e);
            state = record {
              going = su.going;
              standing = subst (Standing w.code w.output) o.walk.ends (standing_run w.code w.output w.output_fixed 3 u su.standing);
              sign = read_back ws u.regs 16 su.standing.flagged.regs refl ∙ su.sign;
              cursor = read_back ws u.regs 15 su.standing.flagged.regs refl;
              distance = read_back ws u.regs 14 su.standing.flagged.regs refl ∙ su.distance;
            };
            reads = to_near f g w l blocks p true 0 0 o.pc body o.reads;
          }

      -- what stands behind the first comparison of the check
      abbrev rest : List Item
      rest = compare ++ (begin_visit (first_word w.base w.form.spans) ++ (visit w.form.round w.form.spans ++ (done (first_word w.base w.form.spans) l.every ++ (look_up SIGNATURE ++ look_again w.distance))))

      same_check : check_distance w.distance ++ rest ≡ check_distance l.distance ++ rest
      same_check = ap (λ d. check_distance d ++ rest) (sym p.sound.apart)

      -- the check compares the signature with the address of the block, and x14 with the distance
      checked : 2 ^ 11 ≤ now % 2 ^ 12 → Reads false w.code w.entry u.pc (ticks_to ++ body) → Over u 9
      checked ge r =
          let first = ins Beq 0 SIGNATURE TEMPORARY (pos 8) in
          let near = w.low l.check first p.sound.check.0 in
          let k = call_row w u (l.most b.start) now over su.standing.flagged.regs su.standing.flagged.zero_reg sum land b.start l.check body (high_half now ge) here.good.low named (omega (arith, near)) (w.grain l.check first p.sound.check.0) (to_far f g w l blocks p true 0 0 u.pc (ticks_to ++ body) r) in
          let z = moved (writes k.effects u.regs) l.check u in
          let oz = over_moved w.code u (writes k.effects u.regs) l.check over in
          let long = writes_long k.effects u.regs ∙ su.standing.flagged.regs in
          let calls = call_most land in
          comes_more (λ y. ⊥) u (3 + call_steps land + 3) 9 (omega (arith, calls))
          (comes_behind (λ y. ⊥) u z (3 + call_steps land) 3 k.walk.ends
          (⊎_elim
          (λ same.
          let e = sets_equal w z 16 30 (check_distance w.distance ++ rest) oz p.sound.check same in
          let z2 = moved z.regs e.pc z in
          comes_behind (λ y. ⊥) z z2 1 2 e.walk.ends
          (distance_off f g w l blocks p true 0 q b.start x here.good.low small_x ne z2 rest (over_moved w.code z z.regs e.pc oz) long
          (λ d. ⊎_elim (λ o. o (sym su.sign ∙ sym k.sixteen ∙ same ∙ k.thirty)) (λ o. o.1 (sym su.distance ∙ sym k.fourteen ∙ d)) ne)
          (subst (Reads w.form.far w.code w.entry e.pc) same_check e.reads)))
          (λ other. comes_more (λ y. ⊥) z 1 3 (omega arith) (beq_fires f g w l blocks p true 0 0 z 16 30 (check_distance w.distance ++ rest) oz p.sound.check other))
          (cases_eq (reg z SIGNATURE) (reg z TEMPORARY)))) where
            call_most : (land : Bool) → call_steps land ≤ 3
            call_most true = omega arith
            call_most false = omega arith

      by_tick : before + 3 ≤ entry_steps l.land → Reads false w.code w.entry u.pc (cond (l.ticks b.start) ticks_to [] ++ body) → Over u 9 ⊎ Behind
      by_tick le r = by (l.ticks b.start) refl r where
        by : (t : Bool) → l.ticks b.start ≡ t → Reads false w.code w.entry u.pc (cond t ticks_to [] ++ body) → Over u 9 ⊎ Behind
        by true is r = ⊎_elim (λ lt. inr (passed le lt r is)) (λ ge. inl (checked ge r)) (cases_lt (now % 2 ^ 12) (2 ^ 11))
        by false is r =
            let z : left b.start c ≡ l.most b.start + spare c = ap (λ t. cond t 0 (l.most b.start) + spare c) is in
            inr (record { steps = before; within = omega (arith, le); to = u; ends = ends; cursor = c; fewer = λ o h. omega (arith, h, z); state = su; reads = r })

    abbrev entry_of : Bool → ℕ → List Item
    entry_of land d = enter land (l.ticks b.start) b.start (l.most b.start) (distance_between d l.check)

    entered : (land : Bool) → l.land ≡ land → Reads false w.code w.entry y.pc (entry_of land (y.pc + call_at land) ++ body)
    entered land is =
        subst (λ q. Reads false w.code w.entry q (entry_of land (q + call_at land) ++ body)) (sym at)
        (subst (λ d. Reads false w.code w.entry (w.entry b.start) (entry_of d (w.entry b.start + call_at d) ++ body)) is here.reads.1)

    over_y : CodeOver w.code y
    over_y = over_of w (x, c, q) y s

    -- the entry tests the signature
    tests_it : l.land ≡ true → Reads false w.code w.entry y.pc (check_sign b.start ++ (cond (l.ticks b.start) (tick true b.start (l.most b.start) (distance_between (y.pc + 28) l.check)) [] ++ body)) → Over y 12 ⊎ Behind
    tests_it is r =
        let more = cond (l.ticks b.start) (tick true b.start (l.most b.start) (distance_between (y.pc + 28) l.check)) [] ++ body in
        ⊎_elim
        (λ same.
        let long = s.standing.flagged.regs in
        let t = sign_walk w y b.start more over_y long (s.sign ∙ same) here.good.low (to_far f g w l blocks p true 0 0 y.pc (check_sign b.start ++ more) r) in
        let ws : List (ℕ × ℕ) = (30, b.start) ∷ [] in
        let u = moved (writes ws y.regs) (y.pc + 8 + 8) y in
        let su : Drifting w (x, c, q) u = record {
          going = s.going;
          standing = subst (Standing w.code w.output) t.ends (standing_run w.code w.output w.output_fixed 3 y s.standing);
          sign = read_back ws y.regs 16 long refl ∙ s.sign;
          cursor = read_back ws y.regs 15 long refl ∙ s.cursor;
          distance = read_back ws y.regs 14 long refl ∙ s.distance;
        } in
        let far : y.pc + 28 ≡ u.pc + 12 = omega arith in
        let on : y.pc + 8 + 4 + 4 ≡ u.pc = omega arith in
        let reads : Reads false w.code w.entry u.pc (cond (l.ticks b.start) (tick true b.start (l.most b.start) (distance_between (u.pc + 12) l.check)) [] ++ body) =
        subst (λ d. Reads false w.code w.entry u.pc (cond (l.ticks b.start) (tick true b.start (l.most b.start) (distance_between d l.check)) [] ++ body)) far
        (subst (λ d. Reads false w.code w.entry d more) on r.2.1.1) in
        let six : 3 + 3 ≤ entry_steps l.land = subst (λ d. 3 + 3 ≤ entry_steps d) (sym is) (omega arith) in
        ⊎_elim (λ o. inl (comes_behind (λ y. ⊥) y u 3 9 t.ends o)) (λ h. inr h) (by_tick true 3 u t.ends su (λ e. read_back ws y.regs 30 long refl) six reads))
        (λ other. inl (record { steps = 3; within = omega arith; is = inl (inl (fires w y b.start more here.good.low over_y s.standing.flagged.regs (to_far f g w l blocks p true 0 0 y.pc (check_sign b.start ++ more) r) (λ e. other (sym s.sign ∙ e)))) }))
        (cases_eq x b.start)

    passes : Over y 12 ⊎ Behind
    passes = by l.land refl where
      by : (land : Bool) → l.land ≡ land → Over y 12 ⊎ Behind
      by true is = tests_it is (entered true is)
      by false is =
          let three : 0 + 3 ≤ entry_steps l.land = subst (λ d. 0 + 3 ≤ entry_steps d) (sym is) (omega arith) in
          ⊎_elim (λ o. inl (comes_more (λ y. ⊥) y 9 12 (omega arith) o)) (λ h. inr h) (by_tick false 0 y (run-none y) s (λ e. absurd (cc)) three (entered false is))

  -- ---- the law
  module _ (q : ℕ) where
    abbrev Off : ℕ → (ℕ → Bool) → State → Type 0
    Off c on y = Lost f g w l blocks p true c q on y

    module _ (c : ℕ) (on : ℕ → Bool) (y : State) (z : Off c on y) (more : (d : ℕ) (on : ℕ → Bool) (u : State) (r : Off d on u) → left r.at d + 3 ≤ left z.at c → Comes (λ y. ⊥) u (left r.at d + 12)) where
      by_block : (b : Block) (m : Among b blocks) → b.start ≡ z.at → Comes (λ y. ⊥) y (left z.at c + 12)
      by_block b m e =
          let here = block_at f g w l blocks p b m in
          let at : y.pc ≡ w.entry b.start = z.here ∙ ap w.entry (sym e) in
          let ne : Wrong q b.start z.sign = ⊎_elim (λ o. inl (λ r. o (r ∙ e))) (λ o. inr o) z.wrong in
          let all = block_steps l.diverse l.land leader b in
          let same : left b.start c ≡ left z.at c = ap (λ t. left t c) e in
          ⊎_elim
          (λ o. comes_more (λ y. ⊥) y 12 (left z.at c + 12) (omega arith) o)
          (λ h.
          let part = body_steps l.diverse b.body + leave_cost (fall_to leader) b.end b.start (end_at b) in
          let entry : entry_steps l.land + part ≡ all = refl in
          let fits = h.fewer all here.counts.0 in
          let least = some b in
          let rest = left z.at c - all + 12 in
          comes_more (λ y. ⊥) y (h.steps + (part + rest)) (left z.at c + 12) (omega (arith, h.within, entry, fits, same))
          (comes_behind (λ y. ⊥) y h.to h.steps (part + rest) h.ends
          (comes_on (Off h.cursor (may_lead b.end (end_at b))) (λ y. ⊥) h.to part rest (block_law h.cursor q b z.sign h.to here z.small ne h.state h.reads)
          (λ u r.
          let fewer = h.fewer (all + owed l r.at) (here.counts.1 r.at r.way) in
          comes_more (λ y. ⊥) u (left r.at h.cursor + 12) rest (omega (arith, fewer, same))
          (more h.cursor (may_lead b.end (end_at b)) u r (omega (arith, fewer, same, least)))))))
          (passes b m c q z.sign y z.state at z.small ne)

      step_law : Comes (λ y. ⊥) y (left z.at c + 12)
      step_law = let b = begun blocks z.at z.leads in by_block b.0 b.1 b.2

    -- as often as there is something left
    off_law : (fuel c : ℕ) (on : ℕ → Bool) (y : State) (z : Off c on y) → left z.at c ≤ fuel → Comes (λ y. ⊥) y (left z.at c + 12)
    off_law zero c on y z le = step_law c on y z (λ d on u r e. absurd (omega (arith, e, le)))
    off_law (suc fuel) c on y z le = step_law c on y z (λ d on u r e. off_law fuel d on u r (omega (arith, e, le)))

    -- any number may be in x15
    pub off_any : (c : ℕ) (on : ℕ → Bool) (y : State) → Off c on y → Comes (λ y. ⊥) y (2046 + spare c + 12)
    off_any c on y z =
        let owes = owed_few z.at z.leads in
        comes_more (λ y. ⊥) y (left z.at c + 12) (2046 + spare c + 12) (omega (arith, owes)) (off_law (left z.at c) c on y z (omega arith)) where
          owed_few : (t : ℕ) → leader t ≡ true → owed l t ≤ 2046
          owed_few t h = by (l.ticks t) where
            most : l.most t ≤ 2046
            most = let e = p.sound.ticks t h in let d = p.sound.few in omega (arith, e, d)

            by : (b : Bool) → cond b 0 (l.most t) ≤ 2046
            by true = omega arith
            by false = most

    pub off : (k n : ℕ) (on : ℕ → Bool) (y : State) → k < 2 ^ 32 → n ≤ 2047 → Off (with_count k n) on y → Comes (λ y. ⊥) y 4105
    off k n on y few high z = comes_more (λ y. ⊥) y (2046 + spare (with_count k n) + 12) 4105 (omega (arith, high)) (off_any (with_count k n) on y z)

  -- ---- from a word of the pieces of a block
  end_is : (k : Class) (i : Ins) (at : ℕ) → Leaves k w leader i at → is_end k ≡ true
  end_is class.End i at h = refl
  end_is class.Illegal i at h = refl
  end_is class.Jump i at h = refl
  end_is class.Branch i at h = refl
  end_is class.JumpReg i at h = refl
  end_is k i at h = absurd h

  is_end_of : (e : End) (at : ℕ) → EndStands w leader e at → IsEnd e
  is_end_of Falls at h = tt
  is_end_of (Stops i) at h = end_is (class_of i.kind) i at h.1

  -- of a run with a count, elsewhere and with any number in x14
  module _ (regs : List ℕ) (t d : ℕ) (are : AreStartRegs regs) (count : HasCount (reg (after_output g regs t) CURSOR)) where
    abbrev sign : ℕ
    sign = reg (after_output g regs t) SIGNATURE

    abbrev cursor : ℕ
    cursor = reg (after_output g regs t) CURSOR

    small_sign : sign < 2 ^ 64
    small_sign = small_at f g w p.world regs are t 16

    -- at an entry
    at_entry : (a : ℕ) (y : State) → leader a ≡ true → Drifting w (sign, cursor, d) y → y.pc ≡ w.entry a → Wrong d a sign → Stopped displaced_steps y
    at_entry a y leads state at wrong =
        let c = reg (after_output g regs t) CURSOR in
        let e : c ≡ with_count (c / 2 ^ 12) (c % 2 ^ 12) = omega arith in
        let low = count.count in
        let z : Off d (with_count (c / 2 ^ 12) (c % 2 ^ 12)) (λ q. true) y = record { at = a; sign = sign; way = refl; leads = leads; here = at; wrong = wrong; small = small_sign; state = subst (λ c. Drifting w (sign, c, d) y) e state } in
        let s = off d (c / 2 ^ 12) (c % 2 ^ 12) (λ q. true) y count.offset (omega (arith, low)) z in
        record { steps = s.steps + 1; within = omega (arith, s.within); over = ⊎_elim (λ o. o) (λ z. absurd z) s.is }

    -- from a word of the pieces of a block
    at_word : (b : Block) (y : State) → Among b blocks → Drifting w (sign, cursor, d) y → IsInBlock (worded w.form w.base w.entry l leader) w.entry b y.pc → Wrong d b.start sign → Stopped (displaced_inside (worded w.form w.base w.entry l leader) b) y
    at_word b y m state within wrong =
        let c = reg (after_output g regs t) CURSOR in
        let e : c ≡ with_count (c / 2 ^ 12) (c % 2 ^ 12) = omega arith in
        let k = c / 2 ^ 12 in
        let n = c % 2 ^ 12 in
        let here = block_at f g w l blocks p b m in
        let at = b.start + 4 * body_length b.body in
        let ends = end_stands w l leader b.body b.end b.start here.good.pieces in
        let size = few f g w l blocks p (reg (after_output g regs t) SIGNATURE, reg (after_output g regs t) CURSOR, d) y b m state within in
        let most = end_most b.end leader b.start at (is_end_of b.end at ends) in
        let low = count.count in
        let s = from_inside f g w l blocks p (reg (after_output g regs t) SIGNATURE, reg (after_output g regs t) CURSOR, d) y b m state within (λ y. ⊥) (27 + 4105) (λ u h r.
        comes_more (λ y. ⊥) u (leave_cost (fall_to leader) b.end b.start at + 4105) (27 + 4105) (omega (arith, most))
        (comes_on (Off d (with_count k n) (may_lead b.end at)) (λ y. ⊥) u (leave_cost (fall_to leader) b.end b.start at) 4105
        (leave_law (with_count k n) d b.start sign here.good.low small_sign wrong b.end u at ends (subst (λ c. Drifting w (sign, c, d) u) e h) r)
        (λ y z. off d k n (may_lead b.end at) y count.offset (omega (arith, low)) z))) in
        record { steps = s.steps + 1; within = omega (arith, s.within, size); over = ⊎_elim (λ o. o) (λ z. absurd z) s.is }

  -- ---- the promises
  displaced : Displaced g (worded w.form w.base w.entry l leader) w.entry blocks
  displaced = record {
    stops = λ regs t a are going leads count other. at_entry regs t (reg (after_output g regs t) DISTANCE) are count a (placed_at (w.entry a) (after_output g regs t)) leads (drifting_at f g w l blocks p regs t (w.entry a) are going) refl (inl other);
    inside = λ regs t q b are going m within count other. at_word regs t (reg (after_output g regs t) DISTANCE) are count b (placed_at q (after_output g regs t)) m (drifting_at f g w l blocks p regs t q are going) within (inl other);
  }

  -- another number in x14
  in_regs : (regs : List ℕ) → length regs ≡ 32 → 14 < length regs
  in_regs regs h = omega (arith, h)

  with_number : (x : ℕ × ℕ × ℕ) (u : State) (d : ℕ) → Drifting w x u → Drifting w (x.0, x.1, d) (with_distance d u)
  with_number x u d a =
      let f = a.standing.flagged in
      record {
        going = a.going;
        standing = record { code = a.standing.code; flagged = record { flags = f.flags; regs = length-set_reg u.regs DISTANCE d ∙ f.regs; zero_reg = slice_index-set_reg_zero u.regs DISTANCE d ∙ f.zero_reg } };
        sign = slice_index-set_reg_other u.regs DISTANCE d 16 (λ q. absurd (omega arith)) ∙ a.sign;
        cursor = slice_index-set_reg_other u.regs DISTANCE d 15 (λ q. absurd (omega arith)) ∙ a.cursor;
        distance = slice_index-set_reg_same u.regs DISTANCE d (omega arith) (in_regs u.regs f.regs);
      }

  adrift : Adrift g (worded w.form w.base w.entry l leader) w.distance w.entry blocks
  adrift = record {
    stops = λ regs t a x are going leads count other.
        let s = after_output g regs t in
        at_entry regs t x are count a (with_distance x (placed_at (w.entry a) s)) leads (with_number (reg s SIGNATURE, reg s CURSOR, reg s DISTANCE) (placed_at (w.entry a) s) x (drifting_at f g w l blocks p regs t (w.entry a) are going)) refl (inr (refl, other));
    inside = λ regs t q b x are going m within count other.
        let s = after_output g regs t in
        at_word regs t x are count b (with_distance x (placed_at q s)) m (with_number (reg s SIGNATURE, reg s CURSOR, reg s DISTANCE) (placed_at q s) x (drifting_at f g w l blocks p regs t q are going)) within (inr (refl, other));
  }

pub lean_displaced : LeanDisplaced
lean_displaced f g w l blocks p = displaced f g w l blocks p

pub lean_adrift : LeanAdrift
lean_adrift f g w l blocks p = adrift f g w l blocks p

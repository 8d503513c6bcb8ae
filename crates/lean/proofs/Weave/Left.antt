-- Each leave meets the law of the rows.
use Rattle.std.proofs.Common.{◌≡◌, ℕ, ◌+◌, ◌*◌, ◌%◌, ◌^◌, ◌<◌, ◌≤◌, ◌⊎◌, inl, inr, Bool, true, false, List, length, refl, sym, ap, ◌∙◌, subst, arith}
use Rattle.std.specs.Prelude.{◌==◌, ◌&&◌, ◌||◌, nat_le}
use Rattle.std.proofs.lemmas.Bool.{and_parts, eqb-true, eq-eqb, leb-true, or_left, or_right}
use Rattle.rv_isa.specs.declared.class.Class.TheVariants as class
use Rattle.tests.specs.Admission.Leaders.{is_indirect}
use Rattle.qed_model.specs.Weave.LeanBounds.{cost_of}
use Rattle.qed_model.specs.Weave.Pieces.{is_run}
use Rattle.qed_model.specs.Promise.Kept.{NotTrapped, LeadsToReached, IsSteady}
use Rattle.qed_model.specs.Weave.Sequences.{End, Falls, Stops, before_end, SIGNATURE}
use Rattle.qed_model.specs.Weave.Lean.{leave, leave_as, leave_cost, leave_cost_as}
use Rattle.qed_model.specs.Weave.LeanCode.{Lean, fall_to, leads_as}
use Rattle.machine.proofs.Lemmas.{known_at}
use Rattle.weave_core.specs.World.{World, State, reg, Known, run, step, target, Ins, Class, class_of, holds}
use Rattle.weave_core.specs.Blocks.{IsEntryOf, Leaves, EndStands}
use Rattle.weave_core.specs.Rows.{At, Sourced}
use Rattle.weave_core.specs.Weave.{Weave}
use Rattle.weave_core.specs.WeaveLaws.{BothEnded, GoesTo, stops, Onward, lands, is_lost, Left, Rows}
use Rattle.weave_core.proofs.Lemmas.{aim, leap_step, branch_step, branch_to, jump_step, step-illegal}
use Rattle.lean.specs.Ticked.{is_ticked_at}
use Rattle.lean.specs.Woven.{lean_weave_of, LeanIn, swept_steps, may_lead}
use Rattle.lean.proofs.Weave.Costs.{leave_most}
use Rattle.lean.proofs.Weave.Rows.{enter_law, inside_law, piece_law}
use Rattle.lean.proofs.Weave.End.{end_leave, Sweeps}
use Rattle.lean.proofs.Weave.Held.{Ticked, ticked_of, ticked_is}
use Rattle.lean.proofs.Weave.Leap.{leap_leave}
use Rattle.lean.proofs.Weave.Leave.{Went, SignedAs, falls_row, jump_leave, branch_leave}

module _ (w : World) (l : Lean) (leader : ℕ → Bool) (x : LeanIn w l leader) (entries : (a : ℕ) → leader a ≡ true → IsEntryOf w a) where
  abbrev v : Weave
  v = lean_weave_of w l leader

  -- where a leave leads, in at most `most` steps
  abbrev pub Parts : State → State → ℕ → ℕ → (ℕ → Bool) → Type 0
  Parts u t least most on = GoesTo w u 1 (most + swept_steps w) (λ n y. BothEnded w t y × Sweeps w u n) ⊎ Went w leader u t least most × (on t.pc ≡ true)

  -- the halves are near
  near_halves : w.distance < 2 ^ 64
  near_halves = let h = x.small in omega (arith, h)

  -- the leave of an instruction in the block that begins at a
  module _ (a : ℕ) (leads : leader a ≡ true) where
    low : a < 2 ^ 64
    low = (entries a leads).low

    stop_row :
        (c : Class) (u s : State) (i : Ins) → class_of i.kind ≡ c → At w u (leave_as w.distance (before_end w.form) (fall_to leader) c i a s.pc) s s → Sourced w s → w.source s.pc ≡ Known i → Leaves c w leader i s.pc
        → NotTrapped (step s) → LeadsToReached w.reached s → reg u SIGNATURE ≡ a → Parts u (step s) 1 (leave_cost_as (fall_to leader) c i a s.pc) (λ t. leads_as c i s.pc t || is_indirect c)
    stop_row class.End u s i c at so h g calm leads sign = inl (end_leave w u s i (fall_to leader) a at so low near_halves sign h c)
    stop_row class.Illegal u s i c at so h g calm leads sign = absurd (step-illegal s i so.over.going (known_at w.source s i so.over h) c calm)
    stop_row class.Jump u s i c at so h g calm to sign =
        let there = (jump_step w s i so h c calm).pc in
        inr (jump_leave w leader entries x.codes x.near w.distance u s i a at so h c calm g.0 g.1 low leads sign, or_left (target i s.pc == (step s).pc) false (eq-eqb (target i s.pc) (step s).pc (sym there)))
    stop_row class.Branch u s i c at so h g calm to sign =
        let b = branch_step w s i so h c calm in
        inr (branch_leave w leader entries x.codes x.near w.distance u s i a (record { at = at; sourced = so; branch = c; first = g.0; second = g.1; to = g.2; on = g.3; low = low; leads = leads; sign = sign }) h calm, or_left (leads_as class.Branch i s.pc (step s).pc) false (one_way (holds i.kind (reg s i.rs1) (reg s i.rs2)) b.pc)) where
          one_way : (b : Bool) → (step s).pc ≡ branch_to w b i s → leads_as class.Branch i s.pc (step s).pc ≡ true
          one_way true e = or_left (target i s.pc == (step s).pc) ((s.pc + 4) % 2 ^ 64 == (step s).pc) (eq-eqb (target i s.pc) (step s).pc (sym e))
          one_way false e = or_right (target i s.pc == (step s).pc) ((s.pc + 4) % 2 ^ 64 == (step s).pc) (eq-eqb ((s.pc + 4) % 2 ^ 64) (step s).pc (sym e))
    stop_row class.JumpReg u s i c at so h g calm to sign =
        let lp = leap_step w s i so h c calm in
        let there : w.reached (aim s i) ≡ true = ap w.reached (sym lp.pc) ∙ to i so.over.going (known_at w.source s i so.over h) c in
        inr (leap_leave w leader entries near_halves u s i a (record { at = at; sourced = so; first = g.1; link = g.0; there = g.2 (aim s i) there lp.grain; table = λ l. g.3 (aim s i) there l; low = low; sign = sign }) h c calm, refl)
    stop_row c u s i e at so h g calm to sign = absurd g

    -- of any end
    pub leave_row :
        (e : End) (u s : State) → At w u (leave w.distance (before_end w.form) (fall_to leader) e a s.pc) s s → Sourced w s → EndStands w leader e s.pc → IsSteady w.reached s (stops e) → reg u SIGNATURE ≡ a
        → Parts u (run s (stops e)) (stops e) (leave_cost (fall_to leader) e a s.pc) (may_lead e s.pc)
    unfolding run
    leave_row Falls u s at so g st sign = inr (falls_row w leader entries x.codes u s a s.pc (record { at = at; low = low; sourced = so; here = refl; sign = sign; leads = leads }) g, or_left (s.pc == s.pc) false (eq-eqb s.pc s.pc refl))
    leave_row (Stops i) u s at so g st sign = stop_row (class_of i.kind) u s i refl at so g.0 g.1 st.no_trap (st.leads 0 (omega arith)) sign

  -- ---- in the words of the rows
  -- where x15 and the block's address are those of the state
  from_parts : (b : ℕ) (u t : State) (least most : ℕ) (on : ℕ → Bool) (k : Ticked l.every w u b) → most ≤ 27 → Parts u t least most on → Left w v leader u t least
  from_parts b u t least most on k le (inl g) = inl (record { steps = g.steps; to = g.to; at_least = g.at_least; within = omega (arith, g.within, le); walk = g.walk; is = g.is.0 })
  from_parts b u t least most on k le (inr (g, _)) = inr (record { steps = g.steps; to = g.to; at_least = g.at_least; within = omega (arith, g.within, le); walk = g.walk; is = onward g.is }) where
    onward : Onward w leader (SignedAs u) t g.to → Onward w leader (λ z a. is_ticked_at l.every w z a ≡ true) t g.to
    onward (lands st s so) = lands st (ticked_is l.every w g.to t.pc k.offset k.count (s.1 ∙ k.fifteen) k.least k.most k.few s.0 k.cursor) so
    onward (is_lost going h so lacks) = is_lost going h so lacks

  pub leave_law :
      (e : End) (b : ℕ) (u s : State) → is_ticked_at l.every w u b ≡ true → ((l.start_of e s.pc == b) && leader b) ≡ true → At w u (leave l.distance (before_end w.form) (fall_to leader) e (l.start_of e s.pc) s.pc) s s → Sourced w s
      → EndStands w leader e s.pc → IsSteady w.reached s (stops e) → Left w v leader u (run s (stops e)) (stops e)
  leave_law e b u s held own at so g steady =
      let p = and_parts _ _ own in
      let at_d : At w u (leave w.distance (before_end w.form) (fall_to leader) e (l.start_of e s.pc) s.pc) s s = subst (λ d. At w u (leave d (before_end w.form) (fall_to leader) e (l.start_of e s.pc) s.pc) s s) x.apart at in
      let at_b : At w u (leave w.distance (before_end w.form) (fall_to leader) e b s.pc) s s = subst (λ a. At w u (leave w.distance (before_end w.form) (fall_to leader) e a s.pc) s s) (eqb-true (l.start_of e s.pc) b p.0) at_d in
      let k = ticked_of l.every w u b held in
      from_parts b u (run s (stops e)) (stops e) (leave_cost (fall_to leader) e b s.pc) (may_lead e s.pc) k (leave_most e w leader b s.pc g) (leave_row b p.1 e u s at_b so g steady k.sign)

-- ---- all rows
module _ (w : World) (l : Lean) (leader : ℕ → Bool) (x : LeanIn w l leader) where
  short_law : (is : List Ins) → (is_run is && nat_le (length is) l.inst_max) ≡ true → length is ≤ cost_of l.diverse * l.inst_max
  short_law is e = by l.diverse (leb-true (length is) l.inst_max (and_parts _ _ e).1) where
    by : (b : Bool) → length is ≤ l.inst_max → length is ≤ cost_of b * l.inst_max
    by true h = omega (arith, h)
    by false h = omega (arith, h)

  -- the lean form meets the laws of the rows
  pub lean_rows : Rows w (lean_weave_of w l leader) leader
  lean_rows = record {
    short = short_law;
    known = λ a b. x.known a (and_parts _ _ b.good.own).1;
    enter = λ u s rest st held low r. enter_law w l leader x u s rest st held low r;
    inside = inside_law w l leader x;
    piece = piece_law w l leader x;
    leave = λ known e b u s held own a so g steady. leave_law w l leader x known e b u s held own a so g steady;
  }

-- A jump that strays into a block with another signature: the leave turns that to where it leads; the test there fires.
use Rattle.std.proofs.Common.{◌≡◌, ℕ, ◌+◌, ◌*◌, ◌^◌, ◌<◌, ◌≤◌, ◌⊎◌, inl, ⊎_elim, Bool, true, false, List, [], ◌∷◌, ◌++◌, refl, sym, ◌∙◌, subst, arith}
use Rattle.std.proofs.lemmas.Bool.{false≢true}
use Rattle.rv_isa.specs.declared.class.Class.TheVariants as class
use Rattle.machine.specs.Members.{Among}
use Rattle.machine.specs.Table.{Ins}
use Rattle.qed_model.specs.Promise.Kept.{after_output}
use Rattle.qed_model.specs.Promise.Landed.{placed_at}
use Rattle.qed_model.specs.Weave.Blocks.{begins_at}
use Rattle.qed_model.specs.Weave.Lean.{turn, goes, leave, leave_as, leave_cost_as, cost}
use Rattle.qed_model.specs.Weave.LeanCode.{Lean, worded, fall_to}
use Rattle.qed_model.specs.Weave.Sequences.{Reads, End, Falls, Stops, Block, body_length, check_sign, links, before_end, SIGNATURE, CURSOR, DISTANCE}
use Rattle.weave_core.specs.World.{World, Plain, Going, Program, AreStartRegs, State, reg, target, Class, class_of}
use Rattle.weave_core.specs.Blocks.{EndStands, Leaves}
use Rattle.weave_core.specs.Weave.{Weave}
use Rattle.lean.specs.Woven.{LeanPlan, LeanStrayed, lean_weave_of}
use Rattle.lean.specs.Strayed.{IsInBlock, steps_in, Stopped, Strayed}
use Rattle.lean.proofs.Weave.Chain.{cost_append}
use Rattle.lean.proofs.Weave.Costs.{links_most, goes_most, falls_cost, branch_cost}
use Rattle.lean.proofs.Weave.Drift.{Comes, comes_more, comes_on, Drifting, over_of}
use Rattle.lean.proofs.Weave.Landed.{behind, tests}
use Rattle.lean.proofs.Weave.Promise.{block_at}
use Rattle.lean.proofs.Weave.Sign.{fires}
use Rattle.lean.proofs.Weave.Offset.{Lost, end_stands, low_of, at_illegal, end_law, jump_law, branch_law, leap_law, falls_law}
use Rattle.lean.proofs.Weave.Inside.{small_at, few, from_inside, drifting_at}

module _ (f g : Program) (w : World) (l : Lean) (blocks : List Block) (p : LeanPlan f g w l blocks) (land : l.land ≡ true) where
  abbrev leader : ℕ → Bool
  leader a = begins_at blocks a

  abbrev v : Weave
  v = lean_weave_of w l leader

  -- ---- where entries test the signature
  module _ (c q : ℕ) where
    abbrev Over : State → ℕ → Type 0
    Over u most = Comes (λ y. ⊥) u most

    -- another one fires
    at_leader : (y : State) → Lost f g w l blocks p false c q (λ t. true) y → Over y 3
    at_leader y z =
        let xs = behind f g w l blocks p land z.at z.leads in
        let r = subst (λ n. Reads w.form.far w.code w.entry n (check_sign z.at ++ xs)) (sym z.here) (tests f g w l blocks p land z.at z.leads) in
        record { steps = 3; within = omega arith; is = inl (inl (fires w y z.at xs (low_of f g w l blocks p false c q z.at z.leads) (over_of w (z.sign, c, q) y z.state) z.state.standing.flagged.regs r (λ e. ⊎_elim (λ n. n (sym z.state.sign ∙ e)) (λ o. absurd (false≢true o.0)) z.wrong))) }

    last : (u : State) (n : ℕ) → n ≤ 15 → Comes (Lost f g w l blocks p false c q (λ t. true)) u n → Over u 18
    last u n h z = comes_more (λ y. ⊥) u (n + 3) 18 (omega (arith, h)) (comes_on (Lost f g w l blocks p false c q (λ t. true)) (λ y. ⊥) u n 3 z at_leader)

    -- ---- of any end
    module _ (a x : ℕ) (low : a < 2 ^ 64) (small : x < 2 ^ 64) (other : x ≡ a → ⊥) where
      ne : (x ≡ a → ⊥) ⊎ ((false ≡ true) × (q ≡ w.distance → ⊥))
      ne = inl other

      stop_law :
          (k : Class) (u : State) (i : Ins) (at : ℕ) → class_of i.kind ≡ k → Leaves k w leader i at → Drifting w (x, c, q) u
          → Reads false w.code w.entry u.pc (leave_as l.distance (before_end w.form) (fall_to leader) k i a at) → Over u 18
      stop_law class.End u i at e h s r = end_law f g w l blocks p false c q a x low small ne u (before_end w.form ++ (Plain i ∷ [])) s r
      stop_law class.Illegal u i at e h s r = comes_more (λ y. ⊥) u 0 18 (omega arith) (at_illegal f g w l blocks p false c q x u i s r.0 e)
      stop_law class.Jump u i at e h s r =
          let b = goes_most a (target i at) in
          let k = links_most i at in
          let sum = cost_append (links i at) (goes a (target i at)) in
          last u (cost (links i at ++ goes a (target i at))) (omega (arith, b, k, sum)) (jump_law f g w l blocks p false c q a x low small ne (λ t. true) u i at refl h.0 s r)
      stop_law class.Branch u i at e h s r =
          let few = branch_cost leader i a at in
          last u (leave_cost_as (fall_to leader) class.Branch i a at) (omega (arith, few)) (branch_law f g w l blocks p false c q a x low small ne (λ t. true) u i at refl refl e s r)
      stop_law class.JumpReg u i at e h s r = comes_more (λ y. ⊥) u 12 18 (omega arith) (leap_law f g w l blocks p false c q a x low small ne i at h.1 u s r)
      stop_law k u i at e h s r = absurd h

      leave_law : (e : End) (u : State) (at : ℕ) → EndStands w leader e at → Drifting w (x, c, q) u → Reads false w.code w.entry u.pc (leave l.distance (before_end w.form) (fall_to leader) e a at) → Over u 18
      leave_law Falls u at h s r =
          let few = falls_cost leader a at in
          last u (cost (turn a at ++ fall_to leader at)) (omega (arith, few)) (falls_law f g w l blocks p false c q a x low small ne (λ t. true) at u refl s r)
      leave_law (Stops i) u at h s r = stop_law (class_of i.kind) u i at refl h.1 s r

  -- ---- from a word of the pieces of a block
  stopped :
      (regs : List ℕ) (t q : ℕ) (b : Block) (are : AreStartRegs regs) (going : (after_output g regs t).outcome ≡ Going) (m : Among b blocks) (within : IsInBlock (worded w.form w.base w.entry l leader) w.entry b q)
      → (reg (after_output g regs t) SIGNATURE ≡ b.start → ⊥) → Stopped (steps_in (worded w.form w.base w.entry l leader) b) (placed_at q (after_output g regs t))
  stopped regs t q b are going m within other =
      let x = reg (after_output g regs t) SIGNATURE in
      let c = reg (after_output g regs t) CURSOR in
      let here = block_at f g w l blocks p b m in
      let ends = end_stands w l leader b.body b.end b.start here.good.pieces in
      let small = small_at f g w p.world regs are t 16 in
      let y = placed_at q (after_output g regs t) in
      let off = drifting_at f g w l blocks p regs t q are going in
      let size = few f g w l blocks p (reg (after_output g regs t) SIGNATURE, reg (after_output g regs t) CURSOR, reg (after_output g regs t) DISTANCE) y b m off within in
      let s = from_inside f g w l blocks p (reg (after_output g regs t) SIGNATURE, reg (after_output g regs t) CURSOR, reg (after_output g regs t) DISTANCE) y b m off within (λ y. ⊥) 18 (λ u k r. leave_law c (reg (after_output g regs t) DISTANCE) b.start x here.good.low small other b.end u (b.start + 4 * body_length b.body) ends k r) in
      record { steps = s.steps + 1; within = omega (arith, s.within, size); over = ⊎_elim (λ o. o) (λ z. absurd z) s.is }

  pub strayed : Strayed g (worded w.form w.base w.entry l leader) w.entry blocks
  strayed = record { stops = λ regs t q b are going m inside other. stopped regs t q b are going m inside other }

pub lean_strayed : LeanStrayed
lean_strayed f g w l blocks p land = strayed f g w l blocks p land

-- Where an entry and a leave of each kind lead: the laws of their passes, from which follow those of a weave.
use Rattle.std.proofs.Common.{◌≡◌, ℕ, ◌+◌, ◌%◌, ◌^◌, ◌<◌, ◌≤◌, inr, ⊎_elim, Bool, true, false, List, [], ◌∷◌, ◌++◌, length, refl, sym, ap, ◌∙◌, subst, arith, append_assoc}
use Rattle.rv_isa.specs.declared.class.Class.TheVariants as class
use Rattle.rv_isa.proofs.RegsLaws.{slice_index-set_reg_other}
use Rattle.tests.specs.Admission.DataRanges.{word_count}
use Rattle.qed_model.specs.Weave.Bounds.{end_bound}
use Rattle.qed_model.specs.Weave.Sequences.{enter, go_on, sweep, compare, class_of, Class, Ins, ORIGINALS, PAIR_DISTANCE, CURSOR, SIGNATURE}
use Rattle.machine.proofs.Lemmas.{over_moved, known_at, Walk, walk_none, walk_on}
use Rattle.weave_core.specs.World.{Item, Plain, Go, Ended, World, Quiet as Calm, Twice, set_reg, State, reg, moved, stopped, Known, step, target, holds}
use Rattle.weave_core.specs.Blocks.{IsEntryOf, Goes}
use Rattle.weave_core.specs.Rows.{At, Sourced, Led}
use Rattle.weave_core.specs.Pass.{Views, Leads, Quiet, Does, same_state}
use Rattle.weave_core.proofs.Compose.{leads_led}
use Rattle.weave_core.specs.WeaveLaws.{GoesTo, Onward, lands, is_lost}
use Rattle.weave_core.specs.Leaving.{Enters, left_as, left, IsLeft, GoesFrom, Leaving, LeavesOn, Signs, swept_end, sweep_cost, Sweeps, SweptTo}
use Rattle.weave_core.proofs.Rows.{halved_free, halved_stopped, halved_input}
use Rattle.weave_core.proofs.Words.{const_walk, const_signed, free_16}
use Rattle.weave_core.proofs.Leaves.{enter_row, Lands, lands_behind, go_row, go_most, go_most_le, links_row, jump_step, step-end, step-illegal, end_walk}
use Rattle.weave_core.proofs.Branch.{branch_to, branch_step, second_part, turn_row, turn_go}
use Rattle.weave_core.proofs.Indirect.{aim, leap_step, aim_row, leap_row}
use Rattle.weave_core.proofs.Endings.{sweep_row}
use Rattle.weave_core.proofs.Entries.{reads_front}

-- ---- the entry
pub quiet_enter : (at : ℕ) → Quiet (λ far. Unit {0}) (enter at) (λ w. Enters w at) (λ w. Does w same_state same_state 3) (λ w v n z. ⊥) 3
quiet_enter at = record { leads = λ w v rest s st e. leads_led w v 3 3 rest same_state same_state (subst (λ t. Led w v.now 3 3 rest v.original t) e.same (row w v rest e (subst (λ p. At w v.now (enter p ++ rest) v.original v.original) (sym e.here) (subst (λ t. At w v.now (enter at ++ rest) v.original t) (sym e.same) st)))) } where
  row :
      (w : World) (v : Views) (rest : List Item) → Enters w at v → At w v.now (enter v.original.pc ++ rest) v.original v.original
      → Led w v.now 3 3 rest v.original v.original
  row w v rest e a = enter_row w v.now v.original rest a.over a.halved e.sign (subst (λ p. p < 2 ^ 64) (sym e.here) e.low) a.reads

-- ---- the leave
module _ (w : World) (rest : List Item) (v : Views) (entries : (a : ℕ) → v.leads a ≡ true → IsEntryOf w a) where
  abbrev u : State
  u = v.now

  abbrev s : State
  s = v.original

  -- the leave of an end of this class leads on
  abbrev Gone : Class → Type 0
  Gone c = Leads w v 14 rest (λ n z. ⊥) (LeavesOn c w v)

  -- from u, where the input is in t, to an entry or to no code
  abbrev Went : State → ℕ → Type 0
  Went t least = GoesTo w u least 14 (λ n x. Onward w v.leads Signs t x × (reg x CURSOR ≡ reg u CURSOR))

  -- behind a walk of m steps to x
  to_entry : (t x : State) (m l k least : ℕ) → Walk (Calm w) u m x → reg x CURSOR ≡ reg u CURSOR → Lands w v.leads x l k t → least ≤ m + l → m + k ≤ 14 → Sourced w t → Went t least
  to_entry t x m l k least a c b low high so =
      let y = lands_behind w v.leads u x t m l k least 14 a c b low high in
      record { steps = y.steps; to = y.to; at_least = y.at_least; within = y.within; walk = y.walk; is = (lands y.is.0 y.is.1 so, y.is.2) }

  to_none :
      (t x : State) (m least : ℕ) (xs : List Item) → Walk (Calm w) u m x → reg x CURSOR ≡ reg u CURSOR → least ≤ m → m ≤ 14 → At w x xs t t → Sourced w t
      → (p : ℕ) → t.pc ≡ p → ((k : Ins) → w.source p ≡ Known k → ⊥) → Went t least
  to_none t x m least xs a c low high at so p e lacks =
      record { steps = m; to = x; at_least = low; within = high; walk = a; is = (is_lost at.over.going at.halved so (λ k h. lacks k (ap w.source (sym e) ∙ h)), c) }

  -- in the words of the pass, where the input makes its step
  stepped : (least : ℕ) → 1 ≤ least → Went (step s) least → Gone class.Jump
  stepped least one x = record {
    steps = x.steps;
    to = record { now = x.to; original = step s; shadow = step s; leads = v.leads };
    within = x.within;
    walk = x.walk;
    ends = inr (record { original = refl; shadow = refl; cursor = x.is.1; left = (x.is.0, omega (arith, x.at_least, one)) });
  }

  -- a fall
  pub fall_law : (next : ℕ) → At w u (go_on next) s s → Sourced w s → Goes w v.leads next → s.pc ≡ next → Gone class.Compute
  fall_law next a so g e = on (
      ⊎_elim
      (λ l. to_entry s u 0 3 (2 + go_most w.form.far) 0 (walk_none (Calm w) u) refl (go_row w v.leads u s next [] (entries next l) l e a) (omega arith) (let h = go_most_le w.form.far in omega (arith, h)) so)
      (λ lacks. to_none s u 0 0 (go_on next) (walk_none (Calm w) u) refl (omega arith) (omega arith) a so next e lacks)
      g
      ) where
        on : Went s 0 → Gone class.Compute
        on x = record {
          steps = x.steps;
          to = record { now = x.to; original = s; shadow = s; leads = v.leads };
          within = x.within;
          walk = x.walk;
          ends = inr (record { original = refl; shadow = refl; cursor = x.is.1; left = x.is.0 });
        }

  -- by the class of the end
  pub leave_law :
      (c : Class) (next : ℕ) (i : Ins) → class_of i.kind ≡ c → IsLeft c next i s.pc → At w u (left_as c next w.form.far i s.pc) s s → Sourced w s
      → GoesFrom c w v.leads next i s.pc s → Gone c
  leave_law class.Compute next i c f a so g = fall_law next a so g.0 g.1
  leave_law class.End next i c f a so g =
      let e : step s ≡ stopped Ended s = step-end s i so.over.going (known_at w.source s i so.over g.0) c in
      let h : Twice w (stopped Ended u) s s = halved_stopped w Ended u s s u.regs u.pc a.halved.output.regs (λ q l. refl) (λ q one l. refl) a.halved in
      record {
        steps = 1;
        to = record { now = stopped Ended u; original = step s; shadow = step s; leads = v.leads };
        within = omega arith;
        walk = end_walk w u i a.over a.reads.0 c;
        ends = inr (record {
          original = refl;
          shadow = refl;
          cursor = refl;
          left = (record { ended = refl; halved = subst (λ y. Twice w (stopped Ended u) y y) (sym e) (halved_input w Ended (stopped Ended u) s h); input = ap (λ x. x.outcome) e }, h, omega arith);
        });
      }
  leave_law class.Illegal next i c f a so g = absurd (step-illegal s i so.over.going (known_at w.source s i so.over g.0) c g.3)
  leave_law class.Jump next i c f a so g =
      let j = jump_step w s i so g.0 c g.3 in
      let t = target i s.pc in
      let r = links_row w u s i (go_on t) a g.2.0 j in
      ⊎_elim
      (λ l. stepped 1 (omega arith) (to_entry (step s) r.to r.steps 3 (2 + go_most w.form.far) 1 r.walk r.cursor (go_row w v.leads r.to (step s) t [] (entries t l) l j.pc r.at) (omega arith) (let h = go_most_le w.form.far in omega (arith, r.within, h)) j.sourced))
      (λ lacks.
      let x = r.to in
      let y = moved (set_reg SIGNATURE t x.regs) (x.pc + 8) x in
      let two : Walk (Calm w) x 2 y = const_walk w x 16 t (Go t ∷ []) r.at.over r.at.reads (omega arith) (omega (arith, r.at.halved.output.regs)) (const_signed w x 16 t (Go t ∷ []) r.at.over r.at.reads (λ e. absurd (omega arith))) in
      let there : At w y (Go t ∷ []) (step s) (step s) = record { over = over_moved w.code x (set_reg SIGNATURE t x.regs) (x.pc + 8) r.at.over; reads = r.at.reads.2; halved = halved_free w x (step s) (step s) 16 t (x.pc + 8) free_16 r.at.halved } in
      let kept : reg y CURSOR ≡ reg u CURSOR = slice_index-set_reg_other x.regs 16 t 15 (λ e. absurd (omega arith)) ∙ r.cursor in
      stepped 1 (omega arith) (to_none (step s) y (r.steps + 2) 1 (Go t ∷ []) (walk_on (Calm w) u x y r.steps 2 r.walk two) kept (omega arith) (omega (arith, r.within)) there j.sourced t j.pc lacks))
      g.2.1
  leave_law class.Branch next i c f a so g =
      let br = branch_step w s i so g.0 c g.3 in
      let b = holds i.kind (reg s i.rs1) (reg s i.rs2) in
      let r = turn_row w b u s i a c f.0 f.1 br in
      ⊎_elim
      (λ l. stepped 1 (omega arith) (to_entry (step s) r.to r.steps 1 5 1 r.walk r.cursor (turn_go w b v.leads r.to s i (entries (branch_to w b i s) l) l r.at r.sign c f.0 f.1 br) (omega arith) (omega (arith, r.within)) br.sourced))
      (λ lacks. stepped 1 (omega arith) (to_none (step s) r.to r.steps 1 (second_part w i s.pc) r.walk r.cursor r.at_least (omega (arith, r.within)) r.at br.sourced (branch_to w b i s) br.pc lacks))
      (goes b g.2.2 g.2.3) where
        goes : (b : Bool) → Goes w v.leads (target i s.pc) → Goes w v.leads ((s.pc + 4) % 2 ^ 64) → Goes w v.leads (branch_to w b i s)
        goes true x y = x
        goes false x y = y
  leave_law class.JumpReg next i c f a so g =
      let lp = leap_step w s i so g.0 c g.3 in
      let there : w.reached (aim s i) ≡ true = ap w.reached (sym lp.pc) ∙ g.4 i so.over.going (known_at w.source s i so.over g.0) c in
      let r = aim_row w u s i a f.0 f.1 lp in
      let to = moved r.regs r.sets.pc u in
      let over = over_moved w.code u r.regs r.sets.pc a.over in
      ⊎_elim
      (λ l. stepped 1 (omega arith) (to_entry (step s) to r.steps 5 5 1 r.sets.walk r.cursor (leap_row w to (step s) (aim s i) (g.2.3 (aim s i) there l) over r.halved r.target v.leads (entries (aim s i) l) l lp.pc r.sign r.sets.reads) (omega arith) (omega (arith, r.within)) lp.sourced))
      (λ lacks. stepped 1 (omega arith) (to_none (step s) to r.steps 1 [] r.sets.walk r.cursor r.at_least (omega (arith, r.within)) (record { over = over; reads = tt; halved = r.halved }) lp.sourced (aim s i) lp.pc lacks))
      (g.2.2 (aim s i) there lp.grain)
  leave_law k next i c f a so g = absurd f

-- the pc of the input is the address that the leave is made for
here_as :
    (c : Class) (w : World) (leader : ℕ → Bool) (next : ℕ) (i : Ins) (at : ℕ) (s : State) → IsLeft c next i at → GoesFrom c w leader next i at s
    → (left_as c next w.form.far i at ≡ left_as c next w.form.far i s.pc) × IsLeft c next i s.pc × GoesFrom c w leader next i s.pc s
here_as class.Compute w leader next i at s f g = (refl, f, g)
here_as class.Branch w leader next i at s f g = (ap (λ p. left_as class.Branch next w.form.far i p) (sym g.1), subst (λ p. IsLeft class.Branch next i p) (sym g.1) f, subst (λ p. GoesFrom class.Branch w leader next i p s) (sym g.1) g)
here_as class.Jump w leader next i at s f g = (ap (λ p. left_as class.Jump next w.form.far i p) (sym g.1), subst (λ p. IsLeft class.Jump next i p) (sym g.1) f, subst (λ p. GoesFrom class.Jump w leader next i p s) (sym g.1) g)
here_as class.JumpReg w leader next i at s f g = (ap (λ p. left_as class.JumpReg next w.form.far i p) (sym g.1), subst (λ p. IsLeft class.JumpReg next i p) (sym g.1) f, subst (λ p. GoesFrom class.JumpReg w leader next i p s) (sym g.1) g)
here_as class.End w leader next i at s f g = (ap (λ p. left_as class.End next w.form.far i p) (sym g.1), subst (λ p. IsLeft class.End next i p) (sym g.1) f, subst (λ p. GoesFrom class.End w leader next i p s) (sym g.1) g)
here_as class.Illegal w leader next i at s f g = (ap (λ p. left_as class.Illegal next w.form.far i p) (sym g.1), subst (λ p. IsLeft class.Illegal next i p) (sym g.1) f, subst (λ p. GoesFrom class.Illegal w leader next i p s) (sym g.1) g)
here_as c w leader next i at s f g = absurd f

pub quiet_leave :
    (next : ℕ) (far : Bool) (i : Ins) (at : ℕ) → IsLeft (class_of i.kind) next i at
    → Quiet (λ f. f ≡ far) (left next far i at) (λ w. Leaving w next i at) (λ w v n z. ⊥) (LeavesOn (class_of i.kind)) 14
quiet_leave next far i at f = record { leads = λ w v rest e st l. by w v rest e st l } where
  by :
      (w : World) (v : Views) (rest : List Item) → w.form.far ≡ far → At w v.now (left next far i at ++ rest) v.original v.shadow
      → Leaving w next i at v → Leads w v 14 rest (λ n z. ⊥) (LeavesOn (class_of i.kind) w v)
  by w v rest e st l =
      let h = here_as (class_of i.kind) w v.leads next i at v.original f l.goes in
      let a1 : At w v.now (left next far i at ++ rest) v.original v.original = subst (λ t. At w v.now (left next far i at ++ rest) v.original t) (sym l.same) st in
      let a2 : At w v.now (left next w.form.far i at ++ rest) v.original v.original = subst (λ f. At w v.now (left next f i at ++ rest) v.original v.original) (sym e) a1 in
      let a3 : At w v.now (left next w.form.far i at) v.original v.original = record { over = a2.over; reads = reads_front w.form.far w.code w.entry v.now.pc (left next w.form.far i at) rest a2.reads; halved = a2.halved } in
      leave_law w rest v l.entries (class_of i.kind) next i refl h.1 (subst (λ xs. At w v.now xs v.original v.original) h.0 a3) l.sourced h.2

-- ---- the end with the sweep
pub quiet_sweep :
    (spans : List (ℕ × ℕ)) (i : Ins) → class_of i.kind ≡ class.End
    → Quiet (λ far. Unit {0}) (swept_end spans i) (λ w. Sweeps w spans) (λ w v n z. ⊥) (λ w. SweptTo w spans) (end_bound true (length spans) (word_count spans))
quiet_sweep spans i k = record { leads = λ w v rest s st need. subst (λ l. Leads w v (end_bound true (length l) (word_count l)) rest (λ n z. ⊥) (SweptTo w l v)) need.spans_are (row w v rest need st) } where
  row :
      (w : World) (v : Views) (rest : List Item) → Sweeps w spans v → At w v.now (swept_end spans i ++ rest) v.original v.shadow
      → Leads w v (end_bound true (length w.form.spans) (word_count w.form.spans)) rest (λ n z. ⊥) (SweptTo w w.form.spans v)
  row w v rest need st =
      let a1 = subst (λ t. At w v.now (swept_end spans i ++ rest) v.original t) (sym need.same) st in
      let a2 : At w v.now ((sweep spans ++ compare) ++ (Plain i ∷ rest)) v.original v.original = subst (λ l. At w v.now l v.original v.original) (append_assoc (sweep spans ++ compare) (Plain i ∷ []) rest) a1 in
      let a : At w v.now ((sweep w.form.spans ++ compare) ++ (Plain i ∷ rest)) v.original v.original = subst (λ l. At w v.now ((sweep l ++ compare) ++ (Plain i ∷ rest)) v.original v.original) (sym need.spans_are) a2 in
      let t = a.halved in
      let x = sweep_row w v.now v.original (Plain i ∷ rest) a in
      let u = moved x.regs x.sets.pc v.now in
      record {
        steps = sweep_cost w.form.spans + ORIGINALS + 1;
        to = record { now = stopped Ended u; original = v.original; shadow = v.original; leads = v.leads };
        within = omega arith;
        walk = walk_on (Calm w) v.now u (stopped Ended u) (sweep_cost w.form.spans + ORIGINALS) 1 x.sets.walk (end_walk w u i (over_moved w.code v.now x.regs x.sets.pc a.over) x.sets.reads.0 k);
        ends = inr (record {
          ended = refl;
          original = refl;
          shadow = refl;
          memory = refl;
          originals = λ q l. x.tempered.same q (λ e. absurd (omega arith)) (λ e. absurd (omega arith)) (λ e. absurd (omega arith));
          halved = halved_stopped w Ended v.now v.original v.original x.regs x.sets.pc x.tempered.long (λ q l. x.tempered.same q (λ e. absurd (omega arith)) (λ e. absurd (omega arith)) (λ e. absurd (omega arith))) (λ q one l. x.tempered.same (q + PAIR_DISTANCE) (λ e. absurd (omega arith)) (λ e. absurd (omega arith)) (λ e. absurd (omega arith))) t;
          swept = x.swept;
        });
      }

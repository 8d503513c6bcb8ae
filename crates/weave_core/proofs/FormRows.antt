-- The forms of the code are a weave: by the laws of rows and entry the promises follow from those of any weave.
use Rattle.std.proofs.Common.{◌≡◌, ℕ, zero, suc, ◌+◌, ◌*◌, ◌%◌, ◌^◌, ◌<◌, ◌≤◌, inl, inr, ⊎_elim, Bool, true, false, cond, List, [], ◌∷◌, ◌++◌, length, take, drop, refl, sym, ap, ◌∙◌, subst, arith, append_assoc, ◌-◌}
use Rattle.std.specs.Prelude.{pos, slice_set}
use Rattle.std.proofs.lemmas.Bool.{false≢true, and_parts, and_from, leb-true, ne_eqb, eq-eqb, eqb-true}
use Rattle.std.proofs.lemmas.List.{append-nil, take-append-drop, length-take-le}
use Rattle.std.proofs.Math.Nat.{mul-le-mul, mul-le-mul_left}
use Rattle.rv_isa.specs.declared.class.Class.TheVariants as class
use Rattle.qed_model.specs.Promise.Kept.{NotTrapped, LeadsToReached, IsSteady}
use Rattle.qed_model.specs.Promise.InStep.{LandedInStep}
use Rattle.qed_model.specs.Promise.OwnSteps.{KeptInStep}
use Rattle.qed_model.specs.Weave.Pieces.{is_run}
use Rattle.qed_model.specs.Weave.Blocks.{begins_at}
use Rattle.qed_model.specs.Weave.Sequences.{Form, Reads, End, Falls, Stops, Block, original, each_part, guards, sweep, compare, visit, leave, leave_as, Ins, class_of, Class, ORIGINALS, CURSOR, SIGNATURE, TEMPORARY}
use Rattle.machine.specs.Offsets.{distance_between, upper_part}
use Rattle.machine.specs.Operands.{is_auipc}
use Rattle.qed_model.specs.Weave.Bounds.{end_bound, visit_bound}
use Rattle.machine.proofs.Lemmas.{known_at, run-more, constant_walk, set_reg-pos, run-none, Over}
use Rattle.qed_model.proofs.Lemmas.{run_prefix}
use Rattle.weave_core.specs.World.{Item, Plain, Going, Ended, World, Twice, IsCursor, holds, Beq, Auipc, ins, set_reg, State, reg, moved, stopped, Known, HasAt, step, run, jumped, imm, next_pc, Program}
use Rattle.weave_core.specs.Blocks.{IsEntryOf, FitsPiece, AllFit, Leaves, EndStands}
use Rattle.weave_core.specs.Rows.{At, Sourced, Mirrors}
use Rattle.weave_core.specs.KindItems.{MirrorsFit}
use Rattle.weave_core.specs.Promise.{WovenIn, start_of, ValuesKept, LandingsFire}
use Rattle.weave_core.specs.Plan.{PlanKept, PlanLanded}
use Rattle.weave_core.specs.Pass.{Views, Leads, Quiet, Lockstep, Does, same_state}
use Rattle.weave_core.specs.Leaving.{swept_end, Signs}
use Rattle.weave_core.proofs.Visit.{checked_behind, words_within, cursor_decided, cursor_is}
use Rattle.weave_core.proofs.Source.{fit_front, has_front, not_trapped_le, source_run}
use Rattle.weave_core.proofs.Rows.{halved_input}
use Rattle.weave_core.proofs.Trails.{holds_of, met_going}
use Rattle.tests.specs.Admission.DataRanges.{word_count}
use Rattle.weave_core.proofs.Leaves.{step-end, step-branch, step-break}
use Rattle.weave_core.specs.Each.{items_each, NeedsEach, GivesEach, LeavesEach}
use Rattle.weave_core.specs.Parts.{any, unguarded, StandsBefore, NeedsOriginal, GivesOriginal, LeavesOriginal, GivesMirror, LeavesMirror, ForOriginal, NeedsPiece, GivesPiece, LeavesPiece, piece_items, piece_cost, ChecksMade}
use Rattle.weave_core.proofs.Compose.{leads_led, quiet_then, quiet_guarded, lockstep_then, lockstep_guarded, lockstep_each, quiet_each, each_front, each_same}
use Rattle.weave_core.proofs.PartLaws.{quiet_original, quiet_compare, quiet_visit, lockstep_original, lockstep_mirror}
use Rattle.weave_core.proofs.PieceLaws.{AreChecks, both_checks, never_originals, for_originals, for_mirrors, needs_originals, gives_originals, originals_trail, piece_leads, cost_parts, guarded_original, parts_are}
use Rattle.weave_core.proofs.LeaveLaws.{quiet_enter, fall_law, leave_law, quiet_sweep}
use Rattle.weave_core.proofs.KindItems.{items_then, compare_items, visits_items}
use Rattle.weave_core.proofs.Landing.{land_behind, straight_compare, land_visits}
use Rattle.weave_core.proofs.Prologue.{prologue_row}
use Rattle.weave_core.specs.Weave.{Weave, most_before_start, stage_steps}
use Rattle.weave_core.specs.WeaveLaws.{PieceAt, EntryAt, Met, Trail, Stands, GoesTo, Inside, Checked, stops, Onward, lands, is_lost, Left, Keeps, CheckedRows, Starts, Guarded}
use Rattle.weave_core.specs.WeavePromise.{PlanOf}
use Rattle.weave_core.specs.WeaveForms.{is_signed_at, weave_with, weave_of, ChecksLaws}
use Rattle.qed_model.specs.Weave.Costs.{spent, cost_each, used, bare_cost, original_cost}
use Rattle.weave_core.proofs.Values.{WeaveIn, in_step, plan_in}
use Rattle.rv_isa.proofs.RegsLaws.{slice_index-set_reg_other, slice_index-set_reg_same}
use Rattle.weave_core.proofs.Landings.{landed, weave_landed}

-- ---- the piece, as passes
-- where the next instruction stands
abbrev pub plus : ℕ → ℕ
plus a = a + 4

pub each_plus : (part : Ins → ℕ → List Item) (is : List Ins) (at : ℕ) → items_each plus part is at ≡ each_part part is at
each_plus part [] at = refl
each_plus part (i ∷ is) at = ap (λ l. part i at ++ l) (each_plus part is (at + 4))

module _ (form : Form) where
  -- a mirror part leads on in a world of the form that has its law
  abbrev pub NeedsOther : Ins → ℕ → World → Views → Type 0
  NeedsOther i at w v = (w.form ≡ form) × Mirrors w × StandsBefore w i at v.shadow

  abbrev pub other_cost : Ins → ℕ
  other_cost i = form.cost - spent i

  pub quiet_other : (i : Ins) (at : ℕ) → FitsPiece i → Quiet any (form.mirror i at) (NeedsOther i at) (λ w. Does w same_state step 0) (λ w v n z. ⊥) (other_cost i)
  quiet_other i at f = record {
    leads = λ w v rest s st r.
        let a1 : At w v.now (form.mirror i v.shadow.pc ++ rest) v.original v.shadow = subst (λ p. At w v.now (form.mirror i p ++ rest) v.original v.shadow) (sym r.2.here) st in
        let a2 : At w v.now (w.form.mirror i v.shadow.pc ++ rest) v.original v.shadow = subst (λ (f : Form). At w v.now (f.mirror i v.shadow.pc ++ rest) v.original v.shadow) (sym r.0) a1 in
        subst (λ (f : Form). Leads w v (f.cost - spent i) rest (Does w same_state step 0 v) (λ n z. ⊥)) r.0
        (leads_led w v 0 (w.form.cost - spent i) rest same_state step (r.1.row v.now v.original v.shadow i rest f a2 r.2.sourced r.2.known r.2.calm));
  }

  -- the guarded originals of some instructions
  pub quiet_front :
      (is : List Ins) (at : ℕ) → AllFit is
      → Quiet any (items_each plus (λ i at. guards (used i) ++ unguarded i at) is at) (NeedsEach plus NeedsOriginal GivesOriginal is at) (GivesEach plus original_cost GivesOriginal is at) (LeavesEach plus original_cost GivesOriginal LeavesOriginal is at) (cost_each original_cost is)
  quiet_front is at f =
      quiet_each plus any ForOriginal (λ i. []) (λ i at. guards (used i) ++ unguarded i at) NeedsOriginal GivesOriginal LeavesOriginal original_cost
      (λ i at f. quiet_guarded any (used i) (unguarded i at) (λ w v. StandsBefore w i at v.original) (λ w. Does w step same_state 1) (λ w v n z. ⊥) (bare_cost i) f.1 (quiet_original i at f.0)) is at (for_originals plus is at f)

  abbrev suits : Bool → Type 0
  suits far = any far × (any far × any far)

  -- the checks need that both halves are equal and the cursor is at a word
  abbrev Alike : World → Views → Type 0
  Alike w v = (v.original ≡ v.shadow) × (w.form ≡ form) × IsCursor w.form.spans (reg v.now CURSOR)

  -- all of it
  quiet_piece :
      (checks : List Item) (first steps : ℕ) → ChecksLaws form checks first steps → (is : List Ins) (at : ℕ) → AllFit is
      → Quiet suits (piece_items plus form.mirror checks is at) (NeedsPiece plus NeedsOther other_cost Alike is at) (GivesPiece plus other_cost (λ w. ChecksMade w first form.round) is at) (LeavesPiece plus other_cost (λ w v n z. ⊥) is at) (piece_cost other_cost steps is)
  quiet_piece checks first steps laws is at f =
      quiet_then any (λ far. any far × any far) _ _ _ _ _ _ _ _ _ _ (quiet_front is at f)
      (quiet_then any any _ _ _ _ _ _ _ _ _ _ (quiet_each plus any (λ i at. FitsPiece i) (λ i. []) form.mirror NeedsOther GivesMirror LeavesMirror other_cost quiet_other is at (for_mirrors plus is at f)) laws.quiet)

-- ---- the checks of a form
pub form_checks : (form : Form) → ChecksLaws form (compare ++ visit form.round form.spans) 0 (ORIGINALS + visit_bound (word_count form.spans) (length form.spans) * form.round)
form_checks form = record {
  quiet = record {
    leads = λ w v rest s st need.
        let q = quiet_then any any _ _ _ _ _ _ _ _ _ _ quiet_compare (quiet_visit form.round form.spans) in
        let b = both_checks w form.round form.spans (ap (λ (f : Form). f.spans) need.1) in
        let x = q.leads w v rest (tt, tt) st (b.ready v need.0 need.2) in
        record { steps = x.steps; to = x.to; within = x.within; walk = x.walk; ends = ⊎_elim (λ g. inl (g.0, b.checks v x.to x.steps g.1)) (λ l. inr (b.never v x.to x.steps l)) x.ends };
  };
  lockstep = record {
    locks = λ far s. items_then far compare (visit form.round form.spans) (compare_items far) (visits_items far form.round form.spans);
    lands = λ far s. land_behind far compare (visit form.round form.spans) (straight_compare far) (land_visits far form.round form.spans);
  };
}

-- ---- the words of a piece
-- by the laws of its passes
pub lockstep_piece :
    (form : Form) (checks : List Item) → MirrorsFit form.far form.mirror → Lockstep (λ far. far ≡ form.far) [] checks → (is : List Ins) (at : ℕ) → AllFit is
    → Lockstep (λ far. far ≡ form.far) [] (each_part original is at ++ (each_part form.mirror is at ++ checks))
lockstep_piece form checks m c is at h =
    let os = lockstep_each plus any ForOriginal (λ i. []) (λ i at. guards (used i) ++ unguarded i at) (λ i at f. lockstep_guarded any (used i) (used i) (unguarded i at) refl f.1 (lockstep_original i at f.0)) is at (for_originals plus is at h) in
    let ms = lockstep_each plus (λ far. far ≡ form.far) (λ i at. FitsPiece i) (λ i. []) form.mirror (lockstep_mirror (λ far. far ≡ form.far) form.mirror (λ far e. subst (λ b. MirrorsFit b form.mirror) (sym e) m)) is at (for_mirrors plus is at h) in
    let all = lockstep_then any _ [] [] _ _ refl os (lockstep_then (λ far. far ≡ form.far) (λ far. far ≡ form.far) [] [] _ _ refl ms c) in
    subst (Lockstep (λ far. far ≡ form.far) []) (parts_are plus form.mirror checks is at (λ part. each_plus part is at)) (record { locks = λ far e. all.locks far (tt, (e, e)); lands = λ far e. all.lands far (tt, (e, e)) })

-- ---- inside a run
-- the original parts of the first of some instructions have fewer steps than all of them
fewer_front : (is : List Ins) (n : ℕ) → n < length is → cost_each original_cost (take n is) < cost_each original_cost is
fewer_front [] n l = absurd (omega (arith, l))
fewer_front (i ∷ is) zero l = let h = one (is_auipc i.kind) in omega (arith, h) where
  one : (b : Bool) → 1 ≤ cond {A = ℕ} b 2 1
  one true = omega arith
  one false = omega arith
fewer_front (i ∷ is) (suc n) l = let h = fewer_front is n (omega (arith, l)) in omega (arith, h)

-- behind n instructions of a run the original half made n steps, fewer than all original parts have, whatever follows
pub front_row :
    (w : World) (is : List Ins) (n : ℕ) (u s : State) (tail : List Item) → n < length is → AllFit is → is_run is ≡ true → HasAt w.source s.pc is
    → At w u (each_part original is s.pc ++ tail) s s → Sourced w s → NotTrapped (run s n) → GoesTo w u n (3 * n) (λ k x. Inside w u s n k x × (k < cost_each original_cost is))
front_row w is n u s tail l fit clean has a so calm =
    let xs = take n is in
    let ys = drop n is in
    let v : Views = record { now = u; original = s; shadow = s; leads = λ a. false } in
    let split : is ≡ take n is ++ drop n is = sym (take-append-drop n is) in
    let count : length (take n is) ≡ n = length-take-le n is (omega (arith, l)) in
    let f = each_front plus (λ i at. guards (used i) ++ unguarded i at) xs ys s.pc in
    let all = each_same plus (λ i at. guards (used i) ++ unguarded i at) original guarded_original is s.pc ∙ each_plus original is s.pc in
    let shape = ap (λ k. k ++ tail) (sym all ∙ ap (λ k. items_each plus (λ i at. guards (used i) ++ unguarded i at) k s.pc) split ∙ f.1) ∙ append_assoc (items_each plus (λ i at. guards (used i) ++ unguarded i at) xs s.pc) f.0 tail in
    let fits = fit_front xs ys (subst AllFit split fit) in
    let run1 = run_prefix (λ r. false) xs ys (subst (λ k. is_run k ≡ true) split clean) in
    let has1 = has_front w.source s.pc xs ys (subst (HasAt w.source s.pc) split has) in
    let needs = needs_originals plus (λ a h. refl) w xs (λ r. false) s.pc v fits run1 (λ r e. refl) so refl has1 (subst (λ k. NotTrapped (run s k)) (sym count) calm) in
    let g = (quiet_front w.form xs s.pc fits).leads w v (f.0 ++ tail) tt (subst (λ k. At w u k s s) shape a) needs in
    ⊎_elim
    (λ e.
    let m = gives_originals plus (λ a h. refl) w xs s.pc v g.to g.steps e.1 in
    let goes : (k : ℕ) → k ≤ length xs → (run s k).outcome ≡ Going = λ k h. (source_run w xs k s h fits so has1 (not_trapped_le s k n (omega (arith, h, count)) calm)).sourced.over.going in
    let met : Met w u s = met_going w u s (holds_of w u s s a.halved) a.over.going so.over.going in
    let trail = originals_trail plus (λ a h. refl) w xs s.pc v g.to g.steps e.1 met goes in
    let three = cost_parts 3 (λ i. 0) (omega arith) (λ i. omega arith) xs in
    let fewer = fewer_front is n l in
    record {
      steps = g.steps;
      to = g.to.now;
      at_least = omega (arith, m.slow, count);
      within = omega (arith, g.within, three, count);
      walk = g.walk;
      is = (record { going = e.0.over.going; trail = subst (λ k. Trail w u s k g.steps) count trail }, omega (arith, g.within, fewer));
    })
    (λ e. absurd (never_originals plus xs s.pc w v g.to g.steps e))
    g.ends

-- ---- what holds from the entry of a block to its leave
pub held_parts : (w : World) (u : State) (a : ℕ) → is_signed_at w u a ≡ true → (reg u SIGNATURE ≡ a) × IsCursor w.form.spans (reg u CURSOR)
held_parts w u a e = let p = and_parts _ _ e in (eqb-true (reg u SIGNATURE) a p.0, cursor_decided w.form.spans (reg u CURSOR) p.1)

pub held_is : (w : World) (u : State) (a : ℕ) → reg u SIGNATURE ≡ a → IsCursor w.form.spans (reg u CURSOR) → is_signed_at w u a ≡ true
held_is w u a sign c = and_from _ _ (eq-eqb (reg u SIGNATURE) a sign) (cursor_is w.form.spans (reg u CURSOR) c)

-- where a walk leads, without what is said of the way there
abbrev pub goes_is : {w : World} {u : State} {least most : ℕ} {P Q : ℕ → State → Type 0} → GoesTo w u least most (λ n x. P n x × Q n x) → GoesTo w u least most P
goes_is g = record { steps = g.steps; to = g.to; at_least = g.at_least; within = g.within; walk = g.walk; is = g.is.0 }

-- ---- the rows, with any checks
module _ (w : World) (most : ℕ) (checks : List Item) (first steps : ℕ) (laws : ChecksLaws w.form checks first steps) (leader : ℕ → Bool) where
  abbrev v : Weave
  v = weave_with w.form most checks first steps

  -- both halves are those of s
  abbrev views : State → State → Views
  views u s = record { now = u; original = s; shadow = s; leads = leader }

  at_views : (z : Views) (t : State) (rest : List Item) → At w z.now rest z.original z.shadow → z.original ≡ t → z.shadow ≡ t → At w z.now rest t t
  at_views z t rest a e f = subst (λ y. At w z.now rest t y) f (subst (λ y. At w z.now rest y z.shadow) e a)

  -- ---- the entry
  pub enter_law :
      (u s : State) (rest : List Item) → Stands w leader u s → v.held w u s.pc ≡ true → s.pc < 2 ^ 64 → Reads w.form.far w.code w.entry u.pc (v.code.enter s.pc ++ rest)
      → GoesTo w u 0 3 (λ n x. (At w x rest s s × (v.held w x s.pc ≡ true)) × (reg x CURSOR ≡ reg u CURSOR))
  enter_law u s rest st held low r =
      let own = held_parts w u s.pc held in
      let g = (quiet_enter s.pc).leads w (views u s) rest tt (record { over = st.over; reads = (sym st.pc, r); halved = st.halved }) (record { same = refl; sign = own.0; here = refl; low = low }) in
      ⊎_elim
      (λ e. record { steps = g.steps; to = g.to.now; at_least = omega arith; within = g.within; walk = g.walk; is = ((at_views g.to s rest e.0 e.1.original e.1.shadow, held_is w g.to.now s.pc (e.1.sign ∙ own.0) (subst (IsCursor w.form.spans) (sym e.1.cursor) own.1)), e.1.cursor) })
      (λ l. absurd l)
      g.ends

  module _ (law : Mirrors w) where
    -- ---- a piece
    inside_law :
        (is : List Ins) (n : ℕ) (u s : State) (rest : List Item) → n < length is → PieceAt w v s.pc is → At w u (v.code.piece is s.pc ++ rest) s s
        → Sourced w s → NotTrapped (run s n) → GoesTo w u n v.piece_steps (λ k x. Inside w u s n k x × (k < v.piece_steps))
    inside_law is n u s rest l p a so calm =
        let both = and_parts _ _ p.one in
        let few : 3 * suc n ≤ w.form.cost * most = mul-le-mul law.enough (let h = leb-true (length is) most both.1 in omega (arith, h, l)) in
        let shape = append_assoc (each_part original is s.pc) (each_part w.form.mirror is s.pc ++ checks) rest in
        let g = front_row w is n u s ((each_part w.form.mirror is s.pc ++ checks) ++ rest) l p.fit both.0 p.has (subst (λ k. At w u k s s) shape a) so calm in
        record { steps = g.steps; to = g.to; at_least = g.at_least; within = omega (arith, g.within, few); walk = g.walk; is = (g.is.0, omega (arith, g.within, few)) }

    piece_law :
        (is : List Ins) (b : ℕ) (u s : State) (rest : List Item) → v.held w u b ≡ true → PieceAt w v s.pc is → At w u (v.code.piece is s.pc ++ rest) s s
        → Sourced w s → NotTrapped (run s (length is)) → GoesTo w u (length is) v.piece_steps (λ n x. (At w x rest (run s (length is)) (run s (length is)) × (v.held w x b ≡ true) × Trail w u s (length is) n) × Checked w v.compare_steps v.round u n x)
    piece_law is b u s rest held p a so calm =
        let own = held_parts w u b held in
        let both = and_parts _ _ p.one in
        let same_state = sym (parts_are plus w.form.mirror checks is s.pc (λ part. each_plus part is s.pc)) in
        let few = cost_parts w.form.cost (other_cost w.form) law.enough (λ i. omega arith) is in
        let m : w.form.cost * length is ≤ w.form.cost * most = mul-le-mul_left w.form.cost (leb-true (length is) most both.1) in
        let are : AreChecks w (Alike w.form) (λ w'. ChecksMade w' first w.form.round) (λ w v n z. ⊥) first w.form.round = record { ready = λ v h c. (h, refl, c); checks = λ v z n c. c; never = λ v z n l. l } in
        let g = piece_leads plus (λ a h. refl) w (NeedsOther w.form) (λ i at v r. (refl, law, r)) (other_cost w.form) (Alike w.form) (λ w'. ChecksMade w' first w.form.round) (λ w v n z. ⊥) first w.form.round are is s.pc (suits w.form) (tt, (tt, tt)) (w.form.cost * length is) steps (piece_items plus w.form.mirror checks is s.pc) few (quiet_piece w.form checks first steps laws is s.pc p.fit) (views u s) rest own.1 refl refl p.has p.fit both.0 so calm (subst (λ l. At w u (l ++ rest) s s) same_state a) in
        ⊎_elim
        (λ e.
        let c = e.1.checked in
        record {
          steps = g.steps;
          to = g.to.now;
          at_least = e.1.slow;
          within = omega (arith, g.within, m);
          walk = g.walk;
          is = ((at_views g.to (run s (length is)) rest e.0 e.1.original e.1.shadow, held_is w g.to.now b (e.1.sign ∙ own.0) (subst (IsCursor w.form.spans) (sym c.cursor) (words_within w.form.spans w.base w.form.round (reg u CURSOR) w.spans_good own.1)), e.1.trail), record { compare = c.compare; soon = omega (arith, c.soon, m); inside = c.inside; compares = c.compares; cursor = c.cursor; visits = c.visits });
        })
        (λ e. absurd e)
        g.ends

    -- ---- leaves
    module _ (block : (a : ℕ) → leader a ≡ true → IsEntryOf w a) where
      -- a leave, with what is seen on it
      abbrev Seen : State → State → ℕ → Type 0
      Seen u t least = (l : Left w v leader u t least) × Keeps w v leader u t least l

      -- the cursor is at a word
      onward_held : (t x : State) → IsCursor w.form.spans (reg x CURSOR) → Onward w leader Signs t x → Onward w leader (λ y a. v.held w y a ≡ true) t x
      onward_held t x cur (lands st sign so) = lands st (held_is w x t.pc sign cur) so
      onward_held t x cur (is_lost going t' so lacks) = is_lost going t' so lacks

      -- from the law of the pass
      left_of :
          (u s t : State) (least : ℕ) {Is : ℕ → Views → Type 0} → IsCursor w.form.spans (reg u CURSOR) → Leads w (views u s) 14 [] (λ n z. ⊥) Is
          → ((n : ℕ) (z : Views) → Is n z → Onward w leader Signs t z.now × (least ≤ n) × (reg z.now CURSOR ≡ reg u CURSOR)) → Seen u t least
      left_of u s t least cur g f =
          ⊎_elim
          (λ e. absurd e.1)
          (λ l. let x = f g.steps g.to l in (inr (record { steps = g.steps; to = g.to.now; at_least = x.1; within = g.within; walk = g.walk; is = onward_held t g.to.now (subst (IsCursor w.form.spans) (sym x.2) cur) x.0 }), x.2))
          g.ends

      stop_law :
          (c : Class) (u s : State) (i : Ins) → IsCursor w.form.spans (reg u CURSOR) → class_of i.kind ≡ c → At w u (leave_as w.form c i s.pc) s s → Sourced w s → w.source s.pc ≡ Known i
          → Leaves c w leader i s.pc → NotTrapped (step s) → LeadsToReached w.reached s → Seen u (step s) 1
      stop_law class.End u s i cur c a so h g calm leads = by w.form.sweep refl a where
        by : (b : Bool) → w.form.sweep ≡ b → At w u (cond b (sweep w.form.spans ++ compare) [] ++ (Plain i ∷ [])) s s → Seen u (step s) 1
        by true is a =
            let e : step s ≡ stopped Ended s = step-end s i so.over.going (known_at w.source s i so.over h) c in
            let a1 : At w u (swept_end w.form.spans i ++ []) s s = subst (λ l. At w u l s s) (sym (append-nil (swept_end w.form.spans i))) a in
            let x = (quiet_sweep w.form.spans i c).leads w (views u s) [] tt a1 (record { same = refl; spans_are = refl }) in
            let high : x.steps ≤ end_bound w.form.sweep (length w.form.spans) (word_count w.form.spans) = subst (λ b. x.steps ≤ end_bound b (length w.form.spans) (word_count w.form.spans)) (sym is) x.within in
            ⊎_elim
            (λ e. absurd e.1)
            (λ l.
            let has : Twice w x.to.now (stopped Ended s) (stopped Ended s) = halved_input w Ended x.to.now s l.halved in (
              inl (record {
                steps = x.steps;
                to = x.to.now;
                at_least = omega (arith, l.swept.exact);
                within = omega (arith, high);
                walk = x.walk;
                is = record { ended = l.ended; halved = subst (λ y. Twice w x.to.now y y) (sym e) has; input = ap (λ x. x.outcome) e };
              }),
              λ sw. l.swept,
            ))
            x.ends
        by false is a =
            let x = leave_law w [] (views u s) block class.End 0 i c tt a so (h, refl, tt, calm, leads) in
            ⊎_elim
            (λ e. absurd e.1)
            (λ l. (inl (record { steps = x.steps; to = x.to.now; at_least = l.left.2; within = omega (arith, x.within); walk = x.walk; is = l.left.0 }), λ sw. absurd (false≢true (sym is ∙ sw))))
            x.ends
      stop_law class.Illegal u s i cur c a so h g calm leads = left_of u s (step s) 1 cur (leave_law w [] (views u s) block class.Illegal 0 i c tt a so (h, refl, tt, calm, leads)) (λ n z l. (l.left.0, l.left.1, l.cursor))
      stop_law class.Jump u s i cur c a so h g calm leads = left_of u s (step s) 1 cur (leave_law w [] (views u s) block class.Jump 0 i c g.0 a so (h, refl, g, calm, leads)) (λ n z l. (l.left.0, l.left.1, l.cursor))
      stop_law class.Branch u s i cur c a so h g calm leads = left_of u s (step s) 1 cur (leave_law w [] (views u s) block class.Branch ((s.pc + 4) % 2 ^ 64) i c (g.0, g.1, refl) a so (h, refl, g, calm, leads)) (λ n z l. (l.left.0, l.left.1, l.cursor))
      stop_law class.JumpReg u s i cur c a so h g calm leads = left_of u s (step s) 1 cur (leave_law w [] (views u s) block class.JumpReg 0 i c (g.0, g.1) a so (h, refl, g, calm, leads)) (λ n z l. (l.left.0, l.left.1, l.cursor))
      stop_law k u s i cur c a so h g calm leads = absurd g

      pub leave_row :
          (e : End) (b : ℕ) (u s : State) → v.held w u b ≡ true → At w u (leave w.form e s.pc) s s → Sourced w s → EndStands w leader e s.pc → IsSteady w.reached s (stops e)
          → Seen u (run s (stops e)) (stops e)
      unfolding run
      leave_row Falls b u s held a so g st = left_of u s s 0 (held_parts w u b held).1 (fall_law w [] (views u s) block s.pc a so g refl) (λ n z l. (l.left, omega arith, l.cursor))
      leave_row (Stops i) b u s held a so g st = stop_law (class_of i.kind) u s i (held_parts w u b held).1 refl a so g.0 g.1 st.no_trap (st.leads 0 (omega arith))

    short_law : (is : List Ins) → v.fits is ≡ true → length is ≤ v.piece_steps
    short_law is e = let h = leb-true (length is) most (and_parts _ _ e).1 in let m : 3 * most ≤ w.form.cost * most = mul-le-mul law.enough (omega arith) in omega (arith, h, m)

    entry_known : (a : ℕ) → EntryAt w v leader a → IsEntryOf w a
    entry_known a b =
        let i = ins Auipc TEMPORARY 0 0 (upper_part (distance_between (w.entry a) a)) in
        record { low = b.good.low; entry_low = omega (arith, w.low (w.entry a) i b.reads.1.0); grain = w.grain (w.entry a) i b.reads.1.0 }

    -- ---- all of them
    pub rows_with : CheckedRows w v leader
    rows_with = record {
      rows = record {
        short = short_law;
        known = entry_known;
        enter = λ u s rest st held low r. goes_is (enter_law u s rest st held low r);
        inside = inside_law;
        piece = λ is b u s rest held p a so calm. goes_is (piece_law is b u s rest held p a so calm);
        leave = λ known e b u s held own a so g steady. (leave_row known e b u s held a so g steady).0;
      };
      word = λ u b held. (held_parts w u b held).1;
      enter = λ u s rest st held low r. (enter_law u s rest st held low r).is.1;
      piece = λ is b u s rest held p a so calm. (piece_law is b u s rest held p a so calm).is.1;
      leave = λ known e b u s held own a so g steady. (leave_row known e b u s held a so g steady).1;
    }

  -- ---- what runs first
  pub starts_with : (f g : Program) → Starts f g w v leader
  starts_with f g = record {
    first = λ d entry leads begins regs are.
        let x = prologue_row f g w leader (record { world = d; begins = begins; leads = leads; entry = entry }) regs are in
        record { steps = x.steps; to = x.to; at_least = x.at_least; within = x.within; walk = x.walk; is = (x.is.0, held_is w x.to f.entry x.is.1.0 x.is.1.1) };
  }

-- ---- a form
module _ (w : World) (most : ℕ) where
  abbrev wv : Weave
  wv = weave_of w.form most

  abbrev pub both : List Item
  both = compare ++ visit w.form.round w.form.spans

  abbrev pub both_steps : ℕ
  both_steps = ORIGINALS + visit_bound (word_count w.form.spans) (length w.form.spans) * w.form.round

  pub form_rows : (leader : ℕ → Bool) → Mirrors w → CheckedRows w wv leader
  form_rows leader law = rows_with w most both 0 both_steps (form_checks w.form) leader law

  pub form_starts : (leader : ℕ → Bool) (f g : Program) → Starts f g w wv leader
  form_starts leader f g = starts_with w most both 0 both_steps (form_checks w.form) leader f g

  -- ---- leaders with their entries
  pub woven_in : (f g : Program) (leader : ℕ → Bool) → WovenIn f g w leader most → Mirrors w → WeaveIn f g w wv leader
  woven_in f g leader x law = record {
    rows = (form_rows leader law).rows;
    starts = form_starts leader f g;
    world = x.world;
    entries = x.entries;
    leads = x.leads;
    begins = x.begins;
  }

-- ---- a pass before the checks
-- where it leaves both halves as they are, they have the laws with it
pub checks_after :
    (form : Form) (xs checks : List Item) (m first steps : ℕ) → Quiet any xs (λ w v. v.original ≡ v.shadow) (λ w. Does w same_state same_state 0) (λ w v n z. ⊥) m
    → Lockstep any [] xs → ChecksLaws form checks first steps → ChecksLaws form (xs ++ checks) (m + first) (m + steps)
checks_after form xs checks m first steps quiet lock laws = record {
  quiet = record {
    leads = λ w v rest s st need.
        let x = (quiet_then any any _ _ _ _ _ _ _ _ _ _ quiet laws.quiet).leads w v rest (tt, tt) st (need.0, λ n y d. (d.original ∙ need.0 ∙ sym d.shadow, need.1, subst (IsCursor w.form.spans) (sym d.cursor) need.2)) in
        record {
          steps = x.steps;
          to = x.to;
          within = x.within;
          walk = x.walk;
          ends = ⊎_elim
              (λ g.
              let c = g.1 in
              let d = c.first in
              inl (g.0, record { original = c.last.original ∙ d.original; shadow = c.last.shadow ∙ d.shadow; sign = c.last.sign ∙ d.sign; checked = checked_behind w first form.round v.now c.middle.now x.to.now c.some m c.more x.steps c.runs d.cursor c.within (sym c.sum) c.last.checked }))
              (λ l. inr (⊎_elim (λ f. f) (λ c. c.last) l))
              x.ends;
        };
  };
  lockstep = let both = lockstep_then any any [] [] xs checks refl lock laws.lockstep in record { locks = λ far s. both.locks far (tt, tt); lands = λ far s. both.lands far (tt, tt) };
}

-- ---- the promises
-- with any checks that have the laws the values are kept
pub kept_with :
    (f g : Program) (w : World) (most : ℕ) (checks : List Item) (first steps : ℕ) (blocks : List Block) → ChecksLaws w.form checks first steps
    → PlanOf f g w (weave_with w.form most checks first steps) blocks → Mirrors w
    → KeptInStep f g w.reached w.distance (most_before_start (weave_with w.form most checks first steps)) (stage_steps (weave_with w.form most checks first steps))
kept_with f g w most checks first steps blocks laws p law =
    let rows = rows_with w most checks first steps laws (begins_at blocks) law in
    in_step f g w (weave_with w.form most checks first steps) (begins_at blocks) (plan_in f g w (weave_with w.form most checks first steps) blocks p rows.rows (starts_with w most checks first steps laws (begins_at blocks) f g)) (omega arith)

-- where each leader has its entry, the values are kept
pub values_kept : ValuesKept
values_kept f g w leader most x law = subst (λ n. KeptInStep f g w.reached w.distance (start_of w.form) n) (omega arith) (in_step f g w (weave_of w.form most) leader (woven_in w most f g leader x law) (omega arith))

-- a plan keeps the values
pub plan_kept : PlanKept
plan_kept f g w most blocks p law =
    let k = kept_with f g w most (both w most) 0 (both_steps w most) blocks (form_checks w.form) p law in
    subst (λ n. KeptInStep f g w.reached w.distance (start_of w.form) n) (omega arith) k

-- ---- the entry
-- numbers that differ fail the test
differ_fails : (a b : ℕ) → (a ≡ b → ⊥) → holds Beq a b ≡ false
unfolding holds
differ_fails a b h = ne_eqb a b h

-- the first step of a run
first_run : (s : State) (k : ℕ) → run s (suc k) ≡ run (step s) k
unfolding run
first_run s k = refl

-- the entry of a form is one with these laws, with any checks
pub form_guarded : (w : World) (most : ℕ) (checks : List Item) (first steps : ℕ) → Guarded w (weave_with w.form most checks first steps) 4
form_guarded w most checks first steps = record {
  signed = λ u a rest low h o q. q.signed a low (o.code u.pc ∙ h.0, o.code (u.pc + 4) ∙ h.1, o.code (u.pc + 8) ∙ h.2.0);
  fires = λ v c rest low h o long ne.
      let i = ins Beq 0 SIGNATURE TEMPORARY (pos 8) in
      let near = w.low (v.pc + 8) i h.2.0 in
      let l = set_reg TEMPORARY c v.regs in
      let x = moved l (v.pc + 8) v in
      let same_state : slice_set v.regs 30 c ≡ set_reg TEMPORARY c v.regs = sym (set_reg-pos v.regs 30 c (omega arith)) in
      let two : run v 2 ≡ x = (constant_walk w.code v 30 c o (h.0, (h.1, tt)) (omega (arith, near)) low (omega arith) (omega (arith, long))).ends ∙ ap (λ l. moved l (v.pc + 8) v) same_state in
      let over_x : Over w.code x = record { going = o.going; code = o.code } in
      let left : reg x SIGNATURE ≡ reg v SIGNATURE = slice_index-set_reg_other v.regs 30 c 16 (λ e. absurd (omega arith)) in
      let right : reg x TEMPORARY ≡ c = slice_index-set_reg_same v.regs 30 c (omega arith) (omega (arith, long)) in
      let test : holds Beq (reg x SIGNATURE) (reg x TEMPORARY) ≡ false = differ_fails (reg x SIGNATURE) (reg x TEMPORARY) (λ q. ne (sym left ∙ q ∙ right)) in
      let y = moved l (v.pc + 8 + 4) v in
      let four : (v.pc + 8 + 4) % 2 ^ 64 ≡ v.pc + 8 + 4 = omega (arith, near) in
      let three : step x ≡ y = step-branch x i over_x.going (known_at w.code x i over_x h.2.0) refl ∙ ap (λ t. cond t (jumped x.regs ((x.pc + imm i) % 2 ^ 64) x) (moved x.regs (next_pc x) x)) test ∙ ap (λ p. moved l p v) four in
      let all : run v 4 ≡ step y = run-more v 2 2 ∙ ap (λ s. run s 2) two ∙ first_run x 1 ∙ ap (λ s. run s 1) three ∙ first_run y 0 ∙ run-none (step y) in
      ap (λ s. s.outcome) all ∙ step-break y o.going (o.code (v.pc + 8 + 4) ∙ h.2.1.0);
}

-- in a plan of a form jumps land
pub plan_landed : PlanLanded
plan_landed f g w most blocks entries p law known =
    subst (λ n. LandedInStep 4 f g w.reached entries (start_of w.form) n) (omega arith)
    (weave_landed f g w (weave_of w.form most) blocks entries p (form_rows w most (begins_at blocks) law).rows (form_starts w most (begins_at blocks) f g) (form_guarded w most (both w most) 0 (both_steps w most)) known)

-- jumps land wherever the entries stand
pub landings_fire : LandingsFire
landings_fire f g w leader most entries x law known =
    subst (λ n. LandedInStep 4 f g w.reached entries (start_of w.form) n) (omega arith)
    (landed f g w (weave_of w.form most) leader entries (woven_in w most f g leader x law) (form_guarded w most (both w most) 0 (both_steps w most)) known)

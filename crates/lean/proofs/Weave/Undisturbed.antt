-- The law: from the entry of a block the original half alone leads the run along the input's run.
use Rattle.std.proofs.Common.{◌≡◌, ℕ, zero, suc, ◌+◌, ◌*◌, ◌/◌, ◌^◌, ◌≤◌, ◌⊎◌, inl, inr, ⊎_elim, Bool, true, false, List, [], ◌∷◌, ◌++◌, length, is_some, refl, sym, ap, ◌∙◌, subst, arith}
use Rattle.std.specs.Prelude.{◌-◌, ◌↔◌, pos}
use Rattle.std.proofs.lemmas.Bool.{cases_eq, false≢true}
use Rattle.std.proofs.lemmas.List.{set-set}
use Rattle.rv_isa.specs.declared.class.Class.TheVariants as class
use Rattle.machine.specs.Table.{ins, Jal, Addi}
use Rattle.machine.specs.Offsets.{distance_between}
use Rattle.std.proofs.Math.Nat.{mul-le-mul_right}
use Rattle.qed_model.specs.Promise.Kept.{after_input, after_output, is_trapped, Halves, Steady, IsSteady}
use Rattle.qed_model.specs.declared.change.Change.{Change}
use Rattle.qed_model.specs.Promise.Changed.{changed_run}
use Rattle.qed_model.specs.Weave.Blocks.{begins_at}
use Rattle.qed_model.specs.Weave.LeanCode.{Lean}
use Rattle.qed_model.specs.Weave.Lean.{cost, begin, check}
use Rattle.qed_model.specs.Weave.Sequences.{Reads, Block, compare, visit, visit_word, wraps, ORIGINALS}
use Rattle.weave_core.specs.Blocks.{IsEntryOf}
use Rattle.weave_core.specs.Leaving.{sweep_cost}
use Rattle.weave_core.specs.Rows.{Sourced}
use Rattle.weave_core.specs.WeaveLaws.{Met}
use Rattle.weave_core.specs.World.{World, GoodSpans, Program, Going, Ended, AreStartRegs, Ins, Item, Plain, Known, next, Go, start, zeros, State, get, flags_at, reg, set_reg, moved, result, class_of, step, run}
use Rattle.lean.specs.Strayed.{IsOver, Stopped}
use Rattle.lean.specs.Undisturbed.{HasOriginals, ComesTo, AllDuplicate, AllMay, SlipsDuplicate, SlipsOther, GoesOn, slip_steps, slipped_run, FollowsTo, EndsRight, change_price, Undisturbed, undisturbed_piece, undisturbed_ends}
use Rattle.lean.specs.Woven.{LeanPlan, LeanUndisturbed}
use Rattle.lean.proofs.Weave.Carry.{over_moved, length-set_reg, slice_index-set_reg_zero, addi_value, run-last, run-more, run-none, met_same, Standing, standing_run, some-flags, first_sourced, steady_rest}
use Rattle.lean.proofs.Weave.Chain.{cost_append}
use Rattle.lean.proofs.Weave.Beyond.{begin_beyond}
use Rattle.lean.proofs.Weave.Half.{Half, Into, half_spare}
use Rattle.lean.proofs.Weave.Inside.{sized_run, small_at}
use Rattle.lean.proofs.Weave.Skipped.{Loses}
use Rattle.lean.proofs.Weave.Idle.{of_duplicates, all_duplicate, fewer, follows_like}
use Rattle.lean.proofs.Weave.Robust.{Disturbed, Robust, EveryOf, Onto, With, Before_words, words_last, half_met, leads_word, mends, Slip, Calm, slip_gives, slip_skips, same_word, computes}
use Rattle.lean.proofs.Weave.RobustEnter.{entry_most, check_most}
use Rattle.lean.proofs.Weave.RobustEnd.{Room, end_most, sweep_most}
use Rattle.lean.proofs.Weave.RobustLeave.{Entered, go_enters}
use Rattle.lean.proofs.Weave.RobustRun.{round, entry_cost, loses, after_check, entered_leads, checked_leads}
use Rattle.lean.proofs.Weave.RobustStart.{Awaits, awaits_last, awaits_set, counter, count_word, begin_words, start_awaits}
use Rattle.lean.proofs.Weave.Trail.{Played, robust_more, robust_disturbed, follows, changes_play, first_changes}
use Rattle.lean.proofs.Weave.OtherSlips.{slip_of}
use Rattle.lean.proofs.Weave.EndsRight.{ends_not_over, ends_right}
use Rattle.lean.proofs.Weave.SlipTrail.{runs_on, slip_follows, went_on}
use Rattle.lean.proofs.Weave.DuplicateSlips.{slipped_before, slipped_behind, slip_goes, slip_disturbs, slip_plays, slip_begins}

-- ---- steps
wraps_cost : (spans : List (ℕ × ℕ)) (first : ℕ) → cost (wraps spans first) ≤ 5 * length spans
wraps_cost [] first = omega arith
wraps_cost (r ∷ []) first = omega arith
wraps_cost (r ∷ n ∷ rs) first = let e = wraps_cost (n ∷ rs) first in omega (arith, e)

word_cost : (spans : List (ℕ × ℕ)) → cost (visit_word spans) ≤ 5 + 5 * length spans
word_cost [] = omega arith
word_cost (r ∷ rs) = let e = wraps_cost (r ∷ rs) r.0 in omega (arith, e)

visit_cost : (round : ℕ) (spans : List (ℕ × ℕ)) → cost (visit round spans) ≤ (5 + 5 * length spans) * round
visit_cost zero spans = omega arith
visit_cost (suc n) spans =
    let e = visit_cost n spans in
    let k = word_cost spans in
    let sum = cost_append (visit_word spans) (visit n spans) in
    let all : (5 + 5 * length spans) * suc n ≡ (5 + 5 * length spans) + (5 + 5 * length spans) * n = omega arith in
    omega (arith, e, k, sum, all)

sweep_few : (spans : List (ℕ × ℕ)) (base : ℕ) → GoodSpans base spans → sweep_most spans ≤ sweep_cost spans
sweep_few [] base g = omega arith
sweep_few (r ∷ rs) base g =
    let e = sweep_few rs (r.1 + 1) g.1 in
    let k = one r.0 r.1 g.0.some in
    omega (arith, e, k) where
      one : (a b : ℕ) → a + 8 ≤ b → suc ((b - a - 8) / 8) ≤ (b - a) / 8
      one a b h = omega (arith, h)

module _ (f g : Program) (w : World) (l : Lean) (blocks : List Block) (p : LeanPlan f g w l blocks) where
  -- a state of the input's run
  sourced_at : (k : ℕ) → (after_input f k).outcome ≡ Going → Sourced w (after_input f k)
  sourced_at k going =
      let first = first_sourced f g w p.world in
      let st = standing_run w.source w.input w.input_fixed k (start f zeros) (record { code = p.world.input_code; flagged = first.flagged }) in
      record { over = record { going = going; code = st.code }; flagged = st.flagged; sized = sized_run k (start f zeros) first.sized }

  half_of : (s u : State) → Sourced w s → HasOriginals f g w.base w.distance w.entry s u → Half w s.pc s u
  half_of s u so h = record {
    going = h.going;
    standing = record { code = λ a. h.code a ∙ p.world.output_code a; flagged = record { flags = λ q. h.flags q ∙ ap (λ m. flags_at m q) p.world.output; regs = h.count; zero_reg = h.zero_reg } };
    sourced = so;
    sign = h.sign;
    distance = h.distance_is;
    originals = λ r m. ⊎_elim (λ z. ap (reg u) z ∙ h.zero_reg ∙ sym so.flagged.zero_reg ∙ ap (reg s) (sym z)) (λ nz. h.originals r (omega (arith, nz)) m) (cases_eq r 0);
    bytes = λ q e. h.bytes q (ap (λ m. is_some (get m q)) p.world.input ∙ e);
    fixed = λ q low high. h.fixed q low high ∙ ap (λ m. get m q) p.world.output;
  }

  halves_of : (t y : State) → Met w y t → Halves f t y
  halves_of t y m = record {
    regs = λ r one h. m.holds.originals r h;
    mapped = λ q e. some-flags _ _ (m.holds.output.flags q) ∙ w.layout.mapped q (ap (λ z. is_some (get z q)) (sym p.world.input) ∙ e);
    bytes = λ q e. m.holds.bytes q (ap (λ z. is_some (get z q)) (sym p.world.input) ∙ e);
  }

  abbrev leader : ℕ → Bool
  leader a = begins_at blocks a

  -- ---- the numbers
  abbrev bound : ℕ
  bound = undisturbed_piece l.land (length w.form.spans) w.form.round

  abbrev ends : ℕ
  ends = undisturbed_ends w.form.spans

  abbrev price : ℕ → ℕ
  price top = change_price bound ends top

  abbrev most : ℕ
  most = entry_cost w l

  enough : round w l + (2047 + 31) ≤ bound
  enough =
      let v = visit_cost w.form.round w.form.spans in
      let c : cost compare ≡ ORIGINALS = refl in
      omega (arith, v, c)

  ends_few : end_most w + 1 ≤ ends
  ends_few =
      let s = sweep_few w.form.spans w.base w.spans_good in
      let c : cost compare ≡ ORIGINALS = refl in
      omega (arith, s, c)

  -- ---- from an entry
  -- any state there, with a price and where no byte of the output stands
  entered :
      (fee top : ℕ) (slip : Bool) → round w l ≤ fee → (bound ≤ fee → Room w fee top) → (slip ≡ true → bound ≤ fee) → (n k : ℕ) (s u : State) → IsSteady w.reached s k → Entered w l leader p.sound bound fee slip s u
      → Robust w bound fee slip n k (step s) most u
  entered fee top slip dear paid payable n k s u st h = entered_leads f g w l blocks p bound fee slip enough dear top paid payable k n k s (omega arith) n k most u (omega arith) (omega arith) st (h, omega arith)

  -- ---- without changes
  -- a price below the bound
  abbrev cheap : ℕ
  cheap = round w l

  free : bound ≤ cheap → Room w cheap 0
  free h = absurd (let e = enough in omega (arith, h, e))

  -- the input's state after n steps
  comes : (n : ℕ) (s u : State) → IsSteady w.reached s n → Half w s.pc s u → Entered w l leader p.sound bound cheap false s u → ComesTo f (run s n) u ((n + 1) * bound + ends)
  unfolding run
  comes zero s u st h e = record { steps = 0; within = omega arith; is = inr (by (sym (run-none u)) (sym (run-none s))) } where
    by : {y t : State} → u ≡ y → s ≡ t → Halves f t y × ((y.outcome ≡ Ended) ↔ (t.outcome ≡ Ended))
    by a b = let m = met_same w _ _ _ _ (sym a) (sym b) (half_met w bound cheap s.pc s u h) in (halves_of _ _ m, m.ends)
  comes (suc n) s u st h e =
      let r = entered cheap 0 false (omega arith) free (λ z. absurd (false≢true z)) (suc (most + suc n * bound) * 2) (suc n) s u st e in
      let m = runs_on w bound cheap some u (suc (most + suc n * bound) * 2) (suc n) (step s) most r (omega arith) in
      let within = m.within n (omega arith) in
      let sum = enough in
      let last = ends_few in
      record {
        steps = m.at n;
        within = total (m.at n) n (omega (arith, within, sum, last));
        is = ⊎_elim (λ o. inl o) (λ k. inr (by (run s (suc n)) (run u (m.at n)) k)) (m.values n (omega arith));
      } where
        some : 1 ≤ bound
        some = omega arith

        total : (x n : ℕ) → x ≤ bound + ends + n * bound → x ≤ (suc n + 1) * bound + ends
        total x n h = let e : (suc n + 1) * bound ≡ bound + bound + n * bound = omega arith in omega (arith, h, e)

        by : (t y : State) → Met w y t → Halves f t y × ((y.outcome ≡ Ended) ↔ (t.outcome ≡ Ended))
        by t y m = (halves_of t y m, m.ends)

  -- ---- from the start, with changes
  -- what is asked of the input for k states from its first one on
  abbrev First : ℕ → Type 0
  First k = (j : ℕ) → k ≡ suc j → IsSteady w.reached (start f zeros) j

  module _ (top : ℕ) (none : (q : ℕ) → top ≤ q → is_some (get w.output q) ≡ false) (low_top : top + 8 ≤ 2 ^ 64) where
    abbrev s0 : State
    s0 = start f zeros

    abbrev dear : ℕ
    dear = price top

    paid : bound ≤ dear → Room w dear top
    paid one = record { none = none; low = low_top; enough = omega arith }

    pays : round w l ≤ dear
    pays = let e = enough in omega (arith, e)

    dearer : bound ≤ dear
    dearer = omega arith

    -- what stands behind what runs first: the check, and what stands behind it
    abbrev ys : List Item
    ys = check w.base w.distance l.every w.form.round w.form.spans ++ (after_check f g w l blocks p bound dear true).0

    abbrev Jumps : State → Type 0
    Jumps = Before_words w bound dear (Awaits w s0 f.entry []) (Go f.entry ∷ ys)

    abbrev Counts : State → Type 0
    Counts = Before_words w bound dear (Awaits w s0 f.entry ((15, 2047) ∷ [])) (Plain counter ∷ Go f.entry ∷ ys)

    lost_at : (slip : Bool) → Loses w leader
    lost_at slip = loses f g w l blocks p bound dear slip

    -- without a slip the jump to the entry of the test makes the input's first state
    goes_first : (N K : ℕ) → EveryOf w bound dear false First s0 N K (With w bound dear (1 + end_most w) Jumps)
    unfolding Robust
    goes_first N K zero k m u n_le k_le st d = tt
    goes_first N K (suc n) zero m u n_le k_le st d = tt
    goes_first N K (suc n) (suc k) m u n_le k_le st d = (
      ⊎_elim
          (λ o. inl o)
          (λ e.
          let sum = enough in
          let few = d.1 in
          inr (m - 1, omega (arith, few), inr (half_met w bound dear s0.pc s0 (step u) e.0, robust_more w bound dear n k (step s0) most (m - 1 + bound) (step u) (omega (arith, sum, few)) (entered dear top false pays paid (λ z. dearer) n k s0 (step u) (st k refl) e))))
          (go_enters w l leader p.sound bound dear false f.entry s0 u ys refl p.begins (d.0.0.half u.pc, d.0.1)),
      (
        λ v one c. goes_first N K n (suc k) (m + dear) v (omega (arith, n_le)) k_le st (words_last w bound dear (Awaits w s0 f.entry []) (Go f.entry ∷ ys) (awaits_last w s0 f.entry bound dear [] tt) u v d.0 c, (let few = d.1 in omega (arith, few))),
        λ z. absurd (false≢true z),
      ),
    )

    known_entry : IsEntryOf w f.entry
    known_entry = p.sound.known f.entry p.begins

    -- with a slip the word before it makes that state, and the jump leads to the entry, or to the check if skipped
    jumps_on : (N K : ℕ) → Onto w bound dear true N K s0 (1 + most) Jumps
    jumps_on N K =
        leads_word w bound dear true (IsSteady w.reached s0) (step s0) N K Jumps (Entered w l leader p.sound bound dear true s0) most (1 + most) (omega arith)
        (words_last w bound dear (Awaits w s0 f.entry []) (Go f.entry ∷ ys) (awaits_last w s0 f.entry bound dear [] tt))
        (λ u b. go_enters w l leader p.sound bound dear true f.entry s0 u ys refl p.begins (b.0.half u.pc, b.1))
        (λ z.
        mends w bound dear (IsSteady w.reached s0) (step s0) N K (With w bound dear (1 + most) Jumps) (With w bound dear checked (Into w f.entry s0 ys))
        (λ m u d i v known sl calm.
        let e = slip_skips w i u v (jal u i d.0.1 known) sl in
        let few = d.1 in
        let sum = enough in
        let in_check = check_few in
        inr (inr (subst (Into w f.entry s0 ys) (sym e) (d.0.0.half (u.pc + 4), d.0.1.1), omega (arith, few, sum, in_check))))
        (checked_leads f g w l blocks p bound dear false enough pays top paid (λ z. dearer) N K s0 (first_sourced f g w p.world) p.begins))
        (λ n k m u n_le k_le st d. entered_leads f g w l blocks p bound dear true enough pays top paid (λ z. dearer) k n k s0 (omega arith) n k m u (omega arith) (omega arith) st d) where
          checked : ℕ
          checked = check_most w l + (entry_most w l + (31 + end_most w))

          check_few : check_most w l + (entry_most w l + (31 + end_most w)) ≤ most + dear
          check_few = omega arith

          jal : (u : State) (i : Ins) → Reads false w.code w.entry u.pc (Go f.entry ∷ ys) → w.code u.pc ≡ Known i → (class_of i.kind ≡ class.Jump) ⊎ ((class_of i.kind ≡ class.JumpReg) ⊎ (class_of i.kind ≡ class.End))
          jal u i r known = inl (ap (λ j. class_of j.kind) (same_word w u.pc i (ins Jal 0 0 0 (distance_between u.pc (w.entry f.entry))) known r.0.0))

    counts_first : (N K : ℕ) → EveryOf w bound dear true First s0 N K (With w bound dear (1 + (1 + end_most w)) Counts)
    unfolding Robust
    counts_first N K zero k m u n_le k_le st d = tt
    counts_first N K (suc n) zero m u n_le k_le st d = tt
    counts_first N K (suc n) (suc k) m u n_le k_le st d =
        let is = computes w counter u d.0.0.over d.0.1.0 refl in
        let value : result Addi counter u ≡ 2047 = addi_value u 15 0 0 2047 (pos 2047) d.0.0.zero_reg (omega arith) in
        let at : (x : ℕ) → Jumps (moved (set_reg 15 2047 u.regs) (u.pc + 4) u) = λ x. (awaits_set w s0 f.entry 15 2047 (u.pc + 4) [] u d.0.0, d.0.1.1) in
        let here : Jumps (step u) = subst Jumps (sym (is ∙ ap (λ x. moved (set_reg 15 x u.regs) (u.pc + 4) u) value)) (at 0) in
        let half : Half w f.entry s0 (step u) = here.0.half (step u).pc in
        let few = d.1 in
        let sum = enough in (
          inr (m - 1, omega (arith, few), inr (half_met w bound dear f.entry s0 (step u) half, jumps_on n k n k (m - 1 + bound) (step u) (omega arith) (omega arith) (st k refl) (here, omega (arith, few, sum)))),
          (
            λ v one c.
                count_word w s0 f.entry bound dear false leader (lost_at false) known_entry p.begins First n (suc k) ys (1 + end_most w) (goes_first n (suc k)) n (suc k) (m + dear) v (omega arith) (omega arith) st
                (words_last w bound dear (Awaits w s0 f.entry ((15, 2047) ∷ [])) (Plain counter ∷ Go f.entry ∷ ys) (awaits_last w s0 f.entry bound dear ((15, 2047) ∷ []) (omega arith, tt)) u v d.0 c, omega (arith, few)),
            λ z i v known sl calm.
                let g = slip_gives w counter u v (inl refl) (subst (λ j. Slip w j u v) (sym (same_word w u.pc counter i d.0.1.0 known)) sl) in
                inr (inr (goes_first n (suc k) n (suc k) (m + dear) v (omega arith) (omega arith) st (subst Jumps (sym g.1.2) (awaits_count g.1.0 (u.pc + 4) u d.0.0, d.0.1.1), omega (arith, few)))),
          ),
        ) where
          -- whatever x15 gets
          awaits_count : (x q : ℕ) (u : State) → Awaits w s0 f.entry ((15, 2047) ∷ []) u → Awaits w s0 f.entry [] (moved (set_reg 15 x u.regs) q u)
          awaits_count x q u a = record {
            over = over_moved w.code u (set_reg 15 x u.regs) q a.over;
            long = length-set_reg u.regs 15 x ∙ a.long;
            zero_reg = slice_index-set_reg_zero u.regs 15 x ∙ a.zero_reg;
            half = λ r. subst (λ k. Half w f.entry s0 (moved k r u)) (set-set u.regs 15 2047 x) (half_spare w f.entry s0 (moved (set_reg 15 2047 u.regs) r u) 15 x r refl (a.half r));
          }

    -- what runs first
    counts_lead : (slip : Bool) (N K : ℕ) → EveryOf w bound dear slip First s0 N K (With w bound dear (1 + (1 + end_most w)) Counts)
    counts_lead true N K = counts_first N K
    counts_lead false N K = count_word w s0 f.entry bound dear false leader (lost_at false) known_entry p.begins First N K ys (1 + end_most w) (goes_first N K)

    starts : (slip : Bool) (n k : ℕ) (regs : List ℕ) → AreStartRegs regs → First k → Robust w bound dear slip n k s0 (31 + end_most w) (start g regs)
    starts slip n k regs are st =
        let top_low = w.layout.top in
        begin_words w s0 f.entry bound dear slip leader (lost_at slip) known_entry p.begins First n k ys (1 + (1 + end_most w)) (omega (arith, top_low)) (counts_lead slip n k) n k (31 + end_most w) (start g regs) (omega arith) (omega arith) st
        ((start_awaits f g w p.world regs are f.entry, begins_then), omega arith) where
          begins_then : Reads false w.code w.entry g.entry (begin w.distance f.entry ++ ys)
          begins_then = begin_beyond f g w l blocks p

    first_stands : (regs : List ℕ) → AreStartRegs regs → Standing w.code w.output (start g regs)
    first_stands regs are =
        let first = start_awaits f g w p.world regs are f.entry in
        record { code = first.over.code; flagged = record { flags = λ q. ap (λ m. flags_at m q) p.world.output; regs = first.long; zero_reg = first.zero_reg } }

    -- a run from there whose duplicate half is changed
    plays_to :
        (regs : List ℕ) (y : ℕ → State) (c n : ℕ) (q : Played w y c) → AreStartRegs regs → (y 0 ≡ start g regs) ⊎ (Disturbed w (start g regs) (y 0) × (1 ≤ q.made 0)) → Steady f w.reached n
        → FollowsTo f n (31 + bound + ends + c * dear) bound y
    plays_to regs y c n q are front st =
        let m0 = 31 + end_most w in
        let fuel = suc (m0 + c * dear + suc n * bound + c * dear) in
        let known : First (suc n) = λ j e. subst (IsSteady w.reached s0) (let k : n ≡ j = omega (arith, e) in k) st in
        let r = at_first fuel known in
        let m = follows w bound dear (omega arith) y c (λ one. omega arith) q fuel (fuel * 2) 0 (suc n) s0 r.0 r.1 (omega arith) (let k = r.2 in omega (arith, k)) in
        let last = ends_few in
        let fits = r.2 in
        record {
          at = m.at;
          grows = λ k h. m.grows k (omega (arith, h));
          within = λ k h. let a = m.within k (omega (arith, h)) in omega (arith, a, fits, last);
          values = λ k h. ⊎_elim (λ o. inl o) (λ z. inr (halves_of (run s0 k) (y (m.at k)) z, z.ends)) (m.values k (omega (arith, h)));
        } where
          at_first : (fuel : ℕ) → First (suc n) → (b : ℕ) × Robust w bound dear false (fuel * 2) (suc n) s0 b (y 0) × (b + (c - q.made 0) * dear ≤ 31 + end_most w + c * dear)
          at_first fuel known =
              ⊎_elim
              (λ e.
              let few : (c - q.made 0) * dear ≤ c * dear = mul-le-mul_right dear (omega arith) in
              (31 + end_most w, subst (Robust w bound dear false (fuel * 2) (suc n) s0 (31 + end_most w)) (sym e) (starts false (fuel * 2) (suc n) regs are known), omega (arith, few)))
              (λ d.
              let one = d.1 in
              let few = q.few 0 in
              let sum : dear + (c - q.made 0) * dear ≡ suc (c - q.made 0) * dear = omega arith in
              let le : suc (c - q.made 0) * dear ≤ c * dear = mul-le-mul_right dear (omega (arith, one, few)) in
              (31 + end_most w + dear, robust_disturbed w bound dear (fuel * 2) (suc n) s0 (31 + end_most w) (start g regs) (y 0) (omega arith) d.0 (starts false (suc (fuel * 2)) (suc n) regs are known), omega (arith, sum, le)))
              front

    -- with any changes of the duplicate half
    plays_all : (regs : List ℕ) (cs : List Change) (n : ℕ) → AreStartRegs regs → AllDuplicate g w.base w.distance cs → Steady f w.reached n
        → FollowsTo f n (31 + bound + ends + length cs * dear) bound (changed_run (start g regs) cs)
    plays_all regs cs n are all st =
        let su = first_stands regs are in
        plays_to regs (changed_run (start g regs) cs) (length cs) n (changes_play g w p.world.output (start g regs) cs all su) are (first_changes g w p.world.output (start g regs) cs all su) st

    -- and of x30 and x31 while they wait for no use
    keeps_to : (regs : List ℕ) (cs : List Change) (n : ℕ) → AreStartRegs regs → AllMay g w.base w.distance (changed_run (start g regs) cs) cs → Steady f w.reached n
        → FollowsTo f n (31 + bound + ends + length cs * dear) bound (changed_run (start g regs) cs)
    keeps_to regs cs n are may st =
        let y = changed_run (start g regs) cs in
        let ds = of_duplicates g w.base w.distance y cs may in
        let le : length ds * dear ≤ length cs * dear = mul-le-mul_right dear (fewer g w.base w.distance y cs may) in
        follows_like (start g regs) cs g w.base w.distance may f n (31 + bound + ends + length ds * dear) (31 + bound + ends + length cs * dear) bound (omega (arith, le))
        (plays_all regs ds n are (all_duplicate g w.base w.distance y cs may) st)

    -- with a slip
    slips_to : (regs : List ℕ) (m n : ℕ) (i : Ins) (v : State) → AreStartRegs regs → (after_output g regs m).outcome ≡ Going → next (after_output g regs m) ≡ Known i → (after_output g regs (m + 1)).outcome ≡ Going
        → SlipsDuplicate g w.base w.distance i (after_output g regs m) v → Steady f w.reached n → FollowsTo f n (31 + bound + ends + dear) bound (slipped_run g regs m v)
    slips_to regs m n i v are going known goes s st =
        let u = after_output g regs m in
        let su : Standing w.code w.output u = standing_run w.code w.output w.output_fixed m (start g regs) (first_stands regs are) in
        let d = slip_disturbs g w p.world.output i u su going known (ap (λ y. y.outcome) (sym (run-last (start g regs) m)) ∙ goes) v s in
        let one : 1 * dear ≡ dear = omega arith in
        subst (λ c. FollowsTo f n (31 + bound + ends + c) bound (slipped_run g regs m v)) one
        (plays_to regs (slipped_run g regs m v) 1 n (slip_plays g w p.world.output regs m v d) are (inl (slip_begins g w p.world.output regs m v d)) st)

    -- with a slip of another instruction
    others_to :
        (regs : List ℕ) (m n : ℕ) (i : Ins) (v : State) → AreStartRegs regs → (after_output g regs m).outcome ≡ Going → next (after_output g regs m) ≡ Known i → SlipsOther i (after_output g regs m) v → GoesOn g regs m
        → Steady f w.reached n → Stopped slip_steps v ⊎ FollowsTo f n (31 + bound + ends + dear) bound (slipped_run g regs m v)
    others_to regs m n i v are going known s on st =
        let u0 = start g regs in
        let u = after_output g regs m in
        let y = slipped_run g regs m v in
        let su : Standing w.code w.output u = standing_run w.code w.output w.output_fixed m u0 (first_stands regs are) in
        let word : w.code u.pc ≡ Known i = sym (su.code u.pc) ∙ known in
        let calm : Calm w u = record { going = going; quiet = λ k h o. on k h (subst (λ z. IsOver z.outcome) (sym (run-more u0 m k)) o); small = λ r. small_at f g w p.world regs are m r } in
        let first : First (suc n) = λ j e. subst (IsSteady w.reached s0) (let k : n ≡ j = omega (arith, e) in k) st in
        let m0 = 31 + end_most w in
        let fuel = m + suc (suc (m0 + dear + suc n * bound) * 2) in
        let last = ends_few in
        ⊎_elim
        (λ o. inl o)
        (λ r.
        inr (record {
          at = r.at;
          grows = λ k h. r.grows k (omega (arith, h));
          within = λ k h. let a = r.within k (omega (arith, h)) in omega (arith, a, last);
          values = λ k h. ⊎_elim (λ o. inl o) (λ z. inr (halves_of (run s0 k) (y (r.at k)) z, z.ends)) (r.values k (omega (arith, h)));
        }))
        (slip_follows w bound dear (omega arith) u0 v y m (λ j h. slipped_before g regs m v j h) later i word (slip_of w i u v word calm s) calm (λ j h. went_on u0 m j h going) m 0 (omega arith) fuel (suc n) s0 m0
        (subst (Robust w bound dear true fuel (suc n) s0 m0) (sym (run-none u0)) (starts true fuel (suc n) regs are first)) (omega arith)) where
          later : (j : ℕ) → slipped_run g regs m v (suc m + j) ≡ run v j
          later j = slipped_behind g regs m v (suc m + j) (omega arith) ∙ (let e : suc m + j - (m + 1) ≡ j = omega arith in ap (run v) e)

    -- a run with a slip that ends
    ended_as :
        (regs : List ℕ) (m j : ℕ) (i : Ins) (v : State) → AreStartRegs regs → (after_output g regs m).outcome ≡ Going → next (after_output g regs m) ≡ Known i
        → SlipsDuplicate g w.base w.distance i (after_output g regs m) v ⊎ SlipsOther i (after_output g regs m) v → GoesOn g regs m → ((k : ℕ) → Steady f w.reached k) → (run v j).outcome ≡ Ended → EndsRight f (run v j)
    ended_as regs m j i v are going known s on st e =
        let first = 31 + bound + ends + dear in
        let right : FollowsTo f (suc m + j) first bound (slipped_run g regs m v) → EndsRight f (run v j) = λ r. ends_right f g regs m j v first bound r e in
        ⊎_elim
        (λ d. right (slips_to regs m (suc m + j) i v are going known (goes d) d (st (suc m + j))))
        (λ o. ⊎_elim (λ x. absurd (ends_not_over v j slip_steps e x)) right (others_to regs m (suc m + j) i v are going known o on (st (suc m + j))))
        s where
          u : State
          u = after_output g regs m

          next_is : step u ≡ after_output g regs (m + 1)
          next_is = sym (run-last (start g regs) m)

          calm : (b : Bool) → is_trapped (after_output g regs (m + 1)).outcome ≡ b → is_trapped (after_output g regs (m + 1)).outcome ≡ false
          calm true h = absurd (on 1 (omega arith) (inr h))
          calm false h = h

          goes : SlipsDuplicate g w.base w.distance i u v → (after_output g regs (m + 1)).outcome ≡ Going
          goes d =
              ap (λ z. z.outcome) (sym next_is) ∙ slip_goes g w.base w.distance i u v going known (ap (λ z. is_trapped z.outcome) next_is ∙ calm (is_trapped (after_output g regs (m + 1)).outcome) refl) d

  undisturbed : Undisturbed f g w.reached w.base w.distance w.entry blocks bound ends
  undisturbed = record {
    follows = λ k n u going leads h st.
        let s = after_input f k in
        let half = half_of s u (sourced_at k going) h in
        subst (λ t. ComesTo f t u ((n + 1) * bound + ends)) (sym (run-more (start f zeros) k n))
        (comes n s u (steady_rest w.reached (start f zeros) k n st) half (half, h.here, leads));
    keeps = λ regs cs n top are all none low st. keeps_to top (λ q h. ap (λ m. is_some (get m q)) (sym p.world.output) ∙ none q h) low regs cs n are all st;
    others = λ regs m n top i v are going known s on none low st. others_to top (λ q h. ap (λ m. is_some (get m q)) (sym p.world.output) ∙ none q h) low regs m n i v are going known s on st;
    ends_right = λ regs m j top i v are going known s on none low st e.
        let free : (q : ℕ) → top ≤ q → is_some (get w.output q) ≡ false = λ q h. ap (λ m. is_some (get m q)) (sym p.world.output) ∙ none q h in
        ended_as top free low regs m j i v are going known s on st e;
    slips = λ regs m n top i v are going known goes s none low st. slips_to top (λ q h. ap (λ m. is_some (get m q)) (sym p.world.output) ∙ none q h) low regs m n i v are going known goes s st;
  }

pub lean_undisturbed : LeanUndisturbed
lean_undisturbed f g w l blocks p = undisturbed f g w l blocks p

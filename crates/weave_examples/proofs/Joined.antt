-- Joined pieces meet the laws of a weave: only the lemmas on a piece are their own.
use Rattle.std.proofs.Common.{◌≡◌, ℕ, suc, ◌+◌, ◌-◌, ◌*◌, ◌<◌, ◌≤◌, ⊎_elim, Bool, true, false, List, [], ◌∷◌, ◌++◌, length, refl, sym, ap, ◌∙◌, subst, arith, append_assoc, length-append}
use Rattle.std.proofs.lemmas.Bool.{and_parts, leb-true, cases_lt}
use Rattle.std.proofs.Math.Nat.{mul-le-mul, mul-le-mul_left}
use Rattle.qed_model.specs.Promise.Kept.{NotTrapped}
use Rattle.qed_model.specs.Weave.Blocks.{begins_at}
use Rattle.qed_model.specs.Weave.Pieces.{is_run, whole}
use Rattle.machine.specs.Offsets.{distance_between, upper_part}
use Rattle.qed_model.specs.Weave.Sequences.{Form, guards, original, each_part, compare, visit, Ins}
use Rattle.qed_model.specs.Weave.Costs.{used}
use Rattle.machine.proofs.Lemmas.{run-more, walk_none, walk_on}
use Rattle.weave_core.specs.World.{Item, Going, World, Quiet as Calm, IsCursor, Auipc, ins, State, reg, HasAt, run, Program}
use Rattle.weave_core.specs.Blocks.{FitsPiece, AllFit}
use Rattle.weave_core.specs.Rows.{At, Sourced, Mirrors}
use Rattle.weave_core.specs.KindItems.{MirrorsFit}
use Rattle.weave_core.specs.Pass.{Views, Lockstep}
use Rattle.weave_core.specs.Each.{items_each}
use Rattle.weave_core.specs.Parts.{any, unguarded, GivesMirror, LeavesMirror}
use Rattle.weave_core.specs.Weave.{Weave}
use Rattle.weave_core.specs.WeaveLaws.{PieceAt, Trail, GoesTo, Inside, Checked, Words, CheckedRows, Starts}
use Rattle.weave_core.proofs.Lemmas.{Row, holds_of, met_at, met_going, met_same, originals_trail, trail_later, trail_none, trail_on, not_trapped_le, source_run, not_trapped_front, has_front, checked_behind, words_within, has_rest, quiet_then, quiet_each, each_same, never_originals, never_mirrors, for_mirrors, needs_originals, needs_mirrors, gives_originals, gives_mirrors, cost_parts, guarded_original, held_parts, held_is, goes_is, plus, each_plus, NeedsOther, other_cost, quiet_other, quiet_front, lockstep_piece, front_row, both, both_steps, form_checks, rows_with, starts_with, form_guarded, weave_kept, weave_landed}
use Rattle.lockstep.proofs.Lemmas.{form_words, visits_ten, weave_caught, weave_clean}
use Rattle.weave_examples.specs.Joined.{all_runs, runs_items, joined_weave, JoinedKept, JoinedLanded, JoinedCaught, JoinedClean}

-- ---- lists in two parts
fit_parts : (xs ys : List Ins) → AllFit (xs ++ ys) → AllFit xs × AllFit ys
fit_parts [] ys h = (tt, h)
fit_parts (x ∷ xs) ys h = let r = fit_parts xs ys h.1 in ((h.0, r.0), r.1)

module _ (w : World) (law : Mirrors w) where
  -- both parts of one run, and what stands behind it
  one_run :
      (r : List Ins) (u s : State) (rest : List Item) → is_run r ≡ true → AllFit r → HasAt w.source s.pc r
      → At w u ((each_part original r s.pc ++ each_part w.form.mirror r s.pc) ++ rest) s s → Sourced w s → NotTrapped (run s (length r))
      → Row w u s (length r) (w.form.cost * length r) rest
  one_run r u s rest clean fit has a so calm =
      let v : Views = record { now = u; original = s; shadow = s; leads = λ a. false } in
      let os = each_same plus (λ i at. guards (used i) ++ unguarded i at) original guarded_original r s.pc ∙ each_plus original r s.pc in
      let same = ap (λ l. l ++ each_part w.form.mirror r s.pc) (sym os) ∙ ap (λ l. items_each plus (λ i at. guards (used i) ++ unguarded i at) r s.pc ++ l) (sym (each_plus w.form.mirror r s.pc)) in
      let mirrors = quiet_each plus any (λ i at. FitsPiece i) (λ i. []) w.form.mirror (NeedsOther w.form) GivesMirror LeavesMirror (other_cost w.form) (quiet_other w.form) r s.pc (for_mirrors plus r s.pc fit) in
      let g = (quiet_then any any _ _ _ _ _ _ _ _ _ _ (quiet_front w.form r s.pc fit) mirrors).leads w v rest (tt, tt) (subst (λ l. At w u (l ++ rest) s s) same a) (
        needs_originals plus (λ a h. refl) w r (λ r. false) s.pc v fit clean (λ r e. refl) so refl has calm,
        λ n y o.
            let es : y.shadow ≡ s = (gives_originals plus (λ a h. refl) w r s.pc v y n o).shadow in
            needs_mirrors plus (λ a h. refl) w (NeedsOther w.form) (λ i at v r. (refl, law, r)) r s.pc y fit (subst (Sourced w) (sym es) so) (ap (λ s. s.pc) es) (subst (λ s. HasAt w.source s.pc r) (sym es) has) (subst (λ s. NotTrapped (run s (length r))) (sym es) calm),
      ) in
      ⊎_elim
      (λ e.
      let c = e.1 in
      let o = gives_originals plus (λ a h. refl) w r s.pc v c.middle c.some c.first in
      let m = gives_mirrors plus (λ a h. refl) w (other_cost w.form) r s.pc c.middle g.to c.more c.last in
      let few = cost_parts w.form.cost (other_cost w.form) law.enough (λ i. omega arith) r in
      let a1 : At w g.to.now rest (run s (length r)) g.to.shadow = subst (λ y. At w g.to.now rest y g.to.shadow) (m.original ∙ o.original) e.0 in
      let a2 = subst (λ y. At w g.to.now rest (run s (length r)) y) (m.shadow ∙ ap (λ s. run s (length r)) o.shadow) a1 in
      let front = originals_trail plus (λ a h. refl) w r s.pc v c.middle c.some c.first (met_going w u s (holds_of w u s s a.halved) a.over.going so.over.going) goes in
      record {
        led = record { steps = g.steps; to = g.to.now; at_least = omega (arith, o.slow, c.sum); within = omega (arith, g.within, few); walk = g.walk; at = a2; cursor = m.cursor ∙ o.cursor; sign = m.sign ∙ o.sign };
        trail = trail_later w u s (length r) c.some g.steps (omega (arith, c.sum)) (met_same w (run u g.steps) g.to.now (run s (length r)) (run s (length r)) g.walk.ends refl (met_at w g.to.now (run s (length r)) rest a2 (goes (length r) (omega arith)))) front;
      })
      (λ l. absurd (⊎_elim (λ f. never_originals plus r s.pc w v g.to g.steps f) (λ c. never_mirrors plus (other_cost w.form) r s.pc w c.middle g.to c.more c.last) l))
      g.ends where
        goes : (k : ℕ) → k ≤ length r → (run s k).outcome ≡ Going
        goes k h = (source_run w r k s h fit so has (not_trapped_le s k (length r) h calm)).sourced.over.going

  -- through all runs
  runs_row :
      (rs : List (List Ins)) (u s : State) (rest : List Item) → all_runs rs ≡ true → AllFit (whole rs) → HasAt w.source s.pc (whole rs)
      → At w u (runs_items w.form rs s.pc ++ rest) s s → Sourced w s → NotTrapped (run s (length (whole rs)))
      → Row w u s (length (whole rs)) (w.form.cost * length (whole rs)) rest
  unfolding run
  runs_row [] u s rest is fit has a so calm = record { led = record { steps = 0; to = u; at_least = omega arith; within = omega arith; walk = walk_none (Calm w) u; at = a; cursor = refl; sign = refl }; trail = trail_none w u s (met_at w u s rest a so.over.going) }
  runs_row (r ∷ rs) u s rest is fit has a so calm =
      let ys = whole rs in
      let both = and_parts _ _ is in
      let f = fit_parts r ys fit in
      let t = run s (length r) in
      let len : length (r ++ ys) ≡ length r + length ys = length-append r ys in
      let last : run s (length (r ++ ys)) ≡ run t (length ys) = ap (run s) len ∙ run-more s (length r) (length ys) in
      let calm2 : NotTrapped (run t (length ys)) = subst NotTrapped last calm in
      let calm1 = not_trapped_front (length ys) t calm2 in
      let x = source_run w r (length r) s (omega arith) f.0 so (has_front w.source s.pc r ys has) calm1 in
      let here = each_part original r s.pc ++ each_part w.form.mirror r s.pc in
      let mid = runs_items w.form rs (s.pc + 4 * length r) ++ rest in
      let a1 : At w u (here ++ mid) s s = subst (λ l. At w u l s s) (append_assoc here (runs_items w.form rs (s.pc + 4 * length r)) rest) a in
      let first = one_run r u s mid both.0 f.0 (has_front w.source s.pc r ys has) a1 so calm1 in
      let y = first.led.to in
      let more = runs_row rs y t rest both.1 f.1 (subst (λ p. HasAt w.source p ys) (sym x.pc) (has_rest w.source s.pc r ys has)) (subst (λ p. At w y (runs_items w.form rs p ++ rest) t t) (sym x.pc) first.led.at) x.sourced calm2 in
      let same : w.form.cost * length r + w.form.cost * length ys ≡ w.form.cost * length (r ++ ys) = omega arith ∙ ap (λ k. w.form.cost * k) (sym len) in
      record {
        led = record {
          steps = first.led.steps + more.led.steps;
          to = more.led.to;
          at_least = omega (arith, first.led.at_least, more.led.at_least, len);
          within = omega (arith, first.led.within, more.led.within, same);
          walk = walk_on (Calm w) u y more.led.to first.led.steps more.led.steps first.led.walk more.led.walk;
          at = subst (λ z. At w more.led.to rest z z) (sym last) more.led.at;
          cursor = more.led.cursor ∙ first.led.cursor;
          sign = more.led.sign ∙ first.led.sign;
        };
        trail = trail_on w u s y t (length r) first.led.steps first.led.walk.ends refl first.trail (length ys) more.led.steps (length (r ++ ys)) len more.trail;
      }

  -- to the n-th instruction
  runs_inside :
      (rs : List (List Ins)) (n : ℕ) (u s : State) (rest : List Item) → n < length (whole rs) → all_runs rs ≡ true → AllFit (whole rs)
      → HasAt w.source s.pc (whole rs) → At w u (runs_items w.form rs s.pc ++ rest) s s → Sourced w s → NotTrapped (run s n)
      → GoesTo w u n (w.form.cost * length (whole rs)) (λ k x. Inside w u s n k x × (k < w.form.cost * length (whole rs)))
  runs_inside [] n u s rest l is fit has a so calm = absurd (omega (arith, l))
  runs_inside (r ∷ rs) n u s rest l is fit has a so calm = ⊎_elim inside (λ h. behind (λ k y t few here b x c. runs_inside rs k y t rest few both.1 f.1 here b x c) h) (cases_lt n (length r)) where
    ys : List Ins
    ys = whole rs

    both : (is_run r ≡ true) × (all_runs rs ≡ true)
    both = and_parts _ _ is

    f : AllFit r × AllFit (whole rs)
    f = fit_parts r (whole rs) fit

    front : HasAt w.source s.pc r
    front = has_front w.source s.pc r (whole rs) has

    mid : List Item
    mid = runs_items w.form rs (s.pc + 4 * length r) ++ rest

    len : length (r ++ whole rs) ≡ length r + length (whole rs)
    len = length-append r (whole rs)

    a1 : At w u ((each_part original r s.pc ++ each_part w.form.mirror r s.pc) ++ mid) s s
    a1 = subst (λ l. At w u l s s) (append_assoc (each_part original r s.pc ++ each_part w.form.mirror r s.pc) (runs_items w.form rs (s.pc + 4 * length r)) rest) a

    -- the instruction is in this run
    inside : n < length r → GoesTo w u n (w.form.cost * length (r ++ whole rs)) (λ k x. Inside w u s n k x × (k < w.form.cost * length (r ++ whole rs)))
    inside h =
        let a2 : At w u (each_part original r s.pc ++ (each_part w.form.mirror r s.pc ++ mid)) s s = subst (λ l. At w u l s s) (append_assoc (each_part original r s.pc) (each_part w.form.mirror r s.pc) mid) a1 in
        let g = front_row w r n u s (each_part w.form.mirror r s.pc ++ mid) h f.0 both.0 front a2 so calm in
        let few : suc n ≤ length (r ++ whole rs) = omega (arith, h, len) in
        let m : 3 * suc n ≤ w.form.cost * length (r ++ whole rs) = mul-le-mul law.enough few in
        record { steps = g.steps; to = g.to; at_least = g.at_least; within = omega (arith, g.within, m); walk = g.walk; is = (g.is.0, omega (arith, g.within, m)) }

    -- the instruction is in a later run
    behind :
        ((k : ℕ) (y t : State) → k < length (whole rs) → HasAt w.source t.pc (whole rs) → At w y (runs_items w.form rs t.pc ++ rest) t t → Sourced w t → NotTrapped (run t k) → GoesTo w y k (w.form.cost * length (whole rs)) (λ j x. Inside w y t k j x × (j < w.form.cost * length (whole rs))))
        → length r ≤ n → GoesTo w u n (w.form.cost * length (r ++ whole rs)) (λ k x. Inside w u s n k x × (k < w.form.cost * length (r ++ whole rs)))
    behind rec h =
        let t = run s (length r) in
        let k = n - length r in
        let sum : length r + (n - length r) ≡ n = omega (arith, h) in
        let last : run s n ≡ run (run s (length r)) (n - length r) = ap (run s) (sym sum) ∙ run-more s (length r) (n - length r) in
        let calm2 : NotTrapped (run (run s (length r)) (n - length r)) = subst NotTrapped last calm in
        let calm1 = not_trapped_front k t calm2 in
        let x = source_run w r (length r) s (omega arith) f.0 so front calm1 in
        let g = one_run r u s mid both.0 f.0 front a1 so calm1 in
        let z = g.led.to in
        let b : At w z (runs_items w.form rs t.pc ++ rest) t t = subst (λ p. At w z (runs_items w.form rs p ++ rest) t t) (sym x.pc) g.led.at in
        let y = rec k z t (omega (arith, h, l, len)) (subst (λ p. HasAt w.source p (whole rs)) (sym x.pc) (has_rest w.source s.pc r (whole rs) has)) b x.sourced calm2 in
        let same : w.form.cost * length r + w.form.cost * length (whole rs) ≡ w.form.cost * length (r ++ whole rs) = omega arith ∙ ap (λ k. w.form.cost * k) (sym len) in
        record {
          steps = g.led.steps + y.steps;
          to = y.to;
          at_least = omega (arith, g.led.at_least, y.at_least, sum);
          within = omega (arith, g.led.within, y.within, same);
          walk = walk_on (Calm w) u z y.to g.led.steps y.steps g.led.walk y.walk;
          is = (record { going = y.is.0.going; trail = trail_on w u s z t (length r) g.led.steps g.led.walk.ends refl g.trail k y.steps n (sym sum) y.is.0.trail }, omega (arith, g.led.within, y.is.1, same));
        }

-- ---- the words
-- the words of all runs, and those behind them
runs_lockstep :
    (form : Form) (checks : List Item) → MirrorsFit form.far form.mirror → Lockstep (λ far. far ≡ form.far) [] checks → (rs : List (List Ins)) (at : ℕ)
    → AllFit (whole rs) → Lockstep (λ far. far ≡ form.far) [] (runs_items form rs at ++ checks)
runs_lockstep form checks m c [] at h = c
runs_lockstep form checks m c (r ∷ rs) at h =
    let f = fit_parts r (whole rs) h in
    let os = each_part original r at in
    let ms = each_part form.mirror r at in
    let rest = runs_items form rs (at + 4 * length r) in
    subst (Lockstep (λ far. far ≡ form.far) []) (sym (append_assoc (os ++ ms) rest checks ∙ append_assoc os ms (rest ++ checks)))
    (lockstep_piece form (rest ++ checks) m (runs_lockstep form checks m c rs (at + 4 * length r) f.1) r at f.0)

-- ---- the laws
module _ (cut : List Ins → List (List Ins)) (keeps : (is : List Ins) → whole (cut is) ≡ is) where
  joined_words : (form : Form) (most : ℕ) → MirrorsFit form.far form.mirror → Words form.far (joined_weave cut form most)
  joined_words form most m =
      let old = form_words form most m in
      let laws = (form_checks form).lockstep in
      let checks = compare ++ visit form.round form.spans in
      let piece : (is : List Ins) (at : ℕ) → AllFit is → Lockstep (λ far. far ≡ form.far) [] (runs_items form (cut is) at ++ checks) =
      λ is at h. runs_lockstep form checks m (record { locks = λ far e. laws.locks far tt; lands = λ far e. laws.lands far tt }) (cut is) at (subst AllFit (sym (keeps is)) h) in
      record {
        first_locks = old.first_locks;
        first_lands = old.first_lands;
        enter_locks = old.enter_locks;
        enter_lands = old.enter_lands;
        piece_locks = λ is at h. (piece is at h).locks form.far refl;
        piece_lands = λ is at h. (piece is at h).lands form.far refl;
        leave_locks = old.leave_locks;
        leave_lands = old.leave_lands;
      }

  module _ (w : World) (most : ℕ) (leader : ℕ → Bool) (law : Mirrors w) where
    abbrev j : Weave
    j = joined_weave cut w.form most

    abbrev checks : List Item
    checks = both w most

    few : (is : List Ins) → j.fits is ≡ true → w.form.cost * length is ≤ w.form.cost * most
    few is e = mul-le-mul_left w.form.cost (leb-true (length is) most (and_parts _ _ e).1)

    inside_law :
        (is : List Ins) (n : ℕ) (u s : State) (rest : List Item) → n < length is → PieceAt w j s.pc is → At w u (j.code.piece is s.pc ++ rest) s s
        → Sourced w s → NotTrapped (run s n) → GoesTo w u n j.piece_steps (λ k x. Inside w u s n k x × (k < j.piece_steps))
    inside_law is n u s rest l p a so calm =
        let a1 = subst (λ l. At w u l s s) (append_assoc (runs_items w.form (cut is) s.pc) checks rest) a in
        let count : length (whole (cut is)) ≡ length is = ap length (keeps is) in
        let g = runs_inside w law (cut is) n u s (checks ++ rest) (omega (arith, l, count)) (and_parts _ _ p.one).0 (subst AllFit (sym (keeps is)) p.fit) (subst (HasAt w.source s.pc) (sym (keeps is)) p.has) a1 so calm in
        let m = few is p.one in
        let same : w.form.cost * length (whole (cut is)) ≡ w.form.cost * length is = ap (λ k. w.form.cost * k) count in
        record { steps = g.steps; to = g.to; at_least = g.at_least; within = omega (arith, g.within, m, same); walk = g.walk; is = (g.is.0, omega (arith, g.is.1, m, same)) }

    piece_law :
        (is : List Ins) (b : ℕ) (u s : State) (rest : List Item) → j.held w u b ≡ true → PieceAt w j s.pc is → At w u (j.code.piece is s.pc ++ rest) s s
        → Sourced w s → NotTrapped (run s (length is)) → GoesTo w u (length is) j.piece_steps (λ n x. (At w x rest (run s (length is)) (run s (length is)) × (j.held w x b ≡ true) × Trail w u s (length is) n) × Checked w j.compare_steps j.round u n x)
    piece_law is b u s rest held p a so calm =
        let own = held_parts w u b held in
        let t = run s (length is) in
        let count : length (whole (cut is)) ≡ length is = ap length (keeps is) in
        let a1 = subst (λ l. At w u l s s) (append_assoc (runs_items w.form (cut is) s.pc) checks rest) a in
        let y0 = runs_row w law (cut is) u s (checks ++ rest) (and_parts _ _ p.one).0 (subst AllFit (sym (keeps is)) p.fit) (subst (HasAt w.source s.pc) (sym (keeps is)) p.has) a1 so (subst (λ n. NotTrapped (run s n)) (sym count) calm) in
        let row : Row w u s (length is) (w.form.cost * length is) (both w most ++ rest) = subst (λ n. Row w u s n (w.form.cost * n) (both w most ++ rest)) count y0 in
        let y = row.led in
        let x = (form_checks w.form).quiet.leads w (record { now = y.to; original = t; shadow = t; leads = leader }) rest tt y.at (refl, refl, subst (IsCursor w.form.spans) (sym y.cursor) own.1) in
        let m = few is p.one in
        ⊎_elim
        (λ e.
        let a2 : At w x.to.now rest t x.to.shadow = subst (λ z. At w x.to.now rest z x.to.shadow) e.1.original e.0 in
        let c = checked_behind w 0 w.form.round u y.to x.to.now y.steps (w.form.cost * most) x.steps (y.steps + x.steps) y.walk.ends y.cursor (omega (arith, y.within, m)) refl e.1.checked in
        record {
          steps = y.steps + x.steps;
          to = x.to.now;
          at_least = omega (arith, y.at_least);
          within = omega (arith, y.within, x.within, m);
          walk = walk_on (Calm w) u y.to x.to.now y.steps x.steps y.walk x.walk;
          is = ((subst (λ z. At w x.to.now rest t z) e.1.shadow a2, held_is w x.to.now b (e.1.sign ∙ y.sign ∙ own.0) (subst (IsCursor w.form.spans) (sym c.cursor) (words_within w.form.spans w.base w.form.round (reg u 15) w.spans_good own.1)), marks x.steps x.to.now row x.walk.ends (subst (λ z. At w x.to.now rest t z) e.1.shadow a2)), c);
        })
        (λ l. absurd l)
        x.ends where
          -- the checks move the last mark
          marks : (k : ℕ) (z : State) → (row : Row w u s (length is) (w.form.cost * length is) (both w most ++ rest)) → run row.led.to k ≡ z → At w z rest (run s (length is)) (run s (length is)) → Trail w u s (length is) (row.led.steps + k)
          marks k z row e b =
              let n = length is in
              let there : run u (row.led.steps + k) ≡ z = run-more u row.led.steps k ∙ ap (λ x. run x k) row.led.walk.ends ∙ e in
              let going = (source_run w is n s (omega arith) p.fit so p.has calm).sourced.over.going in
              trail_later w u s n row.led.steps (row.led.steps + k) (omega arith) (met_same w (run u (row.led.steps + k)) z (run s n) (run s n) there refl (met_at w z (run s n) rest b going)) row.trail

    joined_rows : CheckedRows w j leader
    joined_rows =
        let old = rows_with w most checks 0 (both_steps w most) (form_checks w.form) leader law in
        record {
          rows = record {
            short = λ is e. let m : 3 * length is ≤ w.form.cost * length is = mul-le-mul law.enough (omega arith) in let h = few is e in omega (arith, h, m);
            known = λ a b.
                let i = ins Auipc 30 0 0 (upper_part (distance_between (w.entry a) a)) in
                record { low = b.good.low; entry_low = omega (arith, w.low (w.entry a) i b.reads.1.0); grain = w.grain (w.entry a) i b.reads.1.0 };
            enter = old.rows.enter;
            inside = inside_law;
            piece = λ is b u s rest held p a so calm. goes_is (piece_law is b u s rest held p a so calm);
            leave = old.rows.leave;
          };
          word = old.word;
          enter = old.enter;
          piece = λ is b u s rest held p a so calm. (piece_law is b u s rest held p a so calm).is.1;
          leave = old.leave;
        }

    joined_starts : (f g : Program) → Starts f g w j leader
    joined_starts f g = let old = starts_with w most checks 0 (both_steps w most) (form_checks w.form) leader f g in record { first = old.first }

  -- ---- the promises
  pub kept : JoinedKept cut
  kept f g w most blocks p law = weave_kept f g w (joined_weave cut w.form most) blocks p (joined_rows w most (begins_at blocks) law).rows (joined_starts w most (begins_at blocks) law f g)

  pub landed : JoinedLanded cut
  landed f g w most blocks entries p law known = weave_landed f g w (joined_weave cut w.form most) blocks entries p (joined_rows w most (begins_at blocks) law).rows (joined_starts w most (begins_at blocks) law f g) (let o = form_guarded w most (both w most) 0 (both_steps w most) in record { signed = o.signed; fires = o.fires }) known

  pub caught : JoinedCaught cut
  caught f g w most blocks bounds p law fit closed some b =
      let ten = visits_ten w.form.spans w.form.round some in
      weave_caught f g w (joined_weave cut w.form most) blocks bounds p (joined_rows w most (begins_at blocks) law) (joined_starts w most (begins_at blocks) law f g) (joined_words w.form most fit) closed some (omega arith) (omega (arith, ten)) b

  pub clean : JoinedClean cut
  clean f g w most blocks p law fit closed some sweeps =
      let ten = visits_ten w.form.spans w.form.round some in
      weave_clean f g w (joined_weave cut w.form most) blocks p (joined_rows w most (begins_at blocks) law) (joined_starts w most (begins_at blocks) law f g) (joined_words w.form most fit) closed some (omega arith) (omega (arith, ten)) sweeps

-- The leave of an ECALL: compares registers, distance and signature, with the sweep all data and registers again; ends.
use Rattle.std.proofs.Common.{◌≡◌, ℕ, ◌+◌, ◌^◌, ◌<◌, ◌≤◌, ⊎_elim, Bool, true, false, cond, List, [], ◌∷◌, ◌++◌, length, refl, sym, ap, ◌∙◌, subst, arith}
use Rattle.std.proofs.lemmas.Bool.{false≢true}
use Rattle.std.proofs.lemmas.List.{append-nil}
use Rattle.rv_isa.specs.declared.class.Class.TheVariants as class
use Rattle.tests.specs.Admission.DataRanges.{word_count}
use Rattle.qed_model.specs.Weave.Bounds.{end_bound}
use Rattle.qed_model.specs.Weave.Sequences.{check_sign, compare, sweep, before_end, ORIGINALS, SIGNATURE}
use Rattle.qed_model.specs.Weave.Lean.{check_distance, leave_as, is_break, cost}
use Rattle.weave_core.specs.World.{World, Quiet, Twice, Item, Plain, Ended, State, reg, moved, stopped, Known, step, run, Ins, class_of}
use Rattle.weave_core.specs.Kinds.{originals}
use Rattle.weave_core.specs.Rows.{At, Sourced}
use Rattle.weave_core.specs.Leaving.{swept_end, sweep_cost}
use Rattle.weave_core.specs.WeaveLaws.{GoesTo, BothEnded, Swept}
use Rattle.weave_core.proofs.Lemmas.{own_pair, guards_pass, quiet_sweep, step-end, end_walk, writes, halved_input, halved_writes, none_run, all_small}
use Rattle.lean.specs.Woven.{swept_steps}
use Rattle.lean.proofs.Weave.Carry.{over_moved, known_at, run-more, Walk, walk_on}
use Rattle.lean.proofs.Weave.Chain.{read_back, all_temps, no_break}
use Rattle.lean.proofs.Weave.Sign.{distance_set, passes}
use Rattle.lean.proofs.Weave.SweepWords.{BeforeSweep}

-- states that ended have the values in both halves
ended_halved : (w : World) (u s : State) → Twice w u s s → Twice w (stopped Ended u) (stopped Ended s) (stopped Ended s)
ended_halved w u s t =
    let i = halved_input w Ended u s t in
    record { output = record { flags = t.output.flags; regs = t.output.regs; zero_reg = t.output.zero_reg }; input = i.input; shadow = i.shadow; originals = i.originals; pairs = i.pairs; distance = i.distance; bytes = i.bytes; mirror_bytes = i.mirror_bytes; fixed = i.fixed; spare = i.spare }

-- ---- the sweep
-- with some steps before it the end with the sweep is what is left of n steps
pub record SweptAfter (w : World) (u : State) (n : ℕ) : Type 0 where
  pub from : ℕ
  pub rest : ℕ
  pub sum : from + rest ≡ n
  pub swept : Swept w (sweep_cost w.form.spans) (run u from) rest
  pub before : BeforeSweep w (run u from)

-- where there is a sweep
abbrev pub Sweeps : World → State → ℕ → Type 0
Sweeps w u n = w.form.sweep ≡ true → SweptAfter w u n

-- at its begin
swept_now : (w : World) (u : State) (n : ℕ) → Swept w (sweep_cost w.form.spans) u n → BeforeSweep w u → SweptAfter w u n
swept_now w u n x before = record { from = 0; rest = n; sum = omega arith; swept = subst (λ z. Swept w (sweep_cost w.form.spans) z n) (sym (none_run u)) x; before = subst (BeforeSweep w) (sym (none_run u)) before }

-- behind a walk
pub swept_on : (w : World) (u y : State) (m n : ℕ) → Walk (Quiet w) u m y → Sweeps w y n → Sweeps w u (m + n)
swept_on w u y m n a s h =
    let x = s h in
    let same : run u (m + x.from) ≡ run y x.from = run-more u m x.from ∙ ap (λ z. run z x.from) a.ends in
    record { from = m + x.from; rest = x.rest; sum = omega (arith, x.sum); swept = subst (λ z. Swept w (sweep_cost w.form.spans) z x.rest) (sym same) x.swept; before = subst (BeforeSweep w) (sym same) x.before }

-- from behind the signature to the end
end_rest :
    (w : World) (u s : State) (i : Ins) → At w u (before_end w.form ++ (Plain i ∷ [])) s s → Sourced w s → w.source s.pc ≡ Known i → class_of i.kind ≡ class.End
    → GoesTo w u 1 (1 + swept_steps w) (λ n x. BothEnded w (step s) x × Sweeps w u n)
end_rest w u s i at so h c = by w.form.sweep refl at where
  e : step s ≡ stopped Ended s
  e = step-end s i so.over.going (known_at w.source s i so.over h) c

  input : (step s).outcome ≡ Ended
  input = ap (λ x. x.outcome) e

  by : (b : Bool) → w.form.sweep ≡ b → At w u (cond b (sweep w.form.spans ++ compare) [] ++ (Plain i ∷ [])) s s → GoesTo w u 1 (1 + swept_steps w) (λ n x. BothEnded w (step s) x × Sweeps w u n)
  by true is a =
      let a1 : At w u (swept_end w.form.spans i ++ []) s s = subst (λ l. At w u l s s) (sym (append-nil (swept_end w.form.spans i))) a in
      let x = (quiet_sweep w.form.spans i c).leads w (record { now = u; original = s; shadow = s; leads = λ t. false }) [] tt a1 (record { same = refl; spans_are = refl }) in
      let high : x.steps ≤ end_bound w.form.sweep (length w.form.spans) (word_count w.form.spans) = subst (λ b. x.steps ≤ end_bound b (length w.form.spans) (word_count w.form.spans)) (sym is) x.within in
      ⊎_elim
      (λ f. absurd f.1)
      (λ l.
      let has : Twice w x.to.now (stopped Ended s) (stopped Ended s) = halved_input w Ended x.to.now s l.halved in
      record {
        steps = x.steps;
        to = x.to.now;
        at_least = omega (arith, l.swept.exact);
        within = omega (arith, high);
        walk = x.walk;
        is = (record { ended = l.ended; halved = subst (λ y. Twice w x.to.now y y) (sym e) has; input = input }, λ sw. swept_now w u x.steps l.swept (record { over = a.over; end = i; ends = c; reads = a.reads }));
      })
      x.ends
  by false is a = record {
    steps = 1;
    to = stopped Ended u;
    at_least = omega arith;
    within = omega arith;
    walk = end_walk w u i a.over a.reads.0 c;
    is = (record { ended = refl; halved = subst (λ y. Twice w (stopped Ended u) y y) (sym e) (ended_halved w u s a.halved); input = input }, λ sw. absurd (false≢true (sym is ∙ sw)));
  }

module _ (w : World) (u s : State) (i : Ins) (fall : ℕ → List Item) (a : ℕ) (at : At w u (leave_as w.distance (before_end w.form) fall class.End i a s.pc) s s) (so : Sourced w s) (low : a < 2 ^ 64) (small : w.distance < 2 ^ 64) (sign : reg u SIGNATURE ≡ a) where
  pub end_leave : w.source s.pc ≡ Known i → class_of i.kind ≡ class.End → GoesTo w u 1 (cost (leave_as 0 [] fall class.End i a s.pc) + swept_steps w) (λ n x. BothEnded w (step s) x × Sweeps w u n)
  end_leave h c =
      let t = at.halved in
      let last = before_end w.form ++ (Plain i ∷ []) in
      let s1 = guards_pass w originals u (check_distance w.distance ++ (check_sign a ++ last)) at.over (λ q one m. own_pair w u s q t m one) (all_small w) at.reads in
      let x1 = moved u.regs s1.pc u in
      let w2 : List (ℕ × ℕ) = (30, w.distance) ∷ [] in
      let s2 = distance_set w x1 w.distance (check_sign a ++ last) (over_moved w.code u u.regs s1.pc at.over) t.output.regs t.distance small s1.reads in
      let l2 = writes w2 u.regs in
      let x2 = moved l2 s2.pc u in
      let h2 = halved_writes w u s s w2 s2.pc (all_temps w2 refl) t in
      let s3 = passes w x2 a last low (over_moved w.code u l2 s2.pc at.over) h2.output.regs s2.reads (read_back w2 u.regs 16 t.output.regs refl ∙ sign) in
      let w3 : List (ℕ × ℕ) = (30, a) ∷ [] in
      let x3 = moved (writes w3 l2) (s2.pc + 16) u in
      let r = end_rest w x3 s i (record { over = over_moved w.code u (writes w3 l2) (s2.pc + 16) at.over; reads = s3.reads; halved = halved_writes w x2 s s w3 (s2.pc + 16) (all_temps w3 refl) h2 }) so h c in
      let walk : Walk (Quiet w) u 18 x3 = walk_on (Quiet w) u x1 x3 ORIGINALS 5 s1.walk (walk_on (Quiet w) x1 x2 x3 2 3 s2.walk s3.walk) in
      let one : cond {A = ℕ} (is_break i.kind) 0 1 ≡ 1 = ap (λ b. cond {A = ℕ} b 0 1) (no_break i.kind class.End c (λ e. absurd (cc))) in
      record {
        steps = 18 + r.steps;
        to = r.to;
        at_least = omega arith;
        within = omega (arith, one, r.within);
        walk = walk_on (Quiet w) u x3 r.to 18 r.steps walk r.walk;
        is = (r.is.0, swept_on w u x3 18 r.steps walk r.is.1);
      }

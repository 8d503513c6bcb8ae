-- The trace of the lean form: its boundaries are the calls of the check.
use Rattle.std.proofs.Common.{◌≡◌, ℕ, suc, ◌+◌, ◌-◌, ◌<◌, ◌≤◌, ◌⊎◌, inl, inr, ⊎_elim, Bool, true, List, refl, sym, ap, ◌∙◌, subst, arith, cond}
use Rattle.tests.specs.Admission.DataRanges.{word_count, word_address}
use Rattle.rv_isa.specs.declared.class.Class.TheVariants as class
use Rattle.qed_model.specs.Promise.Faults.{WritesOriginal}
use Rattle.qed_model.specs.Promise.Kept.{after_input, after_output, Steady}
use Rattle.qed_model.specs.Weave.LeanBounds.{entry_steps, call_steps}
use Rattle.qed_model.specs.Weave.Sequences.{Reads}
use Rattle.qed_model.specs.Weave.Lean.{first_word, begin}
use Rattle.qed_model.specs.Weave.LeanCode.{Lean}
use Rattle.weave_core.specs.World.{World, Quiet, IsCursor, Going, Ended, Program, start, zeros, AreStartRegs, State, run, Ins, Known, class_of}
use Rattle.weave_core.specs.Describes.{Describes}
use Rattle.weave_core.specs.Blocks.{IsEntryOf}
use Rattle.weave_core.specs.Rows.{Sourced}
use Rattle.weave_core.specs.Kinds.{originals}
use Rattle.weave_core.specs.Lock.{ComparesFrom}
use Rattle.weave_core.specs.Leaving.{sweep_cost}
use Rattle.weave_core.specs.WeaveLaws.{EntriesAt, Swept, Trail, Feeds}
use Rattle.weave_core.proofs.Lemmas.{first_sourced, words_within, trail_first, trail_on, feeds_first, feeds_less, feeds_on}
use Rattle.lockstep.proofs.Lemmas.{AtNumber, placed, round_of, round_on, Sizes, NextSteps, PieceSteps, EndsSoon, Trace, SweptEnd, ToEnd, LastBoundary, to_end, Numbered, next_numbered, visits_in, swept_is}
use Rattle.lean.specs.Woven.{lean_weave_of, LeanIn, check_steps, swept_steps, owed}
use Rattle.lean.proofs.Weave.Carry.{run-more, walk_on}
use Rattle.lean.proofs.Weave.Begin.{begin_law, first_is}
use Rattle.lean.proofs.Weave.Cells.{Counts, Called, Finished, Begins, called, ahead, to_check}
use Rattle.lean.proofs.Weave.Check.{Back}
use Rattle.lean.proofs.Weave.Costs.{entry_some}
use Rattle.lean.proofs.Weave.End.{Sweeps, SweptAfter, swept_on}
use Rattle.lean.proofs.Weave.Left.{lean_rows}
use Rattle.lean.proofs.Weave.Rows.{AtCheck, checks}
use Rattle.lean.proofs.Weave.SweepWords.{BeforeSweep, sweep_alone}

-- the sweep before the end, from which on no instruction of the test's own is executed
pub record SweptAlone (w : World) (g : Program) (regs : List ℕ) (sweep_steps e : ℕ) : Type 0 where
  pub swept : SweptEnd w g regs sweep_steps e
  pub alone : (m : ℕ) (j : Ins) → swept.start ≤ m → m < e → w.code (after_output g regs m).pc ≡ Known j → (WritesOriginal j ⊎ (class_of j.kind ≡ class.Store)) → ⊥

module _ (f g : Program) (w : World) (l : Lean) (leader : ℕ → Bool) (x : LeanIn w l leader) (of : Describes f g w) (entries : EntriesAt w (lean_weave_of w l leader) leader) (counts : Counts w l leader entries) (leads : leader f.entry ≡ true) (ticked : l.ticks f.entry ≡ true) (begins : Reads w.form.far w.code w.entry g.entry (begin w.distance f.entry)) where
  -- from a call of the check to the next, to behind its comparison with four steps left, and the run before the end
  abbrev pub sizes : Sizes
  sizes = record { piece = check_steps w + (l.every + entry_steps l.land + call_steps l.land); check = 20; last = 2 + swept_steps w; words = word_count w.form.spans; round = round_of (word_count w.form.spans) w.form.round }

  abbrev nth : ℕ → ℕ
  nth i = word_address w.form.spans i

  -- each leader has an entry on the grain
  blocks : (a : ℕ) → leader a ≡ true → IsEntryOf w a
  blocks a h = (lean_rows w l leader x).known a (entries a h)

  module _ (regs : List ℕ) (are : AreStartRegs regs) where
    -- the check is called, with the number of the next word
    pub record Bound (p i : ℕ) : Type 0 where
      pub moves : ℕ
      pub trail : Trail w (start g regs) (start f zeros) moves p
      pub offset : ℕ
      pub here : AtCheck w l leader x (after_output g regs p) (after_input f moves) offset
      pub sourced : Sourced w (after_input f moves)
      pub at : AtNumber w.form.spans i (first_word w.base w.form.spans + offset)

    -- ---- from a boundary
    module _ (p i : ℕ) (b : Bound p i) where
      abbrev u : State
      u = after_output g regs p

      abbrev s : State
      s = after_input f b.moves

      -- back at the entry
      back : Back w leader (after_output g regs p) (after_input f b.moves) (after_input f b.moves).pc b.offset l.every w.form.round
      back = checks w l leader x u s b.offset b.here

      there : (n : ℕ) → run (start g regs) (p + n) ≡ run (after_output g regs p) n
      there n = run-more (start g regs) p n

      -- to the next call
      next_at : Called w l leader x blocks back.to (after_input f b.moves) back.next (l.every + (entry_steps l.land + call_steps l.land)) → NextSteps w.code (start g regs) sizes (λ i. word_address w.form.spans i) Bound p i
      next_at c =
          let n = back.steps + c.steps in
          let to : run (after_output g regs p) (back.steps + c.steps) ≡ c.to = (walk_on (Quiet w) u back.to c.to back.steps c.steps back.walk c.walk).ends in
          record {
            length = back.steps + c.steps;
            some = omega (arith, back.some);
            short = omega (arith, back.within, c.within);
            visits = λ j h. visits_in g w regs p back.steps (back.steps + c.steps) w.form.round i j (first_word w.base w.form.spans + b.offset) (omega arith) (λ k l. ap (λ s. s.outcome) (there k) ∙ (back.walk.each k l).going) back.visits b.at h;
            next = record {
              moves = b.moves + c.moves;
              trail = trail_on w (start g regs) (start f zeros) u s b.moves p refl refl b.trail c.moves (back.steps + c.steps) (b.moves + c.moves) refl (trail_first w u back.to s back.steps back.walk.ends c.moves c.steps c.trail);
              offset = back.next;
              here = subst (λ y. AtCheck w l leader x y (after_input f (b.moves + c.moves)) back.next) (sym (there (back.steps + c.steps) ∙ to)) (subst (λ t. AtCheck w l leader x c.to t back.next) (sym (run-more (start f zeros) b.moves c.moves)) c.is);
              sourced = subst (Sourced w) (sym (run-more (start f zeros) b.moves c.moves)) c.sourced;
              at = round_on w w.form.round i (first_word w.base w.form.spans + b.offset) (first_word w.base w.form.spans + back.next) back.word b.at;
            };
          }

      -- or to the end
      ends_at : Finished w l leader x blocks back.to l.every → EndsSoon (start g regs) p (check_steps w + (l.every + entry_steps l.land + call_steps l.land) + (2 + swept_steps w))
      ends_at e =
          let to = (walk_on (Quiet w) u back.to e.to back.steps e.steps back.walk e.walk).ends in
          record { at = back.steps + e.steps; room = omega (arith, back.within, e.within, entry_some l.land); ended = ap (λ s. s.outcome) (there (back.steps + e.steps) ∙ to) ∙ e.ended }

      -- to the one or the other, where the input is steady
      onward_at : (h : ℕ) → p + (check_steps w + (l.every + 1)) ≤ h → Feeds w (start g regs) (start f zeros) h → Called w l leader x blocks back.to s back.next (l.every + (entry_steps l.land + call_steps l.land)) ⊎ Finished w l leader x blocks back.to l.every
      onward_at h le feeds =
          let room = check_steps w + (l.every + 1) in
          let here : Feeds w u s room = feeds_on w (start g regs) (start f zeros) u s b.moves p room refl refl b.trail (feeds_less w (start g regs) (start f zeros) (p + room) h le feeds) in
          let c : Feeds w back.to s (l.every + 1) = feeds_first w u s back.to back.steps (l.every + 1) back.walk.ends (feeds_less w u s (back.steps + (l.every + 1)) room (omega (arith, back.within)) here) in
          subst (λ n. Called w l leader x blocks back.to s back.next (n + (entry_steps l.land + call_steps l.land)) ⊎ Finished w l leader x blocks back.to n) none (to_check w l leader x blocks entries counts (suc (ahead w l leader x blocks entries counts s l.every)) back.to s l.every back.next (omega arith) (record {
            stands = back.stands;
            sourced = b.sourced;
            most = omega arith;
            fifteen = back.counter;
            few = back.few;
            sign = back.sign;
            cursor = subst (IsCursor w.form.spans) (sym back.word) (words_within w.form.spans w.base w.form.round (first_word w.base w.form.spans + b.offset) w.spans_good b.here.cursor);
          }) (subst (λ n. Feeds w back.to s (n + 1)) (sym none) c)) where
            none : l.every + owed l s.pc ≡ l.every
            none = ap (λ t. l.every + cond {A = ℕ} t 0 (l.most s.pc)) b.here.ticked ∙ zero_behind l.every where
              zero_behind : (n : ℕ) → n + 0 ≡ n
              zero_behind n = omega arith

      -- with one comparison
      piece_at : (h : ℕ) → Feeds w (start g regs) (start f zeros) h → PieceSteps w.code (start g regs) sizes (λ i. word_address w.form.spans i) h Bound p i
      piece_at h feeds =
          let e = run-more (start g regs) p 3 in
          record {
            compare = 3;
            room = omega arith;
            at = record { going = ap (λ s. s.outcome) e ∙ (back.walk.each 3 (omega (arith, back.some))).going; words = subst (λ s. ComparesFrom w.code s.pc originals) (sym e) back.compares };
            on = λ le. ⊎_elim (λ d. inl (next_at d)) (λ d. inr (ends_at d)) (onward_at h (omega (arith, le, entry_some l.land)) feeds);
          }

      -- the end, with its sweep
      closing_at : Finished w l leader x blocks back.to l.every → ToEnd (start g regs) (λ q n. Sweeps w (after_output g regs q) n) p
      closing_at d =
          let walk = walk_on (Quiet w) u back.to d.to back.steps d.steps back.walk d.walk in
          record {
            steps = back.steps + d.steps;
            going = λ k h. ap (λ y. y.outcome) (there k) ∙ (walk.each k h).going;
            ended = ap (λ y. y.outcome) (there (back.steps + d.steps) ∙ walk.ends) ∙ d.ended;
            last = swept_on w u back.to back.steps d.steps back.walk d.swept;
          }

    -- ---- from the first word
    -- a tick counts a step
    tick_some : (a : ℕ) → leader a ≡ true → 1 ≤ l.most a
    tick_some a h = let c = (counts.each a h).0 in omega (arith, c, entry_some l.land)

    record First : Type 0 where
      steps : ℕ
      within : steps ≤ 31 + (entry_steps l.land + call_steps l.land)
      index : ℕ
      bound : Bound steps index

    -- the first tick calls the check
    first_call : First
    first_call =
        let entry = blocks f.entry leads in
        let y = begin_law f g w l leader x of entry leads begins regs are in
        let s0 = start f zeros in
        let b : Begins w l leader x blocks y.to s0 0 0 = record {
          stands = y.is.0;
          sourced = first_sourced f g w of;
          most = omega arith;
          fifteen = y.is.1;
          few = omega arith;
          sign = y.is.2;
          cursor = first_is w.base w.form.spans w.spans_good;
        } in
        let c = called w l leader x blocks entries counts y.to s0 0 0 b ticked (fewer (l.most f.entry) l.every (x.ticks f.entry leads) x.few) (tick_some f.entry leads) (entry_steps l.land + call_steps l.land) (omega arith) in
        let walk = walk_on (Quiet w) (start g regs) y.to c.to y.steps c.steps y.walk c.walk in
        let n = placed w (first_word w.base w.form.spans + 0) (first_is w.base w.form.spans w.spans_good) in
        record {
          steps = y.steps + c.steps;
          within = omega (arith, y.within, c.within);
          index = n.index;
          bound = record {
            moves = c.moves;
            trail = trail_first w (start g regs) y.to s0 y.steps y.walk.ends c.moves c.steps c.trail;
            offset = 0;
            here = subst (λ z. AtCheck w l leader x z (after_input f c.moves) 0) (sym walk.ends) c.is;
            sourced = c.sourced;
            at = n.at;
          };
        } where
          fewer : (m n : ℕ) → m < n → n ≤ 2047 → m ≤ 2047
          fewer m n h k = omega (arith, h, k)

    -- the trace up to a number of steps of the output in which the input is steady
    pub traced : (h : ℕ) → Feeds w (start g regs) (start f zeros) h → Trace w.code (start g regs) sizes (λ i. word_address w.form.spans i) (31 + (entry_steps l.land + call_steps l.land)) h Bound
    traced h feeds =
        let first = first_call in
        record {
          first = first.steps;
          soon = first.within;
          cursor = first.index;
          start = first.bound;
          inside = λ p i b. ⊎_elim (λ y. inl y.0) (λ z. inr z) b.at;
          goes_on = λ p i b le. inl (piece_at p i b h feeds);
        }

    -- ---- the end of a test with the sweep
    -- the last boundary, with what follows it
    abbrev Last : ℕ → Type 0
    Last e = LastBoundary (λ q n. Sweeps w (after_output g regs q) n) e

    last_of : (e : ℕ) → ((h : ℕ) → Steady f w.reached h) → (after_output g regs e).outcome ≡ Ended → ((k : ℕ) → k < e → (after_output g regs k).outcome ≡ Going) → Last e
    last_of e steady end before =
        let first = first_call in
        to_end (start g regs) e end before (Numbered Bound) (λ q n. Sweeps w (after_output g regs q) n)
        (λ p b. b.bound.here.over.going)
        (λ p b.
        ⊎_elim
        (λ c. inl (next_numbered w.code (start g regs) sizes nth Bound p b.index (next_at p b.index b.bound c)))
        (λ d. inr (closing_at p b.index b.bound d))
        (onward_at p b.index b.bound (p + (check_steps w + (l.every + 1))) (omega arith) (record { more = λ n m t l. steady (suc n) })))
        e first.steps (omega arith) (record { index = first.index; bound = first.bound })

    -- the sweep behind it
    module _ (e : ℕ) (sw : w.form.sweep ≡ true) (before : (k : ℕ) → k < e → (after_output g regs k).outcome ≡ Going) (r : Last e) where
      closing : SweptAfter w (after_output g regs r.from) r.steps
      closing = r.last sw

      to_sweep : after_output g regs (r.from + closing.from) ≡ run (after_output g regs r.from) closing.from
      to_sweep = run-more (start g regs) r.from closing.from

      sum_is : r.from + closing.from + closing.rest ≡ e
      sum_is = omega (arith, closing.sum, r.is)

      swept_of : SweptEnd w g regs (sweep_cost w.form.spans) e
      swept_of = swept_is g w regs (sweep_cost w.form.spans) (r.from + closing.from) closing.rest e (subst (λ z. Swept w (sweep_cost w.form.spans) z closing.rest) (sym to_sweep) closing.swept) sum_is before

      alone_of : SweptAlone w g regs (sweep_cost w.form.spans) e
      alone_of = record { swept = swept_of; alone = alone } where
        alone : (m : ℕ) (j : Ins) → swept_of.start ≤ m → m < e → w.code (after_output g regs m).pc ≡ Known j → (WritesOriginal j ⊎ (class_of j.kind ≡ class.Store)) → ⊥
        alone m j late high known =
            let low : r.from + closing.from ≤ m = omega (arith, late, swept_of.exact, closing.swept.exact, sum_is) in
            let p = r.from + closing.from in
            let k = m - (r.from + closing.from) in
            let sum : r.from + closing.from + (m - (r.from + closing.from)) ≡ m = omega (arith, low) in
            let at : after_output g regs m ≡ run (after_output g regs p) k = ap (run (start g regs)) (sym sum) ∙ run-more (start g regs) p k in
            sweep_alone w (after_output g regs p) (subst (BeforeSweep w) (sym to_sweep) closing.before) k
            (λ i h. ap (λ s. s.outcome) (sym (run-more (start g regs) p i)) ∙ before (p + i) (omega (arith, h, high, low)))
            j (ap (λ s. w.code s.pc) (sym at) ∙ known)

    -- the end of each test with the sweep
    pub swept_end :
        (e : ℕ) → ((h : ℕ) → Steady f w.reached h) → w.form.sweep ≡ true → (after_output g regs e).outcome ≡ Ended → ((k : ℕ) → k < e → (after_output g regs k).outcome ≡ Going)
        → SweptEnd w g regs (sweep_cost w.form.spans) e
    swept_end e steady sw end before = swept_of e sw before (last_of e steady end before)

    -- with what no step of it does
    pub swept_alone :
        (e : ℕ) → ((h : ℕ) → Steady f w.reached h) → w.form.sweep ≡ true → (after_output g regs e).outcome ≡ Ended → ((k : ℕ) → k < e → (after_output g regs k).outcome ≡ Going)
        → SweptAlone w g regs (sweep_cost w.form.spans) e
    swept_alone e steady sw end before = alone_of e sw before (last_of e steady end before)

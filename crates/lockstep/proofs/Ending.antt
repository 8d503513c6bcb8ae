-- From boundary to boundary to the end of a test, and the sweep before it.
use Rattle.std.proofs.Common.{◌≡◌, ℕ, zero, suc, ◌+◌, ◌-◌, ◌%◌, ◌^◌, ◌<◌, ◌≤◌, ◌⊎◌, inl, inr, ⊎_elim, List, length, sym, ap, ◌∙◌, subst, arith}
use Rattle.std.specs.Prelude.{pos}
use Rattle.std.proofs.lemmas.Bool.{cases_lt}
use Rattle.tests.specs.Admission.DataRanges.{word_count, word_address}
use Rattle.qed_model.specs.Promise.Kept.{after_output}
use Rattle.machine.proofs.Lemmas.{run-more}
use Rattle.weave_core.specs.World.{World, words_on, Going, Ended, Program, start, State, Fetched, reg, place, run, CURSOR}
use Rattle.weave_core.specs.Kinds.{originals}
use Rattle.weave_core.specs.Lock.{first_load, ComparesFrom}
use Rattle.weave_core.specs.WeaveLaws.{Visits, Swept}
use Rattle.weave_core.proofs.Lemmas.{run-ended, going_ended}
use Rattle.lockstep.proofs.Sets.{word_below}
use Rattle.lockstep.proofs.Numbered.{words_are, advance_below, word_small, some_spans, AtNumber, round_of, round_some, round_none}
use Rattle.lockstep.proofs.Trace.{advance, Sizes, VisitIn, NextSteps, SweptEnd}

-- the place of the first load is the cursor
pub place_is : (u : State) (x : ℕ) → reg u CURSOR ≡ x → x < 2 ^ 64 → place first_load u ≡ x
place_is u x e h = ap (λ y. (y + 0) % 2 ^ 64) e ∙ omega (arith, h)

-- ---- the boundary before the end
-- from a boundary to the next
pub record ToNext (Boundary : ℕ → Type 0) (p : ℕ) : Type 0 where
  pub steps : ℕ
  pub some : 1 ≤ steps
  pub next : Boundary (p + steps)

-- or to the end
pub record ToEnd (s : State) (Last : ℕ → ℕ → Type 0) (p : ℕ) : Type 0 where
  pub steps : ℕ
  pub going : (k : ℕ) → k < steps → (run s (p + k)).outcome ≡ Going
  pub ended : (run s (p + steps)).outcome ≡ Ended
  pub last : Last p steps

-- the last one
pub record LastBoundary (Last : ℕ → ℕ → Type 0) (e : ℕ) : Type 0 where
  pub from : ℕ
  pub steps : ℕ
  pub last : Last from steps
  pub is : from + steps ≡ e

module _ (s : State) (e : ℕ) (end : (run s e).outcome ≡ Ended) (before : (k : ℕ) → k < e → (run s k).outcome ≡ Going) where
  -- what has ended stays
  stays : (p : ℕ) → e ≤ p → (run s p).outcome ≡ Ended
  stays p l = let sum : e + (p - e) ≡ p = omega (arith, l) in ap (λ x. x.outcome) (ap (run s) (sym sum) ∙ run-more s e (p - e) ∙ run-ended (p - e) (run s e) end) ∙ end

  pub to_end :
      (Boundary : ℕ → Type 0) (Last : ℕ → ℕ → Type 0) → ((p : ℕ) → Boundary p → (run s p).outcome ≡ Going)
      → ((p : ℕ) → Boundary p → ToNext Boundary p ⊎ ToEnd s Last p) → (fuel p : ℕ) → e ≤ p + fuel → Boundary p → LastBoundary Last e
  to_end Boundary Last going on zero p l b = absurd (going_ended (run s p).outcome (going p b) (stays p (omega (arith, l))))
  to_end Boundary Last going on (suc fuel) p l b =
      ⊎_elim
      (λ n. to_end Boundary Last going on fuel (p + n.steps) (omega (arith, l, n.some)) n.next)
      (λ c.
      ⊎_elim
      (λ lt. absurd (going_ended (run s (p + c.steps)).outcome (before (p + c.steps) lt) c.ended))
      (λ ge. record { from = p; steps = c.steps; last = c.last; is = same c ge })
      (cases_lt (p + c.steps) e))
      (on p b) where
        inside : (c : ToEnd s Last p) → e < p + c.steps → ⊥
        inside c lt =
            ⊎_elim
            (λ low. going_ended (run s p).outcome (going p b) (stays p (omega (arith, low))))
            (λ high. let sum : p + (e - p) ≡ e = omega (arith, high) in going_ended (run s e).outcome (ap (λ k. (run s k).outcome) (sym sum) ∙ c.going (e - p) (omega (arith, high, lt))) end)
            (cases_lt e p)

        same : (c : ToEnd s Last p) → e ≤ p + c.steps → p + c.steps ≡ e
        same c ge = ⊎_elim (λ lt. absurd (inside c lt)) (λ g. omega (arith, g, ge)) (cases_lt e (p + c.steps))

-- a boundary with some number
pub record Numbered (Bound : ℕ → ℕ → Type 0) (p : ℕ) : Type 0 where
  pub index : ℕ
  pub bound : Bound p index

-- from it to the next
pub next_numbered : (c : ℕ → Fetched) (s : State) (z : Sizes) (word : ℕ → ℕ) (Bound : ℕ → ℕ → Type 0) (p i : ℕ) → NextSteps c s z word Bound p i → ToNext (Numbered Bound) p
next_numbered c s z word Bound p i n = record { steps = n.length; some = n.some; next = record { index = advance z.words z.round i; bound = n.next } }

-- ---- visits
module _ (g : Program) (w : World) (regs : List ℕ) where
  -- a visit of a walk, among all steps
  visit_in :
      (p m n a : ℕ) → m ≤ n → ((k : ℕ) → k < m → (after_output g regs (p + k)).outcome ≡ Going) → Visits w (after_output g regs p) m a → a < 2 ^ 64
      → VisitIn w.code (start g regs) p (p + n) a
  visit_in p m n a le going y low =
      let there : after_output g regs (p + y.at) ≡ run (after_output g regs p) y.at = run-more (start g regs) p y.at in
      record {
        at = p + y.at;
        late = omega arith;
        early = omega (arith, y.before, le);
        visit = record {
          going = going y.at y.before;
          base = 15;
          high = omega arith;
          offset = pos 0;
          first = ap (λ s. w.code s.pc) there ∙ y.first;
          cursor = place_is (after_output g regs (p + y.at)) a (ap (λ s. reg s CURSOR) there ∙ y.cursor) low;
        };
      }

  -- the visits of a round from the word at y, by the numbers of their words
  pub visits_in :
      (p m n round i j y : ℕ) → m ≤ n → ((k : ℕ) → k < m → (after_output g regs (p + k)).outcome ≡ Going)
      → ((j : ℕ) → j < round → 1 ≤ length w.form.spans → Visits w (after_output g regs p) m (words_on w.form.spans j y)) → AtNumber w.form.spans i y
      → j < round_of (word_count w.form.spans) round → VisitIn w.code (start g regs) p (p + n) (word_address w.form.spans (advance (word_count w.form.spans) j i))
  visits_in p m n round i j y le going visits (inr none) h = let k = round_none (word_count w.form.spans) round none in absurd (omega (arith, h, k))
  visits_in p m n round i j y le going visits (inl a) h =
      let one : 1 ≤ word_count w.form.spans = omega (arith, a.0) in
      let k = round_some (word_count w.form.spans) round one in
      let word : words_on w.form.spans j y ≡ word_address w.form.spans (advance (word_count w.form.spans) j i) = ap (words_on w.form.spans j) a.1 ∙ words_are w.base w.form.spans j i w.spans_good a.0 in
      visit_in p m n (word_address w.form.spans (advance (word_count w.form.spans) j i)) le going
      (subst (Visits w (after_output g regs p) m) word (visits j (omega (arith, h, k)) (some_spans w.form.spans one)))
      (word_small w (advance (word_count w.form.spans) j i) (advance_below (word_count w.form.spans) j i a.0))

  -- ---- the sweep
  -- from where it begins
  pub swept_is :
      (first p n e : ℕ) → Swept w first (after_output g regs p) n → p + n ≡ e → ((k : ℕ) → k < e → (after_output g regs k).outcome ≡ Going) → SweptEnd w g regs first e
  swept_is first p n e c is before = record {
    start = p;
    exact = ap (λ n. p + n) (sym c.exact) ∙ is;
    visits = λ a h.
        let low = word_below w.form.spans a (w.base + w.distance) w.spans_low h in
        visit_in p first first a (omega arith) (λ k l. before (p + k) (omega (arith, l, c.exact, is))) (c.visits a h) (omega (arith, low, w.layout.top));
    words = subst (λ y. ComparesFrom w.code y.pc originals) (sym (run-more (start g regs) p first)) c.compares;
  }

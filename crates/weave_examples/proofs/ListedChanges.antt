-- Runs with changes, computed over a list of instructions, and whether a register is closed on the way.
use Rattle.std.proofs.Common.{◌≡◌, ℕ, zero, suc, ◌+◌, ◌*◌, ◌<◌, ◌≤◌, true, false, cond, List, [], ◌∷◌, length, Some, refl, sym, ap, ◌∙◌, subst, arith}
use Rattle.std.specs.Prelude.{◌==◌, ◌%◌, ◌^◌, ◌||◌, ◌&&◌, not, Bool, nat_le}
use Rattle.std.proofs.lemmas.Bool.{and_parts, eq-eqb, ne_eqb}
use Rattle.machine.specs.Members.{Every}
use Rattle.machine.specs.Struck.{struck}
use Rattle.machine.specs.declared.place.Place.{Place}
use Rattle.machine.specs.declared.place.Place.TheVariants.{Reg, Word}
use Rattle.qed_model.specs.declared.change.Change.{Change}
use Rattle.weave_core.specs.World.{Program, Memory, memory_of, start, zeros, Outcome, Going, Ins, State, Known, HasAt, fetched_at, put, step, run, LAST_ORIGINAL}
use Rattle.qed_model.specs.Promise.Changed.{changed, changed_as, with_changes, changed_run}
use Rattle.qed_model.specs.Promise.Closed.{is_closed, uses, guards_other, guard_bytes, is_checked}
use Rattle.weave_examples.proofs.ListedRuns.{run-last, grants-put, number-put_apart, instruction_at, is_going, is_simple_at, is_simple_run, go, go_at, found, step_is, run_is, state_of}
use Rattle.lockstep.proofs.Lemmas.{changed_later}

-- before its step the changed run is the run without it
unchanged : (s : State) (c : Change) (n : ℕ) → n < c.step → changed_run s (c ∷ []) n ≡ run s n
unfolding changed_run with_changes run
unchanged s c zero l = ap (λ b. cond b (changed c s) s) (ne_eqb c.step 0 (λ e. absurd (omega (arith, e, l))))
unchanged s c (suc n) l =
    let next : n + 1 ≡ suc n = omega arith in
    ap (λ b. cond b (changed c (step (changed_run s (c ∷ []) n))) (step (changed_run s (c ∷ []) n))) (ne_eqb c.step (suc n) (λ e. absurd (omega (arith, e, l))))
    ∙ ap step (unchanged s c n (omega (arith, l)))
    ∙ sym (run-last s n)
    ∙ ap (run s) next

-- at its step the state is changed
changed_there : (s : State) (c : Change) (n : ℕ) → c.step ≡ suc n → changed_run s (c ∷ []) (suc n) ≡ changed c (run s (suc n))
unfolding changed_run with_changes
changed_there s c n e =
    let next : n + 1 ≡ suc n = omega arith in
    ap (λ b. cond b (changed c (step (changed_run s (c ∷ []) n))) (step (changed_run s (c ∷ []) n))) (eq-eqb c.step (suc n) e)
    ∙ ap (λ u. changed c (step u)) (unchanged s c n (omega (arith, e)))
    ∙ ap (changed c) (sym (run-last s n) ∙ ap (run s) next)

-- whether a register is closed, by the next instruction, the one behind it, and the one where it ends as a guard
abbrev pub closed_by : ℕ → Ins → Ins → Ins → Bool
closed_by r i m j = (nat_le 1 r && nat_le r LAST_ORIGINAL) && ((uses r (Known i) && not (is_checked (Known i) (Known m))) || (guards_other r (Known i) && uses r (Known j)))

module _ (g : Program) (base : ℕ) (is : List Ins) (stand : HasAt (fetched_at (memory_of g.segments) g.ranges) base is) where
  -- the changed run, from registers 0, from a known state on
  pub changed_go : (c : Change) (n k : ℕ) (regs : List ℕ) (pc : ℕ) → c.step ≡ suc n → is_simple_run base is (suc n) (start g zeros) ≡ true
      → changed c (go base is (suc n) (start g zeros)) ≡ state_of g regs pc Going
      → is_simple_run base is k (state_of g regs pc Going) ≡ true
      → changed_run (start g zeros) (c ∷ []) (suc n + k) ≡ go base is k (state_of g regs pc Going)
  changed_go c n k regs pc e first there later =
      changed_later (start g zeros) (suc n) k (c ∷ []) (omega (arith, e), tt)
      ∙ ap (λ s. run s k) (changed_there (start g zeros) c n e ∙ ap (changed c) (run_is (memory_of g.segments) g.ranges base is stand (suc n) (start g zeros) first refl refl) ∙ there)
      ∙ run_is (memory_of g.segments) g.ranges base is stand k (state_of g regs pc Going) later refl refl

  -- whether a register is closed, by the word at the pc, the next, and that where it ends as a guard
  pub closed_there :
      (r : ℕ) (regs : List ℕ) (pc : ℕ) (i m j : Ins) → instruction_at base is pc ≡ Some i → instruction_at base is ((pc + 4) % 2 ^ 64) ≡ Some m
      → instruction_at base is ((pc + guard_bytes (Known i)) % 2 ^ 64) ≡ Some j → is_closed (state_of g regs pc Going) r ≡ closed_by r i m j
  closed_there r regs pc i m j here next behind =
      let code = fetched_at (memory_of g.segments) g.ranges in
      let known = λ (a : ℕ) (k : Ins) (e : instruction_at base is a ≡ Some k). found code base is a k stand e in
      ap (λ x. (nat_le 1 r && nat_le r LAST_ORIGINAL) && ((uses r x && not (is_checked x (code ((pc + 4) % 2 ^ 64)))) || (guards_other r x && uses r (code ((pc + guard_bytes x) % 2 ^ 64))))) (known pc i here)
      ∙ ap (λ x. (nat_le 1 r && nat_le r LAST_ORIGINAL) && ((uses r (Known i) && not (is_checked (Known i) x)) || (guards_other r (Known i) && uses r (code ((pc + guard_bytes (Known i)) % 2 ^ 64))))) (known ((pc + 4) % 2 ^ 64) m next)
      ∙ ap (λ x. (nat_le 1 r && nat_le r LAST_ORIGINAL) && ((uses r (Known i) && not (is_checked (Known i) (Known m))) || (guards_other r (Known i) && uses r x))) (known ((pc + guard_bytes (Known i)) % 2 ^ 64) j behind)

-- ---- changes at several steps, of registers and of words below the code
abbrev pub IsBelow : ℕ → Place → Type 0
IsBelow base (Reg r) = Unit {0}
IsBelow base (Word a) = a + 8 ≤ base

-- some steps from step k on, with the changes of each
abbrev pub go_changed : ℕ → List Ins → List Change → ℕ → ℕ → State → State
go_changed base is cs k zero s = s
go_changed base is cs k (suc n) s = go_changed base is cs (suc k) n (with_changes cs (suc k) (go_at (instruction_at base is s.pc) s))

abbrev pub is_simple_changed : ℕ → List Ins → List Change → ℕ → ℕ → State → Bool
is_simple_changed base is cs k zero s = true
is_simple_changed base is cs k (suc n) s =
    is_going s.outcome && (is_simple_at (instruction_at base is s.pc) && is_simple_changed base is cs (suc k) n (with_changes cs (suc k) (go_at (instruction_at base is s.pc) s)))

-- such a word is none of the code
put_stands :
    (m : Memory) (ranges : List (ℕ × ℕ)) (a x base : ℕ) (is : List Ins) → a + 8 ≤ base → base + 4 * length is ≤ 2 ^ 64
    → HasAt (fetched_at m ranges) base is → HasAt (fetched_at (put m a 8 x) ranges) base is
unfolding fetched_at
put_stands m ranges a x base [] below top h = tt
put_stands m ranges a x base (i ∷ is) below top h = (
  rw (grants-put (λ f. f.execute) m a 8 x base 4, number-put_apart m a 8 x base 4 (λ j l. omega (arith, l, below, top))) h.0,
  put_stands m ranges a x (base + 4) is (omega (arith, below)) (omega (arith, top)) h.1,
)

module _ (base : ℕ) (is : List Ins) (top : base + 4 * length is ≤ 2 ^ 64) where
  abbrev Stands : State → Type 0
  Stands s = HasAt (fetched_at s.memory s.ranges) base is

  struck_stands : (p : Place) (x : ℕ) (s : State) → IsBelow base p → Stands s → Stands (struck p x s)
  unfolding struck
  struck_stands (Reg r) x s below h = h
  struck_stands (Word a) x s below h = put_stands s.memory s.ranges a x base is below top h

  change_stands : (o : Outcome) (c : Change) (s : State) → IsBelow base c.place → Stands s → Stands (changed_as o c s)
  change_stands Going c s below h = struck_stands c.place c.value s below h
  change_stands _ c s below h = h

  changes_stand : (cs : List Change) (n : ℕ) (s : State) → Every (λ c. IsBelow base c.place) cs → Stands s → Stands (with_changes cs n s)
  unfolding with_changes
  changes_stand [] n s below h = h
  changes_stand (c ∷ cs) n s below h =
      changes_stand cs n (cond (c.step == n) (changed c s) s) below.1 (elim (c.step == n) as (λ b. Stands (cond b (changed c s) s)) [ true ↦ change_stands s.outcome c s below.0 h | false ↦ h ])

  -- the changed run is that of the list, from a known state on
  pub changes_go :
      (t : State) (cs : List Change) (k n : ℕ) (s : State) → Every (λ c. IsBelow base c.place) cs → changed_run t cs k ≡ s → Stands s
      → is_simple_changed base is cs k n s ≡ true → changed_run t cs (k + n) ≡ go_changed base is cs k n s
  unfolding changed_run
  changes_go t cs k zero s below e h p = let sum : k + 0 ≡ k = omega arith in ap (changed_run t cs) sum ∙ e
  changes_go t cs k (suc n) s below e h p =
      let x = instruction_at base is s.pc in
      let there = with_changes cs (suc k) (go_at x s) in
      let both = and_parts (is_going s.outcome) (is_simple_at x && is_simple_changed base is cs (suc k) n there) p in
      let rest = and_parts (is_simple_at x) (is_simple_changed base is cs (suc k) n there) both.1 in
      let first = step_is s.memory s.ranges base is h x s refl both.0 rest.0 refl refl in
      let sum : k + suc n ≡ suc k + n = omega arith in
      let code : Stands (go_at x s) = subst (λ m. HasAt (fetched_at m (go_at x s).ranges) base is) (sym first.1.0) (subst (λ r. HasAt (fetched_at s.memory r) base is) (sym first.1.1) h) in
      ap (changed_run t cs) sum
      ∙ changes_go t cs (suc k) n there below (ap (λ u. with_changes cs (suc k) (step u)) e ∙ ap (with_changes cs (suc k)) first.0) (changes_stand cs (suc k) (go_at x s) below code) rest.1

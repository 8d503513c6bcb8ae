-- The duplicate half does not reach the original half: at the entry of a block only the latter has to be right.
use Rattle.std.specs.Prelude.{◌≡◌, ◌↔◌, ℕ, suc, cond, nat_le, ◌-◌, ◌+◌, ◌*◌, ◌^◌, ◌<◌, ◌≤◌, ◌⊎◌, Bool, true, false, List, [], ◌∷◌, length}
use Rattle.rv_isa.specs.declared.profile.TheConstants.{LAST_ORIGINAL, PAIR_DISTANCE, DISTANCE, CURSOR, SIGNATURE, TEMPORARY, SPARE}
use Rattle.machine.specs.declared.outcome.Outcome.TheVariants.{Going, Ended}
use Rattle.machine.specs.declared.place.Place.{Place}
use Rattle.machine.specs.declared.place.Place.TheVariants.{Reg, Word}
use Rattle.rv_isa.specs.declared.class.Class.TheVariants as class
use Rattle.rv_isa.specs.Kind.{writes_rd}
use Rattle.rv_isa.specs.Operation.{ReadsRegister}
use Rattle.machine.specs.Values.{width_of}
use Rattle.machine.specs.Memory.{get, put, byte_at, flags_at, allows}
use Rattle.machine.specs.Program.{Program, memory_of, start, AreStartRegs}
use Rattle.machine.specs.Step.{State, Ins, Known, class_of, place, next, next_pc, moved, stored, reg, set_reg, run, fetched_at}
use Rattle.qed_model.specs.declared.change.Change.{Change}
use Rattle.qed_model.specs.Promise.Changed.{changed_run}
use Rattle.qed_model.specs.Promise.Faults.{GivesAny, misled}
use Rattle.qed_model.specs.Promise.Kept.{after_input, after_output, is_mapped, Halves, Steady}
use Rattle.qed_model.specs.Weave.Blocks.{begins_at}
use Rattle.qed_model.specs.Weave.LeanBounds.{entry_steps, call_steps}
use Rattle.qed_model.specs.Weave.Sequences.{Block}
use Rattle.tests.specs.Admission.DataRanges.{word_count}
use Rattle.lean.specs.Strayed.{IsOver, Stopped}

-- The output's state u goes on at the entry of the block where the input's state s stands. Its registers x1 to x13 and
-- the bytes that the input maps are those of s. In x16 is the pc of s, and in x14 the distance of the halves. Code,
-- permissions and what stands behind both halves are those of the file. Nothing is asked of x15, of x17 to x31, nor of
-- the duplicate half
pub record HasOriginals (f g : Program) (base distance : ℕ) (entry : ℕ → ℕ) (s u : State) : Type 0 where
  pub going : u.outcome ≡ Going
  pub here : u.pc ≡ entry s.pc
  pub originals : (r : ℕ) → 1 ≤ r → r ≤ LAST_ORIGINAL → reg u r ≡ reg s r
  pub bytes : (q : ℕ) → is_mapped f q ≡ true → byte_at u.memory q ≡ byte_at s.memory q
  pub sign : reg u SIGNATURE ≡ s.pc
  pub distance_is : reg u DISTANCE ≡ distance
  pub zero_reg : reg u 0 ≡ 0
  pub count : length u.regs ≡ 32
  pub code : (a : ℕ) → fetched_at u.memory u.ranges a ≡ fetched_at (memory_of g.segments) g.ranges a
  pub flags : (q : ℕ) → flags_at u.memory q ≡ flags_at (memory_of g.segments) q
  pub fixed : (q : ℕ) → base + 2 * distance ≤ q → q < 2 ^ 64 → get u.memory q ≡ get (memory_of g.segments) q

-- within `most` steps a check has fired, a step has trapped, or the original half has the values of t; then u has ended
-- exactly if t has
pub record ComesTo (f : Program) (t u : State) (most : ℕ) : Type 0 where
  pub steps : ℕ
  pub within : steps ≤ most
  pub is : IsOver (run u steps).outcome ⊎ (Halves f t (run u steps) × (((run u steps).outcome ≡ Ended) ↔ (t.outcome ≡ Ended)))

-- the most steps for a step of the input and once more, by the option `land`, the data ranges and the words of a round:
-- those of an entry, the check, the entry again, a period, and a leave
abbrev pub undisturbed_piece : Bool → ℕ → ℕ → ℕ
undisturbed_piece land ranges round = 2 * (entry_steps land + call_steps land) + (5 + 5 * ranges) * round + 2114

-- and of the end of the test, by the data ranges
abbrev pub undisturbed_ends : List (ℕ × ℕ) → ℕ
undisturbed_ends spans = 33 + (2 * length spans + 8 * word_count spans)

-- ---- changes of the duplicate half
-- n bytes of it from an address on, which are no code
pub record InDuplicate (g : Program) (base distance a n : ℕ) : Type 0 where
  pub above : base + distance ≤ a
  pub below : a + n ≤ base + 2 * distance
  pub no_code : (q : ℕ) → a ≤ q → q < a + n → allows (λ c. c.execute) (get (memory_of g.segments) q) ≡ false

-- x15, and x17 to x29
abbrev pub IsDuplicateReg : ℕ → Type 0
IsDuplicateReg r = (r ≡ CURSOR) ⊎ ((PAIR_DISTANCE < r) × (r ≤ LAST_ORIGINAL + PAIR_DISTANCE))

-- such a register, or eight such bytes
abbrev pub IsDuplicate : Program → ℕ → ℕ → Place → Type 0
IsDuplicate g base distance (Reg r) = IsDuplicateReg r
IsDuplicate g base distance (Word a) = InDuplicate g base distance a 8

abbrev pub AllDuplicate : Program → ℕ → ℕ → List Change → Type 0
AllDuplicate g base distance [] = Unit {0}
AllDuplicate g base distance (c ∷ cs) = IsDuplicate g base distance c.place × AllDuplicate g base distance cs

-- ---- changes of registers while their values wait for no use
-- u goes on at an instruction that computes, loads or links register r
pub record Sets (r : ℕ) (u : State) : Type 0 where
  pub ins : Ins
  pub going : u.outcome ≡ Going
  pub known : next u ≡ Known ins
  pub sets : writes_rd (class_of ins.kind) ≡ true
  pub rd : ins.rd ≡ r

-- from step n on each instruction that reads r comes behind one that sets it: its value at step n waits for no use
abbrev pub IsIdle : (ℕ → State) → ℕ → ℕ → Type 0
IsIdle states r n = (k : ℕ) (i : Ins) → (states (n + k)).outcome ≡ Going → next (states (n + k)) ≡ Known i
    → ReadsRegister i r → (j : ℕ) × (j < k) × Sets r (states (n + j))

-- x30 and x31
abbrev pub IsTemporary : ℕ → Type 0
IsTemporary r = (r ≡ TEMPORARY) ⊎ (r ≡ SPARE)

-- x30 or x31, which waits for no use at step n
abbrev pub IsIdlePlace : (ℕ → State) → ℕ → Place → Type 0
IsIdlePlace states n (Reg r) = IsTemporary r × IsIdle states r n
IsIdlePlace states n (Word a) = ⊥

-- each change is of the duplicate half, or of such a register at its step of the run
abbrev pub AllMay : Program → ℕ → ℕ → (ℕ → State) → List Change → Type 0
AllMay g base distance states [] = Unit {0}
AllMay g base distance states (c ∷ cs) = (IsDuplicate g base distance c.place ⊎ IsIdlePlace states c.step c.place) × AllMay g base distance states cs

-- ---- slips of its instructions
-- v is the state behind the instruction i of u if it goes wrong once: it gives such a register any number, or stores
-- any number anywhere in the duplicate half, or is skipped
pub data SlipsDuplicate (g : Program) (base distance : ℕ) (i : Ins) (u v : State) : Type 0 where
  writes : (class_of i.kind ≡ class.Compute) ⊎ (class_of i.kind ≡ class.Load) → IsDuplicateReg i.rd → GivesAny i u v → SlipsDuplicate g base distance i u v
  stores : (x a : ℕ) → class_of i.kind ≡ class.Store → InDuplicate g base distance (place i u) (width_of i.kind)
      → InDuplicate g base distance a (width_of i.kind)
      → v ≡ stored (put u.memory a (width_of i.kind) x) (next_pc u) u → SlipsDuplicate g base distance i u v
  leaves : class_of i.kind ≡ class.Store → InDuplicate g base distance (place i u) (width_of i.kind)
      → v ≡ moved u.regs (next_pc u) u → SlipsDuplicate g base distance i u v

-- ---- slips of other instructions that are none of the test's own
-- x14, x16, x30 and x31
abbrev pub IsOutputReg : ℕ → Type 0
IsOutputReg r = (r ≡ DISTANCE) ⊎ ((r ≡ SIGNATURE) ⊎ ((r ≡ TEMPORARY) ⊎ (r ≡ SPARE)))

-- it computes or loads such a register
abbrev pub WritesOutput : Ins → Type 0
WritesOutput i = ((class_of i.kind ≡ class.Compute) ⊎ (class_of i.kind ≡ class.Load)) × IsOutputReg i.rd

-- it is a branch, a jump, or the end of the test
abbrev pub Steers : Ins → Type 0
Steers i = (class_of i.kind ≡ class.Branch) ⊎ ((class_of i.kind ≡ class.Jump) ⊎ ((class_of i.kind ≡ class.JumpReg) ⊎ (class_of i.kind ≡ class.End)))

-- v is the state behind the instruction i of u if it goes wrong once: it gives such a register any number, is a branch
-- that goes the other way, or is skipped
pub data SlipsOther (i : Ins) (u v : State) : Type 0 where
  gives : (x : ℕ) → WritesOutput i → x < 2 ^ 64 → v ≡ moved (set_reg i.rd x u.regs) (next_pc u) u → SlipsOther i u v
  turns : class_of i.kind ≡ class.Branch → v ≡ misled i u → SlipsOther i u v
  skips : WritesOutput i ⊎ Steers i → v ≡ moved u.regs (next_pc u) u → SlipsOther i u v

-- the most steps of a run that is soon over behind a slip: those of three rounds of the count, and 80
abbrev pub slip_steps : ℕ
slip_steps = 3 * 2047 + 80

-- the run has not fired or trapped nine steps later
abbrev pub GoesOn : Program → List ℕ → ℕ → Type 0
GoesOn g regs m = (k : ℕ) → k ≤ 9 → IsOver (after_output g regs (m + k)).outcome → ⊥

-- the run up to its step n, and then the one from v on
abbrev pub slipped_run : Program → List ℕ → ℕ → State → ℕ → State
slipped_run g regs n v j = cond (nat_le j n) (after_output g regs j) (run v (j - (n + 1)))

-- ---- what follows
-- A run, given by its states, comes to the input's states after 0, 1, up to n steps, one after the other. It comes to
-- the first within `first` steps, and to each later one within `bound` more. There the original half has the input's
-- values, and the run has ended exactly if the input has; or before it a check has fired, or a step has trapped
pub record FollowsTo (f : Program) (n first bound : ℕ) (states : ℕ → State) : Type 0 where
  pub at : ℕ → ℕ
  pub grows : (k : ℕ) → k < n → at k < at (suc k)
  pub within : (k : ℕ) → k ≤ n → at k ≤ first + k * bound
  pub values : (k : ℕ) → k ≤ n → IsOver (states (at k)).outcome
      ⊎ (Halves f (after_input f k) (states (at k)) × (((states (at k)).outcome ≡ Ended) ↔ ((after_input f k).outcome ≡ Ended)))

-- the input has ended, and the original half of a state has its values
pub record EndsRight (f : Program) (u : State) : Type 0 where
  pub steps : ℕ
  pub ended : (after_input f steps).outcome ≡ Ended
  pub halves : Halves f (after_input f steps) u

-- the most steps that a change costs, where the output maps no byte from `top` on: those of a step of the input and of
-- the end, and those of a sweep that goes on until it traps
abbrev pub change_price : ℕ → ℕ → ℕ → ℕ
change_price bound ends top = bound + ends + top

-- from such a state the run comes to each later state of the input, as long as the input is steady, or is over. In
-- steps, `bound` is for each step of the input and once more, and `ends` for the end of the test. From its start it
-- comes to the input's states in their order, with any changes of the duplicate half at any steps, and of x30 and x31
-- while their values wait for no use. So it does if one instruction that writes into the duplicate half goes wrong
pub record Undisturbed (f g : Program) (reached : ℕ → Bool) (base distance : ℕ) (entry : ℕ → ℕ) (blocks : List Block) (bound ends : ℕ) : Type 0 where
  pub follows :
      (k n : ℕ) (u : State) → (after_input f k).outcome ≡ Going → begins_at blocks (after_input f k).pc ≡ true
      → HasOriginals f g base distance entry (after_input f k) u
      → Steady f reached (k + n) → ComesTo f (after_input f (k + n)) u ((n + 1) * bound + ends)
  pub keeps :
      (regs : List ℕ) (cs : List Change) (n top : ℕ) → AreStartRegs regs → AllMay g base distance (changed_run (start g regs) cs) cs
      → ((q : ℕ) → top ≤ q → is_mapped g q ≡ false) → top + 8 ≤ 2 ^ 64
      → Steady f reached n → FollowsTo f n (31 + bound + ends + length cs * change_price bound ends top) bound (changed_run (start g regs) cs)
  pub slips :
      (regs : List ℕ) (m n top : ℕ) (i : Ins) (v : State) → AreStartRegs regs → (after_output g regs m).outcome ≡ Going → next (after_output g regs m) ≡ Known i
      → (after_output g regs (m + 1)).outcome ≡ Going
      → SlipsDuplicate g base distance i (after_output g regs m) v → ((q : ℕ) → top ≤ q → is_mapped g q ≡ false) → top + 8 ≤ 2 ^ 64
      → Steady f reached n → FollowsTo f n (31 + bound + ends + change_price bound ends top) bound (slipped_run g regs m v)
  -- so it does, or is over within `slip_steps`, if another one goes wrong and the run without the slip goes on
  pub others :
      (regs : List ℕ) (m n top : ℕ) (i : Ins) (v : State) → AreStartRegs regs → (after_output g regs m).outcome ≡ Going → next (after_output g regs m) ≡ Known i
      → SlipsOther i (after_output g regs m) v
      → GoesOn g regs m → ((q : ℕ) → top ≤ q → is_mapped g q ≡ false) → top + 8 ≤ 2 ^ 64
      → Steady f reached n → Stopped slip_steps v ⊎ FollowsTo f n (31 + bound + ends + change_price bound ends top) bound (slipped_run g regs m v)
  -- so if the input is steady for ever, a run with either slip that ends has its values
  pub ends_right :
      (regs : List ℕ) (m j top : ℕ) (i : Ins) (v : State) → AreStartRegs regs → (after_output g regs m).outcome ≡ Going → next (after_output g regs m) ≡ Known i
      → SlipsDuplicate g base distance i (after_output g regs m) v ⊎ SlipsOther i (after_output g regs m) v
      → GoesOn g regs m → ((q : ℕ) → top ≤ q → is_mapped g q ≡ false) → top + 8 ≤ 2 ^ 64
      → ((k : ℕ) → Steady f reached k) → (run v j).outcome ≡ Ended → EndsRight f (run v j)

-- Promises of the lean form on stray jumps and on x14: if a block runs under another signature, the run is over soon.
use Rattle.std.specs.Prelude.{◌≡◌, ℕ, ◌+◌, ◌*◌, ◌/◌, ◌%◌, ◌^◌, ◌<◌, ◌≤◌, ◌⊎◌, true, false, List}
use Rattle.machine.specs.Members.{Among}
use Rattle.machine.specs.declared.outcome.Outcome.{Outcome}
use Rattle.machine.specs.declared.outcome.Outcome.TheVariants.{Going, Fired}
use Rattle.machine.specs.Program.{Program, AreStartRegs}
use Rattle.machine.specs.Step.{State, reg, run, moved, set_reg}
use Rattle.qed_model.specs.Promise.Kept.{is_trapped, after_output}
use Rattle.qed_model.specs.Promise.Landed.{placed_at}
use Rattle.qed_model.specs.Weave.Blocks.{begins_at, ElfFile, Options}
use Rattle.qed_model.specs.Weave.Code.{Sequences, pieces_of}
use Rattle.qed_model.specs.Weave.Forms.{form_of}
use Rattle.qed_model.specs.Weave.LeanCode.{lean_items, lean_of, worded}
use Rattle.tests.specs.Admission.Places.{base_of, image_of, code_place}
use Rattle.qed_model.specs.Weave.Placed.{sum_of_sizes, entry_of}
use Rattle.qed_model.specs.Weave.Sequences.{Block, CURSOR, SIGNATURE, DISTANCE}

-- ---- where a jump leads
-- a word of the pieces of a block, or the first one behind them
pub record IsInBlock (s : Sequences) (entry : ℕ → ℕ) (b : Block) (q : ℕ) : Type 0 where
  pub words : ℕ
  pub within : 4 * words ≤ sum_of_sizes false (pieces_of s b.body b.start)
  pub there : q ≡ entry b.start + sum_of_sizes false (s.enter b.start) + 4 * words

-- ---- what follows
abbrev pub IsOver : Outcome → Type 0
IsOver o = (o ≡ Fired) ⊎ (is_trapped o ≡ true)

-- within `most` steps a check has fired, or a step has trapped
pub record Stopped (most : ℕ) (s : State) : Type 0 where
  pub steps : ℕ
  pub within : steps ≤ most
  pub over : IsOver (run s steps).outcome

-- as many steps as the pieces of a block have words, and 19
abbrev pub steps_in : Sequences → Block → ℕ
steps_in s b = sum_of_sizes false (pieces_of s b.body b.start) / 4 + 19

-- for any start registers: a state of the run, placed inside a block under another signature, is over within `steps_in`
pub record Strayed (g : Program) (s : Sequences) (entry : ℕ → ℕ) (blocks : List Block) : Type 0 where
  pub stops :
      (regs : List ℕ) (t q : ℕ) (b : Block) → AreStartRegs regs → (after_output g regs t).outcome ≡ Going → Among b blocks → IsInBlock s entry b q
      → (reg (after_output g regs t) SIGNATURE ≡ b.start → ⊥)
      → Stopped (steps_in s b) (placed_at q (after_output g regs t))

-- ---- at an entry
-- another number in x14
abbrev pub with_distance : ℕ → State → State
with_distance x s = moved (set_reg DISTANCE x s.regs) s.pc s

-- x15 has a count that has not passed 2047, and an offset
pub record HasCount (x : ℕ) : Type 0 where
  pub count : x % 2 ^ 12 < 2 ^ 11
  pub offset : x / 2 ^ 12 < 2 ^ 32

-- as many steps as two ticks count at most, and 12
abbrev pub displaced_steps : ℕ
displaced_steps = 2 * 2047 + 12

-- and from inside of a block
abbrev pub displaced_inside : Sequences → Block → ℕ
displaced_inside s b = steps_in s b + 8 + displaced_steps

-- for any registers of the output's start: from any state of the run with a count in x15, the same state under another
-- signature is over within these steps, at the entry of a block and inside of it
pub record Displaced (g : Program) (s : Sequences) (entry : ℕ → ℕ) (blocks : List Block) : Type 0 where
  pub stops :
      (regs : List ℕ) (t a : ℕ) → AreStartRegs regs → (after_output g regs t).outcome ≡ Going → begins_at blocks a ≡ true
      → HasCount (reg (after_output g regs t) CURSOR) → (reg (after_output g regs t) SIGNATURE ≡ a → ⊥)
      → Stopped displaced_steps (placed_at (entry a) (after_output g regs t))
  pub inside :
      (regs : List ℕ) (t q : ℕ) (b : Block) → AreStartRegs regs → (after_output g regs t).outcome ≡ Going → Among b blocks → IsInBlock s entry b q
      → HasCount (reg (after_output g regs t) CURSOR) → (reg (after_output g regs t) SIGNATURE ≡ b.start → ⊥)
      → Stopped (displaced_inside s b) (placed_at q (after_output g regs t))

-- the same with another number in x14 than the distance, under any signature
pub record Adrift (g : Program) (s : Sequences) (distance : ℕ) (entry : ℕ → ℕ) (blocks : List Block) : Type 0 where
  pub stops :
      (regs : List ℕ) (t a x : ℕ) → AreStartRegs regs → (after_output g regs t).outcome ≡ Going → begins_at blocks a ≡ true
      → HasCount (reg (after_output g regs t) CURSOR) → (x ≡ distance → ⊥)
      → Stopped displaced_steps (with_distance x (placed_at (entry a) (after_output g regs t)))
  pub inside :
      (regs : List ℕ) (t q : ℕ) (b : Block) (x : ℕ) → AreStartRegs regs → (after_output g regs t).outcome ≡ Going → Among b blocks
      → IsInBlock s entry b q → HasCount (reg (after_output g regs t) CURSOR) → (x ≡ distance → ⊥)
      → Stopped (displaced_inside s b) (with_distance x (placed_at q (after_output g regs t)))

-- ---- of a file in the lean form
-- where its entries are, and the sequences of its code
abbrev pub entry_in : ElfFile → Options → ℕ → List Block → ℕ → ℕ
entry_in f o every blocks = entry_of false (code_place o.half (image_of f)) (lean_items f o every blocks)

abbrev pub code_in : ElfFile → Options → ℕ → List Block → Sequences
code_in f o every blocks = worded (form_of f o false) (base_of (image_of f)) (entry_in f o every blocks) (lean_of f o every blocks) (begins_at blocks)

-- What is promised of the input's run and the output's run: the input's values are kept, and no check fires.
use Rattle.std.specs.Prelude.{◌≡◌, ◌≢◌, ℕ, ◌+◌, ◌*◌, ◌<◌, ◌≤◌, ◌↔◌, Bool, true, false, List, is_some}
use Rattle.rv_isa.specs.declared.profile.TheConstants.{LAST_ORIGINAL}
use Rattle.rv_isa.specs.declared.class.Class.TheVariants as class
use Rattle.machine.specs.declared.outcome.Outcome.TheVariants.{Going, Ended, Fired, Trapped}
use Rattle.machine.specs.declared.outcome.Outcome.{Outcome}
use Rattle.machine.specs.Step.{class_of, Ins, State, reg, Known, next, step, run}
use Rattle.machine.specs.Memory.{get, byte_at}
use Rattle.machine.specs.Program.{Program, memory_of, start, zeros, AreStartRegs}

-- the input starts with all registers 0
abbrev pub after_input : Program → ℕ → State
after_input f n = run (start f zeros) n

-- the output starts with any registers
abbrev pub after_output : Program → List ℕ → ℕ → State
after_output g regs n = run (start g regs) n

-- whether a run stopped by a trap
abbrev pub is_trapped : Outcome → Bool
is_trapped (Trapped c pc) = true
is_trapped _ = false

-- the run goes on, has ended, or a check fired
abbrev pub NotTrapped : State → Type 0
NotTrapped s = is_trapped s.outcome ≡ false

-- ---- what is asked of the input's run
-- where a state goes on at a JALR, its step leads to an address that is reached
abbrev pub LeadsToReached : (ℕ → Bool) → State → Type 0
LeadsToReached reached s = (i : Ins) → s.outcome ≡ Going → next s ≡ Known i → class_of i.kind ≡ class.JumpReg → reached (step s).pc ≡ true

-- n steps of a run do not trap, and each JALR among them leads to an address that is reached
pub record IsSteady (reached : ℕ → Bool) (s : State) (n : ℕ) : Type 0 where
  pub no_trap : NotTrapped (run s n)
  pub leads : (k : ℕ) → k < n → LeadsToReached reached (run s k)

-- the first n steps of the input are steady
abbrev pub Steady : Program → (ℕ → Bool) → ℕ → Type 0
Steady f reached n = IsSteady reached (start f zeros) n

-- each address is reached, so a run is steady where it does not trap
abbrev pub any_address : ℕ → Bool
any_address a = true

-- ---- the halves
-- the input has a byte at the address
abbrev pub is_mapped : Program → ℕ → Bool
is_mapped f q = is_some (get (memory_of f.segments) q)

-- the output's state has the input's values in x1 to x13 and at each byte that the input maps
pub record Halves (f : Program) (s u : State) : Type 0 where
  pub regs : (r : ℕ) → 1 ≤ r → r ≤ LAST_ORIGINAL → reg u r ≡ reg s r
  pub mapped : (q : ℕ) → is_mapped f q ≡ true → is_some (get u.memory q) ≡ true
  pub bytes : (q : ℕ) → is_mapped f q ≡ true → byte_at u.memory q ≡ byte_at s.memory q

-- ---- the promise
-- after some steps of the output, within the bound, it has the values that the input has after n steps; it has ended
-- exactly if the input has
pub record Preserved (f g : Program) (first bound n : ℕ) (regs : List ℕ) : Type 0 where
  pub steps : ℕ
  pub within : steps ≤ first + (n + 1) * bound
  pub halves : Halves f (after_input f n) (after_output g regs steps)
  pub ends : ((after_output g regs steps).outcome ≡ Ended) ↔ ((after_input f n).outcome ≡ Ended)

-- after m steps of the output no check has fired and nothing has trapped; if it has ended, the input has ended too,
-- with equal values
pub record NoFalseAlarm (f g : Program) (m : ℕ) (regs : List ℕ) : Type 0 where
  pub no_check : (after_output g regs m).outcome ≢ Fired
  pub no_trap : NotTrapped (after_output g regs m)
  pub ended : (after_output g regs m).outcome ≡ Ended → ((after_input f m).outcome ≡ Ended) × Halves f (after_input f m) (after_output g regs m)

-- both, for any registers of the output's start, as long as the input's run is steady. In steps, `first` bounds what
-- runs first, and `bound` a piece
pub record Kept (f g : Program) (reached : ℕ → Bool) (first bound : ℕ) : Type 0 where
  pub values : (regs : List ℕ) (n : ℕ) → AreStartRegs regs → Steady f reached n → Preserved f g first bound n regs
  pub quiet : (regs : List ℕ) (m : ℕ) → AreStartRegs regs → Steady f reached m → NoFalseAlarm f g m regs

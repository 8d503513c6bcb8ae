-- What stands at an address, and what a strike makes of a machine.
use Rattle.std.specs.Prelude.{◌≡◌, ◌<◌, ◌≤◌, ℕ, ◌%◌, ◌==◌, ◌&&◌, Bool, true, false, cond, List, Option, None, Some}
use Rattle.machine.specs.Table.{row_of, Ins, Kind, Lui, Auipc}
use Rattle.machine.specs.Memory.{grants, number}
use Rattle.machine.specs.Step.{State, Fetched, Refused, Unknown, Known, fetched_at, in_range, operand}
use Rattle.machine.specs.declared.place.Place.{Place}
use Rattle.machine.specs.declared.outcome.Outcome.{Outcome}
use Rattle.machine.specs.declared.outcome.Outcome.TheVariants.{Going, Ended, Fired, Trapped}
use Rattle.machine.specs.Progress.{Progress, progress}
use Rattle.machine.specs.Struck.{struck}

-- the instruction, where one was fetched
abbrev pub instruction_of : Fetched → Option Ins
instruction_of Refused = None
instruction_of (Unknown w) = None
instruction_of (Known i) = Some i

-- the instruction at an address
abbrev pub known_at : State → ℕ → Option Ins
known_at s a = instruction_of (fetched_at s.memory s.ranges a)

-- an aligned address, of whose four bytes each lies in one code range and may be executed
abbrev pub is_code_word : State → ℕ → Bool
is_code_word s a = (a % 4 == 0) && (in_range a s.ranges && grants (λ f. f.execute) s.memory a 4)

-- the word at such an address
abbrev pub state_word : State → ℕ → Option ℕ
state_word s a = cond (is_code_word s a) (Some (number s.memory a 4)) None

-- a strike does not count as a step
abbrev pub struck_progress : Place → ℕ → Progress → Progress
struck_progress p x m = record { state = struck p x m.state; steps = m.steps }

-- another state, and as many steps
abbrev pub at_state : State → Progress → Progress
at_state s m = record { state = s; steps = m.steps }

-- whether a step does anything
abbrev pub does_step : Outcome → Bool
does_step Going = true
does_step Ended = false
does_step Fired = false
does_step (Trapped c pc) = false

-- some of n steps were made, and not all
pub record IsPart (m : Progress) (n : ℕ) (after : Progress) : Type 0 where
  pub count : ℕ
  pub most : count < n
  pub made : after ≡ progress m count

-- the state after n steps, each from a state that went on, with the number of steps before them
pub record IsRunMade (m : Progress) (n : ℕ) (after : Progress) : Type 0 where
  pub state : after.state ≡ (progress m n).state
  pub before : after.steps ≡ m.steps
  pub going : (k : ℕ) → k < n → does_step (progress m k).state.outcome ≡ true

-- `made` of n steps are made: each from a state that goes on; if fewer than n, it does not go on behind them
pub record AreMade (m : Progress) (n made : ℕ) : Type 0 where
  pub within : made ≤ n
  pub all : progress m made ≡ progress m n
  pub going : (k : ℕ) → k < made → does_step (progress m k).state.outcome ≡ true
  pub stopped : made < n → does_step (progress m n).state.outcome ≡ false

-- the second operand of a computing instruction of a kind, which LUI and AUIPC do not have
abbrev pub HasSecond : Kind → Ins → List ℕ → ℕ → Type 0
HasSecond Lui i regs b = Unit {0}
HasSecond Auipc i regs b = Unit {0}
HasSecond k i regs b = b ≡ operand (row_of k).format i regs

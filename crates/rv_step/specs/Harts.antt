-- Harts without their memory, and with one.
use Rattle.std.specs.Prelude.{◌≡◌, ℕ, List, refl}
use Rattle.std.specs.Coded.{Coded, code_by, coded×, coded_ℕ, coded_list}
use Rattle.machine.specs.Memory.{Memory}
use Rattle.machine.specs.Step.{State}
use Rattle.machine.specs.Progress.{Progress}
use Rattle.machine.specs.declared.outcome.Outcome.{Outcome}
use Rattle.machine.specs.contracts.outcome.Outcome as outcome
use Rattle.rv_step.specs.Known.{at_state}

-- the registers x0 to x31, the pc, the code ranges by their first address and the one behind their last, the outcome,
-- and the number of steps that were made
pub record HartState : Type 0 where
  pub regs : List ℕ
  pub pc : ℕ
  pub ranges : List (ℕ × ℕ)
  pub outcome : Outcome
  pub steps : ℕ

-- the hart with a memory
abbrev pub with_memory : HartState → Memory → Progress
with_memory h m = record { state = record { regs = h.regs; pc = h.pc; memory = m; ranges = h.ranges; outcome = h.outcome }; steps = h.steps }

-- the hart without it
abbrev pub hart_state_of : Progress → HartState
hart_state_of p = record { regs = p.state.regs; pc = p.state.pc; ranges = p.state.ranges; outcome = p.state.outcome; steps = p.steps }

-- a hart and its memory are left as a change of states says, and no step is counted
abbrev pub LeadsIn : (State → State) → HartState → Memory → HartState → Memory → Type 0
LeadsIn f h m k n = with_memory k n ≡ at_state (f (with_memory h m).state) (with_memory h m)

-- a hart is left as a change of states says, in every memory, which stays
abbrev pub LeadsHart : (State → State) → HartState → HartState → Type 0
LeadsHart f h k = (m : Memory) → LeadsIn f h m k m

-- the code of a hart, by which a proof tells harts apart
abbrev pub hart_state_code : Coded HartState
hart_state_code = code_by (List ℕ × (ℕ × (List (ℕ × ℕ) × (Outcome × ℕ))))
    (coded× (coded_list coded_ℕ) (coded× coded_ℕ (coded× (coded_list (coded× coded_ℕ coded_ℕ)) (coded× (outcome.the_row).coded coded_ℕ))))
    (λ h. (h.regs, (h.pc, (h.ranges, (h.outcome, h.steps)))))
    (λ p. record { regs = p.0; pc = p.1.0; ranges = p.1.1.0; outcome = p.1.1.1.0; steps = p.1.1.1.1 }) (λ _. refl)

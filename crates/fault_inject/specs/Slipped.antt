-- Runs with changes, in which one instruction goes wrong.
use Rattle.std.specs.Prelude.{ℕ, zero, suc, ◌+◌, ◌-◌, ◌==◌, ◌&&◌, cond, if◌then◌else◌, nat_le, nat_lt, List, Option, None, Some}
use Rattle.machine.specs.Progress.{Progress, steps_after}
use Rattle.machine.specs.Step.{State, step}
use Rattle.qed_model.specs.declared.change.Change.{Change}
use Rattle.qed_model.specs.Promise.Changed.{with_changes}
use Rattle.rv_step.specs.Known.{does_step}
use Rattle.rv_step.specs.Slipped.{can_slip, slipped_step}
use Rattle.rv_step.specs.declared.slip.SlipAt.{SlipAt}
use Rattle.fault_inject.specs.declared.slips.Slipped.{Slipped}
use Rattle.fault_inject.specs.declared.slips.Slipped.TheVariants.{At, NoSlip, NotReached}

-- the step of a state behind n steps
abbrev pub step_of : SlipAt → ℕ → State → State
step_of at n s = cond (n == at.step) (slipped_step at.slip s) (step s)

-- the state after n steps with changes, as of a changed run; the slip is behind the changes of its step
unfoldable pub slipped_run : State → List Change → SlipAt → ℕ → State
slipped_run s cs at zero = with_changes cs 0 s
slipped_run s cs at (suc n) = with_changes cs (suc n) (step_of at n (slipped_run s cs at n))

-- how many steps are counted after n more
unfoldable pub slipped_steps : Progress → List Change → SlipAt → ℕ → ℕ
slipped_steps p cs at zero = p.steps
slipped_steps p cs at (suc n) = steps_after (slipped_run p.state cs at n).outcome (slipped_steps p cs at n)

-- what became of the slip, by the state before it
abbrev pub slipped_at : SlipAt → State → Slipped
slipped_at at s = cond (does_step s.outcome) (cond (can_slip at.slip s) (At s.pc) (NoSlip s.pc)) NotReached

-- what became of the slip in n steps
unfoldable pub what_slipped : State → List Change → SlipAt → ℕ → Slipped
what_slipped s cs at n = if nat_le n at.step then NotReached else slipped_at at (slipped_run s cs at at.step)

-- ---- a part of the run, without changes
-- one more step, behind n steps
abbrev pub slipped_next : SlipAt → ℕ → Progress → Progress
slipped_next at n p = record { state = step_of at n p.state; steps = steps_after p.state.outcome p.steps }

-- n steps, from the step t on
unfoldable pub slipped_part : SlipAt → Progress → ℕ → ℕ → Progress
slipped_part at p t zero = p
slipped_part at p t (suc n) = slipped_next at (t + n) (slipped_part at p t n)

-- what became of the slip, if its step is one of those from t to u
unfoldable pub what_part : SlipAt → Progress → ℕ → ℕ → Option Slipped
what_part at p t u = if nat_le t at.step && nat_lt at.step u then Some (slipped_at at (slipped_part at p t (at.step - t)).state) else None

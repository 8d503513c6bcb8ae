-- Runs with the number of their steps.
use Rattle.std.specs.Prelude.{ℕ, zero, suc, ◌+◌, ◌-◌, ◌^◌, min}
use Rattle.machine.specs.Step.{Going, Ended, Fired, Trapped, Outcome, State, step}

-- a state, and the number of steps that were made from states that went on
pub record Progress : Type 0 where
  pub state : State
  pub steps : ℕ

-- one more; the greatest number of 64 bits stays
abbrev pub one_more : ℕ → ℕ
one_more n = min (n + 1) (2 ^ 64 - 1)

-- the number of steps after one from a state with the outcome
abbrev pub steps_after : Outcome → ℕ → ℕ
steps_after Going n = one_more n
steps_after Ended n = n
steps_after Fired n = n
steps_after (Trapped c pc) n = n

-- one step
unfoldable pub advanced : Progress → Progress
advanced p = record { state = step p.state; steps = steps_after p.state.outcome p.steps }

-- n steps
unfoldable pub progress : Progress → ℕ → Progress
progress p zero = p
progress p (suc n) = progress (advanced p) n

-- a state before its first step
abbrev pub first_state : State → Progress
first_state s = record { state = s; steps = 0 }

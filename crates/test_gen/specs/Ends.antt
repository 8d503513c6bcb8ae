-- When the run of a generated test ends.
use Rattle.std.specs.Prelude.{◌≡◌, ℕ, ◌+◌, ◌*◌, ◌<◌, ◌≤◌}
use Rattle.machine.specs.declared.outcome.Outcome.TheVariants.{Going, Ended}
use Rattle.machine.specs.Step.{State, run}
use Rattle.machine.specs.Progress.{Progress}
use Rattle.test_gen.specs.Code.{function_count}

-- step n of a run is its ECALL
pub record EndsAfter (s : State) (n : ℕ) : Type 0 where
  pub ends : (run s n).outcome ≡ Ended
  pub going : (k : ℕ) → k < n → (run s k).outcome ≡ Going

-- for n functions: `main` has three words outside of its rounds, and four in each, besides calls of 38 steps each
abbrev pub run_steps : ℕ → ℕ
run_steps n = 3 + 3 * (4 + 38 * n)

-- the steps of the test of a size
unfoldable pub test_steps : ℕ → ℕ
test_steps size = run_steps (function_count size)

-- the run ends after at most n steps
pub record EndsWithin (s : State) (n : ℕ) : Type 0 where
  pub steps : ℕ
  pub within : steps ≤ n
  pub ends : (run s steps).outcome ≡ Ended

-- a run whose steps were counted has ended, after n of them
pub record HasEnded (p : Progress) (n : ℕ) : Type 0 where
  pub outcome : p.state.outcome ≡ Ended
  pub steps : p.steps ≡ n

-- What is kept of an input's run and an output's run: copies of the machine after every 4,096 steps.
use Rattle.std.specs.Prelude.{◌≡◌, ◌≢◌, ℕ, ◌+◌, ◌*◌, ◌/◌, ◌<◌, ◌≤◌, ◌⊎◌, List, length, refl}
use Rattle.std.specs.Coded.{Coded, code_by, coded×, coded_ℕ}
use Rattle.qed_model.specs.declared.bounds.Bounds.{Bounds}
use Rattle.qed_model.specs.contracts.bounds.Bounds as bounds_contract
use Rattle.machine.specs.declared.outcome.Outcome.TheVariants as outcome
use Rattle.machine.specs.Below.{each}
pub use Rattle.machine.specs.Progress.{Progress, progress}
use Rattle.machine.specs.Step.{State, run}
use Rattle.rv_step.specs.Codes.{state_code}

-- ---- copies of a machine
-- the number of steps after which a run stops; 1,000,000 if that is greater or the run never stops
pub record IsReach (start : State) (steps : ℕ) : Type 0 where
  pub within : steps ≤ 1000000
  pub before : (k : ℕ) → k < steps → (run start k).outcome ≡ outcome.Going
  pub ends : ((run start steps).outcome ≢ outcome.Going) ⊎ (steps ≡ 1000000)

-- how many copies there are: one for each 4,096 steps up to `reach`, and one at the start
abbrev pub copies_up_to : ℕ → ℕ
copies_up_to reach = reach / 4096 + 1

-- the state at the start, and up to which step the run is struck: copy i has made 4,096 * i steps more
pub record Copied : Type 0 where
  pub start : State
  pub reach : ℕ

abbrev pub copied_code : Coded Copied
copied_code = code_by (State × ℕ) (coded× state_code coded_ℕ) (λ c. (c.start, c.reach)) (λ p. record { start = p.0; reach = p.1 }) (λ _. refl)

-- the copies behind the first
pub record AreCopies (start : Progress) (reach : ℕ) (later : List Progress) : Type 0 where
  pub is_reach : IsReach start.state reach
  pub count : length later ≡ reach / 4096
  pub there : later ≡ each (length later) (λ i. progress start (4096 * (i + 1)))

-- ---- both runs
-- the states in which both runs begin, the bounds of changes, and up to which step the output is struck
pub record Pair : Type 0 where
  pub input : State
  pub output : State
  pub bounds : Bounds
  pub reach : ℕ

abbrev pub pair_code : Coded Pair
pair_code =
    code_by (State × (State × (Bounds × ℕ))) (coded× state_code (coded× state_code (coded× (bounds_contract.the_row).coded coded_ℕ)))
    (λ p. (p.input, (p.output, (p.bounds, p.reach)))) (λ p. record { input = p.0; output = p.1.0; bounds = p.1.1.0; reach = p.1.1.1 }) (λ _. refl)

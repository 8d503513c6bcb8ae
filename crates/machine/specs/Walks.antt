-- Walks: several steps, with a property of each state on the way.
use Rattle.std.specs.Prelude.{◌≡◌, ℕ, ◌<◌}
use Rattle.machine.specs.Step.{Going, State, Fetched, fetched_at, run}

-- a state that goes on over this code
pub record Over (c : ℕ → Fetched) (s : State) : Type 0 where
  pub going : s.outcome ≡ Going
  pub code : (a : ℕ) → fetched_at s.memory s.ranges a ≡ c a

-- in n steps from s to t, and each state before t has the property
pub record Walk (P : State → Type 0) (s : State) (n : ℕ) (t : State) : Type 0 where
  pub ends : run s n ≡ t
  pub each : (k : ℕ) → k < n → P (run s k)

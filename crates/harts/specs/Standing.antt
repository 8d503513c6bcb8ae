-- How the harts of a world stand together.
use Rattle.std.specs.Prelude.{◌≡◌, ℕ, ◌<◌, Bool, true, false, List, length, slice_get, slice_index, Some}
use Rattle.std.specs.List.{list_any}
use Rattle.machine.specs.declared.outcome.Outcome.{Outcome}
use Rattle.machine.specs.declared.outcome.Outcome.TheVariants.{Fired}
use Rattle.rv_step.specs.Harts.{HartState}
use Rattle.rv_step.specs.Known.{does_step}
use Rattle.harts.specs.Harts.{Hart}
use Rattle.harts.specs.HartSteps.{Counted}

abbrev pub is_fired : Outcome → Bool
is_fired Fired = true
is_fired _ = false

-- some hart of the world has an outcome that passes the test
abbrev pub has_one : (Outcome → Bool) → Counted → Bool
has_one test c = list_any (λ h. test h.outcome) c.world.harts

-- some hart of the list has an outcome that passes the test
abbrev pub stands : (Outcome → Bool) → List HartState → Bool
stands test hs = list_any (λ h. test h.outcome) hs

-- none of the harts that a list names goes on
pub record AreIdle (c : Counted) (harts : List ℕ) : Type 0 where
  pub each : (k : ℕ) (h : Hart) → k < length harts → slice_get c.world.harts (slice_index harts k) ≡ Some h → does_step h.outcome ≡ false

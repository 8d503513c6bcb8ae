-- The outcomes of harts are those of harts with their steps.
use Rattle.std.proofs.Common.{◌≡◌, Bool, List, [], ◌∷◌, map, refl, ap}
use Rattle.std.specs.Prelude.{◌||◌}
use Rattle.std.specs.List.{list_any}
use Rattle.machine.specs.declared.outcome.Outcome.{Outcome}
use Rattle.rv_step.specs.Harts.{HartState}
use Rattle.harts.specs.HartSteps.{bare}
use Rattle.harts.specs.Standing.{stands}

pub any_bare : (test : Outcome → Bool) (hs : List HartState) → stands test hs ≡ list_any (λ h. test h.outcome) (map bare hs)
any_bare test [] = refl
any_bare test (h ∷ hs) = ap (λ b. test h.outcome || b) (any_bare test hs)

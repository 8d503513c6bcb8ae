-- Places that are closed.
use Rattle.std.specs.Prelude.{Bool, false}
use Rattle.machine.specs.declared.place.Place.{Place}
use Rattle.machine.specs.declared.place.Place.TheVariants.{Reg, Word}
use Rattle.machine.specs.Step.{State}
use Rattle.qed_model.specs.Promise.Closed.{is_closed}

-- a place is closed in a state; a word never is
abbrev pub is_closed_place : State → Place → Bool
is_closed_place s (Reg r) = is_closed s r
is_closed_place s (Word a) = false

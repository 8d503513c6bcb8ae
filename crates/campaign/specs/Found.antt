-- What the parts of a strike show: the run without changes, and the run behind the last change.
use Rattle.std.specs.Prelude.{◌≡◌, ℕ, ◌<◌, ◌≤◌, true, List, Option, Some, None, MatchOption, Result, Ok, Err}
use Rattle.machine.specs.declared.outcome.Outcome.TheVariants as outcome
use Rattle.qed_model.specs.declared.verdict.Verdict.TheVariants.{Closed, NotReached, Fired, Ended, Same}
pub use Rattle.machine.specs.Step.{State, run}
use Rattle.campaign.specs.declared.error.StrikeError.{StrikeError}
use Rattle.campaign.specs.declared.error.StrikeError.TheVariants as error
use Rattle.campaign.specs.Verdict.{GoesPast, IsTried, has_closed, StopsAfter, Change, changed_run, last_step, Verdict, Outcome}

-- ---- the run without changes
-- the verdict that the run without changes shows
abbrev pub ShowsUnchanged : State → List Change → Verdict → Type 0
ShowsUnchanged output cs NotReached = ¬ GoesPast output cs
ShowsUnchanged output cs Closed = GoesPast output cs × (has_closed output cs ≡ true)
ShowsUnchanged output cs _ = ⊥

-- ---- the run behind the last change
-- the verdict of a machine that stopped k steps behind the last change; a trap shows nothing
abbrev pub verdict_of : Outcome → ℕ → Option Verdict
verdict_of outcome.Fired k = Some (Fired k)
verdict_of outcome.Ended k = Some (Ended k)
verdict_of _ k = None

-- a state after `made` steps, each from a state that went on
pub record IsOn (state : State) (made : ℕ) (after : State) : Type 0 where
  pub there : after ≡ run state made
  pub before : (k : ℕ) → k < made → (run state k).outcome ≡ outcome.Going

-- the run stops within n steps, in this state
pub record StopsWithin (state : State) (n : ℕ) (after : State) (steps : ℕ) : Type 0 where
  pub within : steps ≤ n
  pub stops : StopsAfter (run state) steps
  pub there : after ≡ run state steps

-- the answer for n steps: after how many the run stops, with the state there; None if it goes on
abbrev pub TellsStop : State → ℕ → State → Option ℕ → Type 0
TellsStop s n after r = MatchOption r ((run s n).outcome ≡ outcome.Going) (StopsWithin s n after)

-- within the bound the run stops, and shows this verdict
pub record Stops (state : State) (b : ℕ) (v : Verdict) : Type 0 where
  pub steps : ℕ
  pub within : steps ≤ b
  pub stops : StopsAfter (run state) steps
  pub shows : verdict_of (run state steps).outcome steps ≡ Some v

-- the run shows no verdict by the end of the bound
pub record IsStill (state : State) (b : ℕ) : Type 0 where
  pub shows_none : verdict_of (run state b).outcome 0 ≡ None

-- the changes are made, and the run shows no verdict by the end of the bound
pub record IsSilentAt (output : State) (b : ℕ) (cs : List Change) : Type 0 where
  pub tried : IsTried output cs
  pub still : IsStill (changed_run output cs (last_step cs)) b

-- ---- the input's run
-- the pc of a trap
abbrev pub trap_pc_of : Outcome → Option ℕ
trap_pc_of (outcome.Trapped cause pc) = Some pc
trap_pc_of _ = None

-- the answer when the output shows nothing
abbrev pub input_shows : Option ℕ → Result Verdict StrikeError
input_shows (Some pc) = Err (error.Trapped pc)
input_shows None = Ok Same

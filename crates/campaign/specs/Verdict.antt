-- What changes of an output's run show. Input and output start in a state each; b is the bound of the changes.
use Rattle.std.specs.Prelude.{◌≡◌, ◌≢◌, ℕ, ◌+◌, ◌-◌, ◌<◌, ◌≤◌, Bool, true, false, List, Some, Result, Ok, Err}
use Rattle.std.specs.List.{list_any}
pub use Rattle.qed_model.specs.declared.bounds.Bounds.{Bounds}
pub use Rattle.qed_model.specs.declared.change.Change.{Change}
use Rattle.machine.specs.declared.outcome.Cause.{Cause}
pub use Rattle.machine.specs.declared.outcome.Outcome.{Outcome}
use Rattle.machine.specs.declared.outcome.Outcome.TheVariants as outcome
pub use Rattle.qed_model.specs.declared.verdict.Verdict.{Verdict}
use Rattle.qed_model.specs.declared.verdict.Verdict.TheVariants.{Closed, NotReached, Fired, Ended, Same}
use Rattle.machine.specs.Step.{State, run}
pub use Rattle.qed_model.specs.Promise.Caught.{bound_of}
pub use Rattle.qed_model.specs.Promise.Changed.{changed_run, last_step, Ordered}
pub use Rattle.qed_model.specs.Promise.Kept.{NotTrapped, is_trapped}
pub use Rattle.fault_inject.specs.Closed.{is_closed_place}
use Rattle.campaign.specs.declared.error.StrikeError.{StrikeError}
use Rattle.campaign.specs.declared.error.StrikeError.TheVariants.{Trapped, Memory}

-- ---- the run without changes
-- the run goes on after the step of the last change
abbrev pub GoesPast : State → List Change → Type 0
GoesPast output cs = (run output (last_step cs)).outcome ≡ outcome.Going

-- a place is closed in the run after the step of its change
abbrev pub has_closed : State → List Change → Bool
has_closed output cs = list_any (λ c. is_closed_place (run output c.step) c.place) cs

-- ---- the changed run
-- a run stops after this many steps
pub record StopsAfter (states : ℕ → State) (steps : ℕ) : Type 0 where
  pub stopped : (states steps).outcome ≢ outcome.Going
  pub before : (k : ℕ) → k < steps → (states k).outcome ≡ outcome.Going

-- the run stops within the bound, with this outcome, k steps after the last change; k is 0 if it stops no later
pub record IsFound (output : State) (b : ℕ) (cs : List Change) (how : Outcome) (k : ℕ) : Type 0 where
  pub steps : ℕ
  pub within : steps ≤ last_step cs + b
  pub stops : StopsAfter (changed_run output cs) steps
  pub outcome : (changed_run output cs steps).outcome ≡ how
  pub later : k ≡ steps - last_step cs

-- within the bound no check fires, and the test does not end
pub record IsSilent (output : State) (b : ℕ) (cs : List Change) : Type 0 where
  pub no_check : (k : ℕ) → ¬ IsFound output b cs outcome.Fired k
  pub no_end : (k : ℕ) → ¬ IsFound output b cs outcome.Ended k

-- ---- the answer
-- the input's own run, up to the bound, traps at this pc
pub record TrapsAt (input : State) (b : ℕ) (cs : List Change) (pc : ℕ) : Type 0 where
  pub cause : Cause
  pub trapped : (run input (last_step cs + b)).outcome ≡ outcome.Trapped cause pc

-- the output goes on up to the last change, and each place is open when it is changed
pub record IsTried (output : State) (cs : List Change) : Type 0 where
  pub reached : GoesPast output cs
  pub opened : has_closed output cs ≡ false

-- the answer is the first of these that holds: the output is not reached, a place is closed, a check fires or the test
-- ends, the input traps, or none of them; nothing is said of want of memory
abbrev pub Shows : State → State → ℕ → List Change → Result Verdict StrikeError → Type 0
Shows input output b cs (Ok NotReached) = ¬ GoesPast output cs
Shows input output b cs (Ok Closed) = GoesPast output cs × (has_closed output cs ≡ true)
Shows input output b cs (Ok (Fired k)) = IsTried output cs × IsFound output b cs outcome.Fired k
Shows input output b cs (Ok (Ended k)) = IsTried output cs × IsFound output b cs outcome.Ended k
Shows input output b cs (Err (Trapped pc)) = IsTried output cs × IsSilent output b cs × TrapsAt input b cs pc
Shows input output b cs (Ok Same) = IsTried output cs × IsSilent output b cs × NotTrapped (run input (last_step cs + b))
Shows input output b cs (Err Memory) = Unit {0}

-- the answer, with the bound of these changes
abbrev pub IsVerdict : State → State → Bounds → List Change → Result Verdict StrikeError → Type 0
IsVerdict input output bounds cs result = (b : ℕ) → bound_of bounds cs ≡ Some b → Shows input output b cs result

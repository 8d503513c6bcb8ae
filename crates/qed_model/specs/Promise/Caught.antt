-- A promise on the output's run with changes: within the bound it has fired, has ended, or nothing of them is left.
use Rattle.std.specs.Prelude.{◌≡◌, ℕ, ◌+◌, ◌≤◌, ◌⊎◌, Bool, cond, List, [], ◌∷◌, Option, Some}
use Rattle.qed_model.specs.declared.change.Change.{Change}
use Rattle.qed_model.specs.declared.bounds.Bounds.{Bounds}
use Rattle.machine.specs.declared.outcome.Outcome.TheVariants.{Going, Ended, Fired}
use Rattle.machine.specs.Step.{State}
use Rattle.qed_model.specs.Promise.Kept.{after_output, Steady}
use Rattle.machine.specs.Program.{Program, start, AreStartRegs}
use Rattle.qed_model.specs.Promise.Closed.{IsOpen}
use Rattle.qed_model.specs.Promise.Changed.{changed_run, Ordered, last_step, has_word, IsOriginal, SameOriginal}

-- the bound of a list of changes: that of a register where no place is a word, else that of a word
abbrev pub bound_of : Bounds → List Change → Option ℕ
bound_of bounds cs = cond (has_word cs) bounds.word (Some bounds.register)

-- the bound of a list of early changes, if the form has one
abbrev pub early_bound_of : Bounds → List Change → Option ℕ
early_bound_of bounds cs = cond (has_word cs) bounds.early_word bounds.early_register

-- each place is original, and open in the run without changes after its step
abbrev pub AllOpen : List (ℕ × ℕ) → (ℕ → State) → List Change → Type 0
AllOpen spans unchanged [] = Unit {0}
AllOpen spans unchanged (c ∷ cs) = IsOriginal spans c.place × IsOpen (unchanged c.step) c.place × AllOpen spans unchanged cs

-- two states are equal in every part, and so in all original values
pub record Same (spans : List (ℕ × ℕ)) (u v : State) : Type 0 where
  pub all : u ≡ v
  pub originals : SameOriginal spans u v

-- the changed run has fired, has ended, or is the unchanged run again, by step t + b; the last change was after t steps
pub record Settles (spans : List (ℕ × ℕ)) (t b : ℕ) (changed unchanged : ℕ → State) : Type 0 where
  pub steps : ℕ
  pub within : steps ≤ t + b
  pub settled : ((changed steps).outcome ≡ Fired) ⊎ (((changed steps).outcome ≡ Ended) ⊎ ((t ≤ steps) × Same spans (changed steps) (unchanged steps)))

-- for any registers of the output's start and any changes of open original places, as long as the input's run is steady
pub record Caught (f g : Program) (reached : ℕ → Bool) (spans : List (ℕ × ℕ)) (bounds : Bounds) : Type 0 where
  pub settles : (regs : List ℕ) (cs : List Change) (b : ℕ) →
      AreStartRegs regs → Ordered cs → AllOpen spans (after_output g regs) cs → bound_of bounds cs ≡ Some b →
      Steady f reached (last_step cs + b) → (after_output g regs (last_step cs)).outcome ≡ Going →
      Settles spans (last_step cs) b (changed_run (start g regs) cs) (after_output g regs)

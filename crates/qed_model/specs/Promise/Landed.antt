-- What is promised of jumps that land wrong: an entry that is reached with the signature of another one fires.
use Rattle.std.specs.Prelude.{◌≡◌, ◌≢◌, ℕ, ◌≤◌, ◌⊎◌, Bool, List, [], ◌∷◌}
use Rattle.qed_model.specs.declared.plan.EntryRow.{EntryRow}
use Rattle.machine.specs.declared.outcome.Outcome.TheVariants.{Going, Fired}
use Rattle.machine.specs.Step.{State, moved, run}
use Rattle.qed_model.specs.Promise.Kept.{after_output, Steady}
use Rattle.machine.specs.Program.{Program, AreStartRegs}

-- the input address a has its entry at e
abbrev pub IsEntry : List EntryRow → ℕ → ℕ → Type 0
IsEntry [] a e = ⊥
IsEntry (row ∷ rows) a e = ((row.input ≡ a) × (row.output ≡ e)) ⊎ IsEntry rows a e

-- within `most` steps a check has fired
pub record Fires (most : ℕ) (s : State) : Type 0 where
  pub steps : ℕ
  pub within : steps ≤ most
  pub fired : (run s steps).outcome ≡ Fired

-- another pc alone
abbrev pub placed_at : ℕ → State → State
placed_at pc s = moved s.regs pc s

-- for any registers of the output's start, as long as the input's run is steady: if the output stands at the entry of
-- an address, its state with the pc at the entry of another fires within `most` steps
pub record Landed (most : ℕ) (f g : Program) (reached : ℕ → Bool) (entries : List EntryRow) : Type 0 where
  pub fires :
      (regs : List ℕ) (t a c here there : ℕ) → AreStartRegs regs → Steady f reached t → IsEntry entries a here → IsEntry entries c there → a ≢ c
      → (after_output g regs t).outcome ≡ Going → (after_output g regs t).pc ≡ here → Fires most (placed_at there (after_output g regs t))

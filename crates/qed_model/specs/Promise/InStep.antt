-- Promises on changes, jumps and the end, as long as the input is steady for the steps that the output has made of it.
use Rattle.std.specs.Prelude.{◌≡◌, ◌≢◌, ◌⊎◌, ℕ, ◌+◌, ◌<◌, ◌≤◌, Bool, false, List, Some}
use Rattle.qed_model.specs.declared.bounds.Bounds.{Bounds}
use Rattle.qed_model.specs.declared.change.Change.{Change}
use Rattle.qed_model.specs.declared.plan.EntryRow.{EntryRow}
use Rattle.tests.specs.Admission.DataRanges.{is_in_any}
use Rattle.machine.specs.declared.outcome.Outcome.TheVariants.{Going, Ended, Fired}
use Rattle.machine.specs.Memory.{byte_at}
use Rattle.machine.specs.Program.{Program, start, AreStartRegs}
use Rattle.machine.specs.Step.{State, reg}
use Rattle.qed_model.specs.Promise.Caught.{bound_of, early_bound_of, AllOpen, Same, Caught}
use Rattle.qed_model.specs.Promise.Changed.{changed_run, Ordered, last_step}
use Rattle.qed_model.specs.Promise.Clean.{Clean}
use Rattle.qed_model.specs.Promise.Kept.{after_output, Steady, Kept}
use Rattle.qed_model.specs.Promise.Landed.{IsEntry, Fires, placed_at, Landed}
use Rattle.qed_model.specs.Promise.OwnSteps.{Covers, KeptInStep}

-- ---- what becomes of changes
-- two states are one but for x1 to x13 and the data of the original half
pub record SameBeside (spans : List (ℕ × ℕ)) (u v : State) : Type 0 where
  pub pc : u.pc ≡ v.pc
  pub outcome : u.outcome ≡ v.outcome
  pub regs : (r : ℕ) → 14 ≤ r → reg u r ≡ reg v r
  pub bytes : (q : ℕ) → is_in_any spans q ≡ false → byte_at u.memory q ≡ byte_at v.memory q

-- at its step m a run with changes, the last after t steps, has fired, has ended, or nothing is left of them. If it has
-- ended, so does the run without them at step m, and only x1 to x13 and the data of the original half may be wrong
pub data IsSettled (spans : List (ℕ × ℕ)) (t m : ℕ) (changed unchanged : ℕ → State) : Type 0 where
  fires : (changed m).outcome ≡ Fired → IsSettled spans t m changed unchanged
  ends : (changed m).outcome ≡ Ended → ((k : ℕ) → k ≤ m → (changed k).outcome ≡ (unchanged k).outcome)
      → SameBeside spans (changed m) (unchanged m) → IsSettled spans t m changed unchanged
  gone : t ≤ m → Same spans (changed m) (unchanged m) → IsSettled spans t m changed unchanged

-- it is within b steps behind the last change
pub record SettlesWithin (spans : List (ℕ × ℕ)) (t b : ℕ) (changed unchanged : ℕ → State) : Type 0 where
  pub steps : ℕ
  pub within : steps ≤ t + b
  pub settled : IsSettled spans t steps changed unchanged

-- ---- the promises
-- for any registers of the output's start and any changes of original places that are open
pub record CaughtInStep (f g : Program) (reached : ℕ → Bool) (spans : List (ℕ × ℕ)) (bounds : Bounds) (first bound : ℕ) : Type 0 where
  pub settles : (regs : List ℕ) (cs : List Change) (b : ℕ) →
      AreStartRegs regs → Ordered cs → AllOpen spans (after_output g regs) cs → bound_of bounds cs ≡ Some b →
      Covers f g reached first bound regs (last_step cs + b) → (after_output g regs (last_step cs)).outcome ≡ Going →
      SettlesWithin spans (last_step cs) b (changed_run (start g regs) cs) (after_output g regs)

-- changes behind the last of which the run without them still goes on for their bound settle within the bound of early ones
pub record CaughtEarly (f g : Program) (reached : ℕ → Bool) (spans : List (ℕ × ℕ)) (bounds : Bounds) (first bound : ℕ) : Type 0 where
  pub settles : (regs : List ℕ) (cs : List Change) (b c : ℕ) →
      AreStartRegs regs → Ordered cs → AllOpen spans (after_output g regs) cs → early_bound_of bounds cs ≡ Some b → bound_of bounds cs ≡ Some c →
      Covers f g reached first bound regs (last_step cs + b) → (after_output g regs (last_step cs + c)).outcome ≡ Going →
      SettlesWithin spans (last_step cs) b (changed_run (start g regs) cs) (after_output g regs)

-- if the output stands at the entry of an address, its state with the pc at the entry of another fires within `most`
-- steps. The input is steady for the steps that are made of it, or for t of its own
pub record LandedInStep (most : ℕ) (f g : Program) (reached : ℕ → Bool) (entries : List EntryRow) (first bound : ℕ) : Type 0 where
  pub fires :
      (regs : List ℕ) (t a c here there : ℕ) → AreStartRegs regs → (Covers f g reached first bound regs (t + 1)) ⊎ Steady f reached t
      → IsEntry entries a here → IsEntry entries c there → a ≢ c
      → (after_output g regs t).outcome ≡ Going → (after_output g regs t).pc ≡ here → Fires most (placed_at there (after_output g regs t))

-- if the output first ends after e steps, and the changes leave `last` steps, the changed run has fired after e steps,
-- or has ended with nothing of them left
pub record CleanInStep (f g : Program) (reached : ℕ → Bool) (spans : List (ℕ × ℕ)) (last first bound : ℕ) : Type 0 where
  pub settles : (regs : List ℕ) (cs : List Change) (e : ℕ) →
      AreStartRegs regs → Ordered cs → AllOpen spans (after_output g regs) cs → last_step cs + last ≤ e →
      (after_output g regs e).outcome ≡ Ended → ((k : ℕ) → k < e → (after_output g regs k).outcome ≢ Ended) → Covers f g reached first bound regs e →
      ((changed_run (start g regs) cs e).outcome ≡ Fired)
      ⊎ (((changed_run (start g regs) cs e).outcome ≡ Ended) × Same spans (changed_run (start g regs) cs e) (after_output g regs e))

-- ---- the law: what counts the output's steps follows
pub record PromisesFollow : Type 0 where
  pub kept : (f g : Program) (reached : ℕ → Bool) (distance first bound : ℕ) → KeptInStep f g reached distance first bound → Kept f g reached first bound
  pub caught : (f g : Program) (reached : ℕ → Bool) (spans : List (ℕ × ℕ)) (bounds : Bounds) (first bound : ℕ)
      → CaughtInStep f g reached spans bounds first bound → Caught f g reached spans bounds
  pub landed : (most : ℕ) (f g : Program) (reached : ℕ → Bool) (entries : List EntryRow) (first bound : ℕ)
      → LandedInStep most f g reached entries first bound → Landed most f g reached entries
  pub clean : (f g : Program) (reached : ℕ → Bool) (spans : List (ℕ × ℕ)) (last first bound : ℕ)
      → CleanInStep f g reached spans last first bound → Clean f g reached spans last

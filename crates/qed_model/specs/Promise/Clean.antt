-- What is promised of a test with the sweep: no change, made before the sweep, is silent at its end.
use Rattle.std.specs.Prelude.{◌≡◌, ◌≢◌, ℕ, ◌+◌, ◌<◌, ◌≤◌, ◌⊎◌, Bool, List}
use Rattle.qed_model.specs.declared.change.Change.{Change}
use Rattle.machine.specs.declared.outcome.Outcome.TheVariants.{Ended, Fired}
use Rattle.qed_model.specs.Promise.Kept.{after_output, Steady}
use Rattle.machine.specs.Program.{Program, start, AreStartRegs}
use Rattle.qed_model.specs.Promise.Changed.{changed_run, Ordered, last_step}
use Rattle.qed_model.specs.Promise.Caught.{AllOpen, Same}

-- if the output first ends after e steps, and the changes leave `last` steps, the changed run has fired after e steps,
-- or has ended with nothing of them left
pub record Clean (f g : Program) (reached : ℕ → Bool) (spans : List (ℕ × ℕ)) (last : ℕ) : Type 0 where
  pub settles : (regs : List ℕ) (cs : List Change) (e : ℕ) →
      AreStartRegs regs → Ordered cs → AllOpen spans (after_output g regs) cs → last_step cs + last ≤ e →
      (after_output g regs e).outcome ≡ Ended → ((k : ℕ) → k < e → (after_output g regs k).outcome ≢ Ended) → Steady f reached e →
      ((changed_run (start g regs) cs e).outcome ≡ Fired)
      ⊎ (((changed_run (start g regs) cs e).outcome ≡ Ended) × Same spans (changed_run (start g regs) cs e) (after_output g regs e))

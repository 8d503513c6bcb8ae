-- What is promised if one instruction of a test goes wrong once, also by a store to another place.
use Rattle.std.specs.Prelude.{◌≡◌, ◌≢◌, ◌⊎◌, ℕ, ◌+◌, ◌-◌, ◌<◌, ◌≤◌, Bool, List, Some}
use Rattle.qed_model.specs.declared.bounds.Bounds.{Bounds}
use Rattle.machine.specs.declared.outcome.Outcome.TheVariants.{Going, Ended, Fired}
use Rattle.machine.specs.Memory.{put}
use Rattle.machine.specs.Program.{Program, AreStartRegs}
use Rattle.machine.specs.Step.{State, Ins, Known, next, next_pc, stored, run}
use Rattle.machine.specs.Values.{width_of}
use Rattle.qed_model.specs.Promise.Caught.{Same}
use Rattle.qed_model.specs.Promise.Changed.{IsDataWord}
use Rattle.qed_model.specs.Promise.Faults.{WritesOriginal, StoresOriginal, word_around, GivesAny, StoresAny}
use Rattle.qed_model.specs.Promise.InStep.{SettlesWithin}
use Rattle.qed_model.specs.Promise.Kept.{after_output}
use Rattle.qed_model.specs.Promise.OwnSteps.{Covers}

-- ---- the instructions
-- a store into data words of the original half stores any number into other data words of that half
pub record StoresElsewhere (spans : List (ℕ × ℕ)) (i : Ins) (u v : State) : Type 0 where
  pub store : StoresOriginal spans i u
  pub number : ℕ
  pub at : ℕ
  pub first : IsDataWord spans (word_around at)
  pub last : IsDataWord spans (word_around (at + width_of i.kind - 1))
  pub is : v ≡ stored (put u.memory at (width_of i.kind) number) (next_pc u) u

-- v is the state behind the instruction i of u if it goes wrong once: it gives one of x1 to x13 any number, or stores
-- any number into data words, its own or others, or is skipped
pub data WrongOnce (spans : List (ℕ × ℕ)) (i : Ins) (u v : State) : Type 0 where
  results : WritesOriginal i → GivesAny i u v → WrongOnce spans i u v
  stores : StoresOriginal spans i u → StoresAny i u v → WrongOnce spans i u v
  elsewhere : StoresElsewhere spans i u v → WrongOnce spans i u v

-- ---- the promises
-- wherever the output's run without faults goes on at such a store, with the input as steady as `Covers` asks
pub record PlacesFound (f g : Program) (reached : ℕ → Bool) (spans : List (ℕ × ℕ)) (bounds : Bounds) (first bound : ℕ) : Type 0 where
  pub found :
      (regs : List ℕ) (n b : ℕ) (i : Ins) (v : State) → AreStartRegs regs → (after_output g regs n).outcome ≡ Going → next (after_output g regs n) ≡ Known i
      → StoresElsewhere spans i (after_output g regs n) v → bounds.word ≡ Some b → Covers f g reached first bound regs (n + 1 + b)
      → SettlesWithin spans 0 b (run v) (λ k. after_output g regs (n + 1 + k))

-- if the output first ends after e steps, and the fault leaves `last` steps, the wrong run has fired after e steps, or
-- has ended with nothing of it left
pub record FaultsClean (f g : Program) (reached : ℕ → Bool) (spans : List (ℕ × ℕ)) (last first bound : ℕ) : Type 0 where
  pub settles :
      (regs : List ℕ) (n e : ℕ) (i : Ins) (v : State) → AreStartRegs regs → (after_output g regs n).outcome ≡ Going → next (after_output g regs n) ≡ Known i
      → WrongOnce spans i (after_output g regs n) v → n + 1 + last ≤ e
      → (after_output g regs e).outcome ≡ Ended → ((k : ℕ) → k < e → (after_output g regs k).outcome ≢ Ended) → Covers f g reached first bound regs e
      → ((run v (e - (n + 1))).outcome ≡ Fired) ⊎ (((run v (e - (n + 1))).outcome ≡ Ended) × Same spans (run v (e - (n + 1))) (after_output g regs e))

-- Wrong instructions: once one of the test gives another result or is skipped, or a branch goes the wrong way.
use Rattle.std.specs.Prelude.{◌≡◌, ◌⊎◌, ℕ, ◌+◌, ◌-◌, ◌*◌, ◌/◌, ◌≤◌, Bool, true, false, List, Some}
use Rattle.rv_isa.specs.declared.class.Class.TheVariants as class
use Rattle.rv_isa.specs.declared.profile.TheConstants.{LAST_ORIGINAL}
use Rattle.qed_model.specs.declared.bounds.Bounds.{Bounds}
use Rattle.machine.specs.declared.outcome.Outcome.TheVariants.{Going}
use Rattle.machine.specs.Memory.{put}
use Rattle.machine.specs.Program.{Program, AreStartRegs}
use Rattle.machine.specs.Step.{State, reg, moved, jumped, stored, next_pc, target, place, Known, fetched_at, ebreak, next, run, Ins, class_of, set_reg}
use Rattle.machine.specs.Values.{holds, width_of}
use Rattle.qed_model.specs.Promise.Changed.{IsDataWord}
use Rattle.qed_model.specs.Promise.Closed.{is_checked}
use Rattle.qed_model.specs.Promise.InStep.{SettlesWithin}
use Rattle.qed_model.specs.Promise.Kept.{after_output, is_trapped}
use Rattle.qed_model.specs.Promise.Landed.{Fires}
use Rattle.qed_model.specs.Promise.OwnSteps.{Covers}

-- ---- the instructions
-- it computes or loads a number for one of x1 to x13
pub record WritesOriginal (i : Ins) : Type 0 where
  pub writes : (class_of i.kind ≡ class.Compute) ⊎ (class_of i.kind ≡ class.Load)
  pub some : 1 ≤ i.rd
  pub low : i.rd ≤ LAST_ORIGINAL

-- the aligned word that has a byte
abbrev pub word_around : ℕ → ℕ
word_around q = 8 * (q / 8)

-- in this state it stores into data words of the original half
pub record StoresOriginal (spans : List (ℕ × ℕ)) (i : Ins) (u : State) : Type 0 where
  pub stores : class_of i.kind ≡ class.Store
  pub first : IsDataWord spans (word_around (place i u))
  pub last : IsDataWord spans (word_around (place i u + width_of i.kind - 1))

-- it is a branch on x0 to x13, one of them not x0
pub record IsOwnBranch (i : Ins) : Type 0 where
  pub branch : class_of i.kind ≡ class.Branch
  pub first : i.rs1 ≤ LAST_ORIGINAL
  pub second : i.rs2 ≤ LAST_ORIGINAL
  pub some : 1 ≤ i.rs1 + i.rs2

-- in this state it is such a branch, and behind it stands one on the pairs
pub record IsCheckedBranch (i : Ins) (u : State) : Type 0 where
  pub own : IsOwnBranch i
  pub checked : is_checked (Known i) (fetched_at u.memory u.ranges (next_pc u)) ≡ true

-- ---- what goes wrong
-- the state behind it is as if it had given some number, or as if it had done nothing
pub data GivesAny (i : Ins) (u v : State) : Type 0 where
  gives : (x : ℕ) → v ≡ moved (set_reg i.rd x u.regs) (next_pc u) u → GivesAny i u v
  skips : v ≡ moved u.regs (next_pc u) u → GivesAny i u v

-- a store that stores any number at its place, or is skipped
pub data StoresAny (i : Ins) (u v : State) : Type 0 where
  stores : (x : ℕ) → v ≡ stored (put u.memory (place i u) (width_of i.kind) x) (next_pc u) u → StoresAny i u v
  leaves : v ≡ moved u.regs (next_pc u) u → StoresAny i u v

-- where a branch leads that goes wrong, by whether it should be taken
abbrev pub other_way : Bool → Ins → State → State
other_way true i u = moved u.regs (next_pc u) u
other_way false i u = jumped u.regs (target i u.pc) u

-- the state behind it
abbrev pub misled : Ins → State → State
misled i u = other_way (holds i.kind (reg u i.rs1) (reg u i.rs2)) i u

-- what follows within `most` steps: a check fires; or it is the unchanged run again, since both ways lead to one place;
-- or it traps, where no instruction of the input has its entry
pub data IsTurned (most : ℕ) (v unchanged : State) : Type 0 where
  turns : Fires most v → IsTurned most v unchanged
  joins : run v most ≡ unchanged → IsTurned most v unchanged
  strays : (k : ℕ) → k ≤ most → is_trapped (run v k).outcome ≡ true → IsTurned most v unchanged

-- ---- the promises
-- wherever the output's run without faults goes on at such an instruction, with the input as steady as `Covers` asks
pub record FaultsFound (f g : Program) (reached : ℕ → Bool) (spans : List (ℕ × ℕ)) (bounds : Bounds) (first bound : ℕ) : Type 0 where
  pub results :
      (regs : List ℕ) (n : ℕ) (i : Ins) (v : State) → AreStartRegs regs → (after_output g regs n).outcome ≡ Going
      → next (after_output g regs n) ≡ Known i → WritesOriginal i
      → GivesAny i (after_output g regs n) v → Covers f g reached first bound regs (n + 1 + bounds.register)
      → SettlesWithin spans 0 bounds.register (run v) (λ k. after_output g regs (n + 1 + k))
  pub stores :
      (regs : List ℕ) (n b : ℕ) (i : Ins) (v : State) → AreStartRegs regs → (after_output g regs n).outcome ≡ Going → next (after_output g regs n) ≡ Known i
      → StoresOriginal spans i (after_output g regs n) → StoresAny i (after_output g regs n) v → bounds.word ≡ Some b
      → Covers f g reached first bound regs (n + 1 + b)
      → SettlesWithin spans 0 b (run v) (λ k. after_output g regs (n + 1 + k))
  -- a comparison that goes wrong stands before its EBREAK
  pub comparisons :
      (regs : List ℕ) (n : ℕ) (i : Ins) → (misled i (after_output g regs n)).outcome ≡ Going → next (misled i (after_output g regs n)) ≡ ebreak
      → Fires 1 (misled i (after_output g regs n))
  -- a branch that goes wrong stands before the one that checks it
  pub branches :
      (regs : List ℕ) (n : ℕ) (i : Ins) → AreStartRegs regs → (after_output g regs n).outcome ≡ Going → next (after_output g regs n) ≡ Known i
      → IsCheckedBranch i (after_output g regs n) → Covers f g reached first bound regs (n + 1 + 2) → Fires 2 (misled i (after_output g regs n))

-- where entries test the signature, of each branch on x0 to x13 of the output's run without faults
pub record BranchesFound (most : ℕ) (f g : Program) (reached : ℕ → Bool) (first bound : ℕ) : Type 0 where
  pub found :
      (regs : List ℕ) (n : ℕ) (i : Ins) → AreStartRegs regs → (after_output g regs n).outcome ≡ Going → next (after_output g regs n) ≡ Known i
      → IsOwnBranch i → Covers f g reached first bound regs (n + 1 + most)
      → IsTurned most (misled i (after_output g regs n)) (after_output g regs (n + 1 + most))

-- What is promised of a run in which any one instruction goes wrong once: it does not end silently wrong.
use Rattle.std.specs.Prelude.{◌≡◌, ◌⊎◌, ℕ, ◌+◌, ◌^◌, ◌≤◌, Bool, false, List, Option, Some}
use Rattle.rv_isa.specs.declared.class.Class.{Class}
use Rattle.rv_isa.specs.declared.class.Class.TheVariants as class
use Rattle.machine.specs.declared.outcome.Outcome.TheVariants.{Going, Ended}
use Rattle.machine.specs.Program.{Program, AreStartRegs}
use Rattle.machine.specs.Step.{State, Ins, Known, class_of, next, next_pc, moved, run}
use Rattle.qed_model.specs.declared.bounds.Bounds.{Bounds}
use Rattle.qed_model.specs.Promise.InStep.{SettlesWithin}
use Rattle.qed_model.specs.Promise.Kept.{after_output, is_mapped, Steady}
use Rattle.qed_model.specs.Promise.OwnSteps.{Covers}
use Rattle.lockstep.specs.WrongOnce.{WrongOnce}
use Rattle.lean.specs.Strayed.{Stopped}
use Rattle.lean.specs.Undisturbed.{SlipsDuplicate, SlipsOther, slip_steps, slipped_run, FollowsTo, EndsRight, change_price}

-- its result, if it has one, goes to x0
abbrev pub WritesNothing : Ins → Type 0
WritesNothing i = (class_of i.kind ≡ class.Fence) ⊎ (((class_of i.kind ≡ class.Compute) ⊎ (class_of i.kind ≡ class.Load)) × (i.rd ≡ 0))

-- v is the state behind the instruction i of u if it goes wrong once, by what it writes: the original half, the
-- duplicate half, what else the output has, or nothing
pub data Slips (g : Program) (spans : List (ℕ × ℕ)) (base distance : ℕ) (i : Ins) (u v : State) : Type 0 where
  own : WrongOnce spans i u v → Slips g spans base distance i u v
  duplicates : SlipsDuplicate g base distance i u v → Slips g spans base distance i u v
  others : SlipsOther i u v → Slips g spans base distance i u v
  idles : WritesNothing i → v ≡ moved u.regs (next_pc u) u → Slips g spans base distance i u v

-- the bound of a slip: that of a word if the instruction stores, else that of a register
abbrev pub bound_as : Class → Bounds → Option ℕ
bound_as class.Store bounds = bounds.word
bound_as _ bounds = Some bounds.register

-- what becomes of a run with a slip behind step m. It fires or traps soon. Or it settles within b steps as changes do,
-- so the duplicate half is right. Or it comes to the input's states after 0 to n steps
pub data Settles (f g : Program) (spans : List (ℕ × ℕ)) (regs : List ℕ) (m n b first bound : ℕ) (v : State) : Type 0 where
  stops : Stopped slip_steps v → Settles f g spans regs m n b first bound v
  settles : SettlesWithin spans 0 b (run v) (λ k. after_output g regs (m + 1 + k)) → Settles f g spans regs m n b first bound v
  follows : FollowsTo f n first bound (slipped_run g regs m v) → Settles f g spans regs m n b first bound v

-- wherever the output's run goes on, if the input is as steady as `Covers` asks and no byte from `top` on is mapped
pub record NoSilentSlip (f g : Program) (reached : ℕ → Bool) (spans : List (ℕ × ℕ)) (base distance : ℕ) (bounds : Bounds) (bound ends : ℕ) : Type 0 where
  pub found :
      (regs : List ℕ) (m n b top : ℕ) (i : Ins) (v : State) → AreStartRegs regs → (after_output g regs m).outcome ≡ Going
      → next (after_output g regs m) ≡ Known i
      → Slips g spans base distance i (after_output g regs m) v → bound_as (class_of i.kind) bounds ≡ Some b
      → Covers f g reached bounds.start bounds.piece regs (m + 1 + b)
      → ((q : ℕ) → top ≤ q → is_mapped g q ≡ false) → top + 8 ≤ 2 ^ 64 → Steady f reached n
      → Settles f g spans regs m n b (31 + bound + ends + change_price bound ends top) bound v

-- with the sweep, if the input is steady for ever, a run with a slip that ends has its values, wherever the slip is
pub record NoWrongEnd (f g : Program) (reached : ℕ → Bool) (spans : List (ℕ × ℕ)) (base distance : ℕ) : Type 0 where
  pub right :
      (regs : List ℕ) (m j top : ℕ) (i : Ins) (v : State) → AreStartRegs regs → (after_output g regs m).outcome ≡ Going → next (after_output g regs m) ≡ Known i
      → Slips g spans base distance i (after_output g regs m) v → ((q : ℕ) → top ≤ q → is_mapped g q ≡ false) → top + 8 ≤ 2 ^ 64
      → ((k : ℕ) → Steady f reached k) → (run v j).outcome ≡ Ended → EndsRight f (run v j)

-- What is promised of several harts with one memory: each runs as it runs alone.
use Rattle.std.specs.Prelude.{◌≡◌, ◌≢◌, ℕ, ◌+◌, ◌*◌, ◌^◌, ◌<◌, ◌≤◌, ◌⊎◌, ◌↔◌, Bool, true, List, [], ◌∷◌, slice_get, Some}
use Rattle.machine.specs.declared.outcome.Outcome.TheVariants.{Going, Ended, Fired}
use Rattle.machine.specs.declared.place.Place.{Place}
use Rattle.machine.specs.declared.place.Place.TheVariants.{Reg, Word}
use Rattle.qed_model.specs.declared.change.Change.{Change}
use Rattle.qed_model.specs.declared.bounds.Bounds.{Bounds}
use Rattle.machine.specs.Memory.{wrap, get}
use Rattle.machine.specs.Step.{State}
use Rattle.machine.specs.Program.{Program, start, zeros}
use Rattle.qed_model.specs.Promise.Kept.{is_mapped, after_input, after_output, NotTrapped, Steady, Halves, Kept}
use Rattle.qed_model.specs.Promise.Changed.{changed_run, Ordered, last_step}
use Rattle.qed_model.specs.Promise.Caught.{bound_of, AllOpen, Caught}
use Rattle.harts.specs.Harts.{Hart, HartsWorld, state_of, hart_of, hart_turns, world_after}

-- ---- what is asked
-- hart i runs the file g
abbrev pub IsProgram : List Program → ℕ → Program → Type 0
IsProgram gs i g = slice_get gs i ≡ Some g

-- no file maps a byte at 2^64 or above, and no two map the same byte
pub record AreDisjoint (gs : List Program) : Type 0 where
  pub low : (i : ℕ) (g : Program) → IsProgram gs i g → (q : ℕ) → is_mapped g q ≡ true → q < 2 ^ 64
  pub apart : (i j : ℕ) (g h : Program) → IsProgram gs i g → IsProgram gs j h → i ≢ j → (q : ℕ) → is_mapped g q ≡ true → is_mapped h q ≡ true → ⊥

-- a place is a register, or a word whose bytes the file maps
abbrev pub LiesIn : Program → Place → Type 0
LiesIn g (Reg r) = Unit {0}
LiesIn g (Word a) = (a < 2 ^ 64) × ((k : ℕ) → k < 8 → is_mapped g (wrap (a + k)) ≡ true)

-- each place of a list of changes is a register, or a word whose bytes the file maps
abbrev pub AllLieIn : Program → List Change → Type 0
AllLieIn g [] = Unit {0}
AllLieIn g (c ∷ cs) = LiesIn g c.place × AllLieIn g cs

-- the run that hart i makes alone, with its changes, for as many steps as it made turns
abbrev pub own_run : (ℕ → List Change) → List ℕ → ℕ → Program → State
own_run cs ts i g = changed_run (start g zeros) (cs i) (hart_turns ts i)

-- the files share no byte, each changed word is one of the hart's own file, and no hart is trapped when it runs alone
pub record AreAlone (gs : List Program) (cs : ℕ → List Change) (ts : List ℕ) : Type 0 where
  pub files : AreDisjoint gs
  pub words : (i : ℕ) (g : Program) → IsProgram gs i g → AllLieIn g (cs i)
  pub no_trap : (i : ℕ) (g : Program) → IsProgram gs i g → NotTrapped (own_run cs ts i g)

-- ---- the promise
-- hart i has the state's registers, pc, code ranges and outcome, and each byte that the file maps is that of the state
pub record ShowsHart (g : Program) (i : ℕ) (w : HartsWorld) (s : State) : Type 0 where
  pub hart : slice_get w.harts i ≡ Some (hart_of s)
  pub bytes : (q : ℕ) → is_mapped g q ≡ true → get w.memory q ≡ get s.memory q

-- after any schedule each hart stands as its run alone does
abbrev pub Together : Type 0
Together = (gs : List Program) (cs : ℕ → List Change) (ts : List ℕ)
    → AreAlone gs cs ts → (i : ℕ) (g : Program) → IsProgram gs i g → ShowsHart g i (world_after gs cs ts) (own_run cs ts i g)

-- ---- the promises of a hart
-- hart i with the memory, after a schedule with k turns and these changes of its own, and any changes of other harts
pub record IsSeen (gs : List Program) (i : ℕ) (c : List Change) (k : ℕ) (u : State) : Type 0 where
  pub changes : ℕ → List Change
  pub schedule : List ℕ
  pub alone : AreAlone gs changes schedule
  pub own : changes i ≡ c
  pub turns : hart_turns schedule i ≡ k
  pub hart : Hart
  pub stands : slice_get (world_after gs changes schedule).harts i ≡ Some hart
  pub is : u ≡ state_of hart (world_after gs changes schedule).memory

-- after some turns of its own, within the bound, the hart has the input's values, in every schedule
pub record KeptInTurns (f : Program) (first bound n : ℕ) (seen : ℕ → State → Type 0) : Type 0 where
  pub turns : ℕ
  pub within : turns ≤ first + (n + 1) * bound
  pub halves : (u : State) → seen turns u → Halves f (after_input f n) u
  pub ends : (u : State) → seen turns u → (u.outcome ≡ Ended) ↔ ((after_input f n).outcome ≡ Ended)

-- after m turns no check of the hart has fired, nor has it trapped; if it has ended, so has the input, with its values
pub record QuietInTurns (f : Program) (m : ℕ) (u : State) : Type 0 where
  pub no_check : u.outcome ≢ Fired
  pub no_trap : NotTrapped u
  pub ended : u.outcome ≡ Ended → ((after_input f m).outcome ≡ Ended) × Halves f (after_input f m) u

-- a hart keeps the input's values and raises no false alarm, while the input's run is steady
pub record HartKept (f : Program) (reached : ℕ → Bool) (first bound : ℕ) (seen : ℕ → State → Type 0) : Type 0 where
  pub values : (n : ℕ) → Steady f reached n → KeptInTurns f first bound n seen
  pub quiet : (m : ℕ) (u : State) → Steady f reached m → seen m u → QuietInTurns f m u

-- two states have the same hart, and the same byte wherever the file maps one
pub record SameHart (g : Program) (u v : State) : Type 0 where
  pub hart : hart_of u ≡ hart_of v
  pub bytes : (q : ℕ) → is_mapped g q ≡ true → get u.memory q ≡ get v.memory q

-- after some turns within the bound the hart has fired, or ended, or stands as in each schedule without changes of it
pub record SettlesInTurns (g : Program) (t b : ℕ) (changed unchanged : ℕ → State → Type 0) : Type 0 where
  pub turns : ℕ
  pub within : turns ≤ t + b
  pub settled : ((u : State) → changed turns u → u.outcome ≡ Fired) ⊎ (((u : State) → changed turns u → u.outcome ≡ Ended)
      ⊎ ((t ≤ turns) × ((u v : State) → changed turns u → unchanged turns v → SameHart g u v)))

-- changes of originals that are open in the hart's run without changes settle, while the input's run is steady
pub record HartCaught (f g : Program) (reached : ℕ → Bool) (spans : List (ℕ × ℕ)) (bounds : Bounds) (seen : List Change → ℕ → State → Type 0) : Type 0 where
  pub settles : (cs : List Change) (b : ℕ) →
      Ordered cs → AllOpen spans (after_output g zeros) cs → bound_of bounds cs ≡ Some b →
      Steady f reached (last_step cs + b) → (after_output g zeros (last_step cs)).outcome ≡ Going →
      SettlesInTurns g (last_step cs) b (seen cs) (seen [])

-- if a hart's file is the output of some input, the promises on the output's runs alone hold of the hart, in its own
-- turns, in every schedule
pub record PerHart : Type 0 where
  pub kept : (gs : List Program) (i : ℕ) (f g : Program) (reached : ℕ → Bool) (first bound : ℕ)
      → IsProgram gs i g → Kept f g reached first bound → HartKept f reached first bound (IsSeen gs i [])
  pub caught : (gs : List Program) (i : ℕ) (f g : Program) (reached : ℕ → Bool) (spans : List (ℕ × ℕ)) (bounds : Bounds)
      → IsProgram gs i g → Caught f g reached spans bounds → HartCaught f g reached spans bounds (IsSeen gs i)

-- The world before the first turn, and the effect of a turn and of a change, part by part.
use Rattle.std.specs.Prelude.{◌≡◌, ℕ, true, List, slice_get, slice_set, slice_index, Some, is_some}
use Rattle.std.specs.FinMap.{get}
use Rattle.machine.specs.declared.place.Place.{Place}
use Rattle.machine.specs.Struck.{struck}
use Rattle.machine.specs.Progress.{steps_after}
use Rattle.machine.specs.Step.{step}
use Rattle.machine.specs.Program.{Program, memory_of}
use Rattle.qed_model.specs.Promise.Kept.{is_mapped}
use Rattle.harts.specs.Harts.{Hart, state_of, hart_of, begin_harts}
use Rattle.harts.specs.Together.{IsProgram, AreDisjoint}
use Rattle.harts.specs.HartSteps.{Counted, counted_turn, counted_strike}

-- some file maps the address
pub record IsOfSome (gs : List Program) (q : ℕ) : Type 0 where
  pub number : ℕ
  pub file : Program
  pub stands : IsProgram gs number file
  pub maps : is_mapped file q ≡ true

-- the memory is the union of those that the files start from
pub record IsUnion (gs : List Program) : Type 0 where
  pub cells : (i : ℕ) (g : Program) → IsProgram gs i g → (q : ℕ) → is_mapped g q ≡ true → get (begin_harts gs).memory q ≡ get (memory_of g.segments) q
  pub only : (q : ℕ) → is_some (get (begin_harts gs).memory q) ≡ true → IsOfSome gs q

-- a turn of an existing hart
pub record IsTurned (c : Counted) (i : ℕ) (h : Hart) : Type 0 where
  pub harts : (counted_turn i c).world.harts ≡ slice_set c.world.harts i (hart_of (step (state_of h c.world.memory)))
  pub memory : (counted_turn i c).world.memory ≡ (step (state_of h c.world.memory)).memory
  pub steps : (counted_turn i c).steps ≡ slice_set c.steps i (steps_after h.outcome (slice_index c.steps i))

-- a change of an existing hart
pub record IsHartStruck (c : Counted) (i : ℕ) (p : Place) (x : ℕ) (h : Hart) : Type 0 where
  pub harts : (counted_strike i p x c).world.harts ≡ slice_set c.world.harts i (hart_of (struck p x (state_of h c.world.memory)))
  pub memory : (counted_strike i p x c).world.memory ≡ (struck p x (state_of h c.world.memory)).memory

-- laws of any world
pub record WorldLaws : Type 0 where
  pub starts : (gs : List Program) → AreDisjoint gs → IsUnion gs
  pub turns : (c : Counted) (i : ℕ) (h : Hart) → slice_get c.world.harts i ≡ Some h → IsTurned c i h
  pub strikes : (c : Counted) (i : ℕ) (p : Place) (x : ℕ) (h : Hart) → slice_get c.world.harts i ≡ Some h → IsHartStruck c i p x h

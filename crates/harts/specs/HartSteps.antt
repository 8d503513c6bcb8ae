-- Several harts with one memory, and the number of steps of each: its turns from states that went on.
use Rattle.std.specs.Prelude.{◌≡◌, ℕ, zero, suc, ◌%◌, Bool, length, List, [], ◌∷◌, map, slice_get, slice_set, slice_index, Option, Some, None}
use Rattle.machine.specs.declared.place.Place.{Place}
use Rattle.qed_model.specs.declared.change.Change.{Change}
use Rattle.machine.specs.Memory.{Memory}
use Rattle.machine.specs.Struck.{struck}
use Rattle.qed_model.specs.Promise.Changed.{changed_run}
use Rattle.machine.specs.Progress.{steps_after, first_state, progress}
use Rattle.machine.specs.Step.{State}
use Rattle.machine.specs.Program.{Program, start, zeros}
use Rattle.rv_step.specs.Harts.{HartState}
use Rattle.harts.specs.Harts.{Hart, HartsWorld, state_of, begin_harts, turned, on_hart, hart_turns, world_after}
use Rattle.qed_model.specs.Promise.Kept.{NotTrapped, Kept}
use Rattle.harts.specs.Together.{IsProgram, AreAlone, ShowsHart, own_run, HartKept}

-- ---- all harts
-- a world, and the steps of each hart
pub record Counted : Type 0 where
  pub world : HartsWorld
  pub steps : List ℕ

-- a hart without its steps
abbrev pub bare : HartState → Hart
bare h = record { regs = h.regs; pc = h.pc; ranges = h.ranges; outcome = h.outcome }

-- a world of harts with their steps, and a memory
abbrev pub counted_world : List HartState → Memory → Counted
counted_world hs m = record { world = record { harts = map bare hs; memory = m }; steps = map (λ h. h.steps) hs }

-- the world before the first turn
abbrev pub counted_start : List Program → Counted
counted_start gs = record { world = begin_harts gs; steps = map (λ g. 0) gs }

-- the steps after a turn of hart number i
abbrev pub steps_turned : Option Hart → ℕ → List ℕ → List ℕ
steps_turned None i ns = ns
steps_turned (Some h) i ns = slice_set ns i (steps_after h.outcome (slice_index ns i))

-- a turn of hart i
abbrev pub counted_turn : ℕ → Counted → Counted
counted_turn i c = record { world = turned i c.world; steps = steps_turned (slice_get c.world.harts i) i c.steps }

-- one change of hart i; it does not count as a step
abbrev pub counted_strike : ℕ → Place → ℕ → Counted → Counted
counted_strike i p x c = record { world = on_hart i (struck p x) c.world; steps = c.steps }

-- ---- without changes
-- the world after the turns of a schedule
unfoldable pub counted_turns : Counted → List ℕ → Counted
counted_turns c [] = c
counted_turns c (t ∷ ts) = counted_turn t (counted_turns c ts)

-- the schedule of n turns in which the harts of a list take turns, again and again
unfoldable pub cycled : List ℕ → ℕ → List ℕ
cycled harts zero = []
cycled harts (suc n) = slice_index harts (n % length harts) ∷ cycled harts n

-- ---- with changes
-- the steps of each hart after a schedule
unfoldable pub steps_after_turns : List Program → (ℕ → List Change) → List ℕ → List ℕ
steps_after_turns gs cs [] = map (λ g. 0) gs
steps_after_turns gs cs (t ∷ ts) = steps_turned (slice_get (world_after gs cs ts).harts t) t (steps_after_turns gs cs ts)

-- the world and the steps after a schedule
abbrev pub counted_after : List Program → (ℕ → List Change) → List ℕ → Counted
counted_after gs cs ts = record { world = world_after gs cs ts; steps = steps_after_turns gs cs ts }

-- the steps of a run alone: those from states that go on
unfoldable pub own_steps : State → List Change → ℕ → ℕ
own_steps s cs zero = 0
own_steps s cs (suc n) = steps_after (changed_run s cs n).outcome (own_steps s cs n)

-- ---- what is promised
-- a hart stands as a state does, and has made n steps
pub record ShowsCounted (g : Program) (i : ℕ) (c : Counted) (s : State) (n : ℕ) : Type 0 where
  pub shows : ShowsHart g i c.world s
  pub steps : slice_get c.steps i ≡ Some n

-- after any schedule each hart stands as its run alone does, with as many steps
abbrev pub CountedTogether : Type 0
CountedTogether = (gs : List Program) (cs : ℕ → List Change) (ts : List ℕ) → AreAlone gs cs ts → (i : ℕ) (g : Program) → IsProgram gs i g
    → ShowsCounted g i (counted_after gs cs ts) (own_run cs ts i g) (own_steps (start g zeros) (cs i) (hart_turns ts i))

-- without changes each hart stands as a run of its file does, with as many steps
abbrev pub TurnsRun : Type 0
TurnsRun = (gs : List Program) (ts : List ℕ) → AreAlone gs (λ i. []) ts
    → (i : ℕ) (g : Program) → IsProgram gs i g
    → ShowsCounted g i (counted_turns (counted_start gs) ts)
    (progress (first_state (start g zeros)) (hart_turns ts i)).state (progress (first_state (start g zeros)) (hart_turns ts i)).steps

-- ---- what is promised of a file
-- the state of hart i after turns without changes, k of them its own
pub record StandsAfter (gs : List Program) (ts : List ℕ) (i k : ℕ) (u : State) : Type 0 where
  pub turns : hart_turns ts i ≡ k
  pub hart : Hart
  pub stands : slice_get (counted_turns (counted_start gs) ts).world.harts i ≡ Some hart
  pub is : u ≡ state_of hart (counted_turns (counted_start gs) ts).world.memory

-- if no hart of these turns is trapped when it runs alone, and the file of one is the output of some input, that hart
-- keeps the input's values and raises no false alarm
abbrev pub TurnsKeep : List Program → List ℕ → Type 0
TurnsKeep gs ts =
    ((i : ℕ) (g : Program) → IsProgram gs i g → NotTrapped (own_run (λ i. []) ts i g))
    → (i : ℕ) (f g : Program) (reached : ℕ → Bool) (first bound : ℕ)
    → IsProgram gs i g → Kept f g reached first bound → HartKept f reached first bound (StandsAfter gs ts i)

-- Several harts with one memory. One event is one step of one hart.
use Rattle.std.specs.Prelude.{ℕ, zero, suc, ◌==◌, cond, List, [], ◌∷◌, ◌++◌, map, slice_get, slice_set, Option, Some, None}
use Rattle.machine.specs.declared.outcome.Outcome.{Outcome}
use Rattle.qed_model.specs.declared.change.Change.{Change}
use Rattle.machine.specs.Memory.{Memory}
use Rattle.machine.specs.Step.{State, step}
use Rattle.machine.specs.Program.{Program, LoadSegment, memory_of, start, zeros}
use Rattle.qed_model.specs.Promise.Changed.{with_changes}

-- ---- harts
-- a state without its memory: the registers, the pc, the code ranges, and the outcome
pub record Hart : Type 0 where
  pub regs : List ℕ
  pub pc : ℕ
  pub ranges : List (ℕ × ℕ)
  pub outcome : Outcome

-- a hart and a memory make a state
abbrev pub state_of : Hart → Memory → State
state_of h m = record { regs = h.regs; pc = h.pc; memory = m; ranges = h.ranges; outcome = h.outcome }

-- the hart of a state
abbrev pub hart_of : State → Hart
hart_of s = record { regs = s.regs; pc = s.pc; ranges = s.ranges; outcome = s.outcome }

-- ---- the world
-- the harts by their numbers, and the memory that they share
pub record HartsWorld : Type 0 where
  pub harts : List Hart
  pub memory : Memory

-- a world after a change of the state of hart number i
abbrev pub made_of : Option Hart → ℕ → (State → State) → HartsWorld → HartsWorld
made_of None i f w = w
made_of (Some h) i f w = record { harts = slice_set w.harts i (hart_of (f (state_of h w.memory))); memory = (f (state_of h w.memory)).memory }

-- a world after a change of the state of hart i, if the world has that hart; else the world as it was
unfoldable pub on_hart : ℕ → (State → State) → HartsWorld → HartsWorld
on_hart i f w = made_of (slice_get w.harts i) i f w

-- a turn of hart i is one step of it and the memory
abbrev pub turned : ℕ → HartsWorld → HartsWorld
turned i w = on_hart i step w

-- ---- the start
-- the segments of all files
abbrev pub all_segments : List Program → List LoadSegment
all_segments [] = []
all_segments (g ∷ gs) = g.segments ++ all_segments gs

-- a hart for each file, with all registers 0, and the memory that all headers together describe
abbrev pub begin_harts : List Program → HartsWorld
begin_harts gs = record { harts = map (λ g. hart_of (start g zeros)) gs; memory = memory_of (all_segments gs) }

-- ---- schedules: the turns that were made, the latest first
-- how many turns hart i made
unfoldable pub hart_turns : List ℕ → ℕ → ℕ
hart_turns [] i = 0
hart_turns (t ∷ ts) i = cond (t == i) (suc (hart_turns ts i)) (hart_turns ts i)

-- makes the changes of hart i at step n, in the order of its list; a hart that does not go on is not changed
abbrev pub with_due : (ℕ → List Change) → ℕ → ℕ → HartsWorld → HartsWorld
with_due cs i n w = on_hart i (with_changes (cs i) n) w

-- makes the changes at step 0 of each hart below n
unfoldable pub with_first : (ℕ → List Change) → ℕ → HartsWorld → HartsWorld
with_first cs zero w = w
with_first cs (suc n) w = with_due cs n 0 (with_first cs n w)

-- how many files there are
unfoldable pub count : List Program → ℕ
count [] = 0
count (g ∷ gs) = suc (count gs)

-- the world of these files after a schedule; cs has the changes of each hart. Before the first turn, and after each
-- turn of a hart, its changes whose step is the number of its turns so far are made
unfoldable pub world_after : List Program → (ℕ → List Change) → List ℕ → HartsWorld
world_after gs cs [] = with_first cs (count gs) (begin_harts gs)
world_after gs cs (t ∷ ts) = with_due cs t (suc (hart_turns ts t)) (turned t (world_after gs cs ts))

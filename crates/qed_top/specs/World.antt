-- What `harts` answers.
use Rattle.std.specs.Prelude.{◌≡◌, ◌<◌, ◌≤◌, ℕ, suc, ◌+◌, if◌then◌else◌, List, [], ◌∷◌, ◌++◌, length, Option, None, Some}
pub use Rattle.harts.specs.HartSteps.{Counted, TurnsKeep, counted_start, counted_turns, cycled}
pub use Rattle.harts.specs.Played.{programs}
pub use Rattle.harts.specs.Shared.{AreUnshared, IsLeastShared, AreSound}
use Rattle.qed_model.specs.Promise.Kept.{is_trapped}
use Rattle.rv_step.specs.Known.{does_step}
use Rattle.harts.specs.Standing.{has_one, is_fired}
use Rattle.machine.specs.declared.limits.Limit.TheVariants as limit
use Rattle.machine.specs.Below.{each}
use Rattle.report.specs.World.{shared_line, world_text}
use Rattle.qed_top.specs.Answer.{CallsFor, PrintsOnly, limit_of, limit_line}
use Rattle.qed_top.specs.Loads.{Decided, LoadedFiles, file_bytes}
use Rattle.qed_top.specs.Refused.{ReadOn, ReadOnDecides, ElfFile}
use Rattle.qed_top.specs.Run.{memory_bytes, memory_limit}
use Rattle.qed_top.specs.declared.answer.Answer.{Answer}
use Rattle.qed_top.specs.declared.status.Status.{Status}
use Rattle.qed_top.specs.declared.status.Status.TheVariants.{Done, Refused, Limit, Fired, Trapped, StepsSpent}

-- ---- over the files that were read
-- the memory sizes of all PT_LOAD segments of the files together
abbrev pub bytes_of_files : List ElfFile → ℕ
bytes_of_files [] = 0
bytes_of_files (f ∷ fs) = memory_bytes f.segments + bytes_of_files fs

-- the harts that make the turns; by default each of `count` harts, from 0 upwards
abbrev pub takers : ℕ → Option (List ℕ) → List ℕ
takers count None = each count (λ i. i)
takers count (Some harts) = harts

-- the schedule of `steps` turns of these harts
abbrev pub turns_of : List ElfFile → Option (List ℕ) → ℕ → List ℕ
turns_of fs turns steps = cycled (takers (length fs) turns) steps

-- a hart for each file, after these turns
abbrev pub played : List ElfFile → Option (List ℕ) → ℕ → Counted
played fs turns steps = counted_turns (counted_start (programs fs)) (turns_of fs turns steps)

-- the status of the worst end of a hart
abbrev pub world_status : Counted → Status
world_status c =
    if has_one is_fired c then Fired
    else if has_one is_trapped c then Trapped
    else if has_one does_step c then StepsSpent
    else Done

-- L6: all segments together have too many bytes in memory; H1: two files share a byte; or the harts make their turns,
-- and the promises on each file hold of its hart
pub data Plays (fs : List ElfFile) (turns : Option (List ℕ)) (steps : ℕ) (answer : Answer) : Type 0 where
  too_large : memory_limit < bytes_of_files fs → PrintsOnly Limit (limit_line limit.MemoryBytes (bytes_of_files fs)) answer → Plays fs turns steps answer
  shared :
      (i j : ℕ) → bytes_of_files fs ≤ memory_limit → IsLeastShared (programs fs) i j → PrintsOnly Refused (shared_line i j) answer
      → Plays fs turns steps answer
  told :
      bytes_of_files fs ≤ memory_limit → AreUnshared (programs fs)
      → PrintsOnly (world_status (played fs turns steps)) (world_text (played fs turns steps)) answer
      → TurnsKeep (programs fs) (turns_of fs turns steps) → Plays fs turns steps answer

-- the status, by the facts of the files
pub data PlayDecides (fs : List ElfFile) (turns : Option (List ℕ)) (steps : ℕ) (status : Status) : Type 0 where
  is_too_large : memory_limit < bytes_of_files fs → status ≡ Limit → PlayDecides fs turns steps status
  is_shared : (i j : ℕ) → bytes_of_files fs ≤ memory_limit → IsLeastShared (programs fs) i j → status ≡ Refused → PlayDecides fs turns steps status
  is_told : bytes_of_files fs ≤ memory_limit → AreUnshared (programs fs) → status ≡ world_status (played fs turns steps) → PlayDecides fs turns steps status

-- ---- file by file
-- the loads behind the first
abbrev pub later_loads : LoadedFiles → LoadedFiles
later_loads loads k = loads (suc k)

-- the named files are loaded and read one after another, behind those already read; the answer is that for the first
-- that cannot be loaded or read, or that over all
abbrev pub FilesCallFor : List (List ℕ) → List ElfFile → Option (List ℕ) → ℕ → LoadedFiles → (List ℕ → Type 0) → Answer → Type 0
FilesCallFor [] fs turns steps loads rose answer = Plays fs turns steps answer
FilesCallFor (name ∷ names) fs turns steps loads rose answer =
    CallsFor limit.RunFileBytes (file_bytes (loads 0) name) (rose name)
    (ReadOn (file_bytes (loads 0) name) (λ f. FilesCallFor names (fs ++ f ∷ []) turns steps (later_loads loads) rose answer) answer) answer

-- the status that these files decide
abbrev pub FilesDecide : List (List ℕ) → List ElfFile → Option (List ℕ) → ℕ → LoadedFiles → Status → Type 0
FilesDecide [] fs turns steps loads status = PlayDecides fs turns steps status
FilesDecide (name ∷ names) fs turns steps loads status =
    Decided (limit_of limit.RunFileBytes) (file_bytes (loads 0) name)
    (ReadOnDecides (file_bytes (loads 0) name) (λ f. FilesDecide names (fs ++ f ∷ []) turns steps (later_loads loads) status) status) status

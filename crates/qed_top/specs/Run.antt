-- What `run` answers.
use Rattle.std.specs.Prelude.{◌≡◌, ◌<◌, ◌≤◌, ℕ, ◌+◌, ◌==◌, ◌&&◌, cond, Bool, true, false, List, [], ◌∷◌, Option, None, Some}
use Rattle.std.specs.List.{list_any}
use Rattle.elf_types.specs.Abi.{is_load}
use Rattle.fault_inject.specs.Astray.{first_astray}
use Rattle.fault_inject.specs.Counted.{changed_steps}
use Rattle.fault_inject.specs.Slipped.{slipped_run, slipped_steps, what_slipped}
pub use Rattle.qed_model.specs.declared.change.Change.{Change}
use Rattle.machine.specs.declared.limits.Limit.TheVariants as limit
pub use Rattle.machine.specs.declared.outcome.Outcome.{Outcome}
use Rattle.machine.specs.declared.outcome.Outcome.TheVariants as outcome
pub use Rattle.tests.specs.declared.test.Test.{Test}
use Rattle.tests.specs.Files.File.{IsReadAs}
use Rattle.tests.specs.Admission.Reached.{is_reached}
use Rattle.machine.specs.Loading.{loaded_file, Segment, ElfFile}
use Rattle.machine.specs.Program.{start, zeros}
use Rattle.machine.specs.Progress.{Progress, first_state}
pub use Rattle.tests.specs.Options.{default_options}
use Rattle.qed_model.specs.Promise.Changed.{changed_run}
pub use Rattle.qed_words.specs.declared.orders.Watch.{Watch}
use Rattle.qed_words.specs.declared.orders.Watch.TheVariants as watch
pub use Rattle.qed_words.specs.Text.Run.{jumps_line, slipped_line, run_text}
use Rattle.rv_step.specs.declared.slip.SlipAt.{SlipAt}
use Rattle.qed_top.specs.Answer.{PrintsOnly, limit_of, limit_line}
use Rattle.test_admission.specs.Admit.{IsAdmittedAs}
use Rattle.qed_top.specs.Refused.{IsUnadmitted, IsUnread, ReadOn}
use Rattle.qed_top.specs.declared.answer.Answer.{Answer}
use Rattle.qed_top.specs.declared.status.Status.{Status}
use Rattle.qed_top.specs.declared.status.Status.TheVariants.{Done, Limit, Fired, Trapped, StepsSpent}

-- the memory sizes of the PT_LOAD segments together
abbrev pub memory_bytes : List Segment → ℕ
memory_bytes [] = 0
memory_bytes (s ∷ segments) = cond (is_load s.kind) s.memory 0 + memory_bytes segments

-- the most bytes of memory that can be run
abbrev pub memory_limit : ℕ
memory_limit = limit_of limit.MemoryBytes

-- `steps` steps of a file from all registers 0, with changes
abbrev pub run_of : ElfFile → ℕ → List Change → Progress
run_of file steps changes = record {
  state = changed_run (start (loaded_file file) zeros) changes steps;
  steps = changed_steps (first_state (start (loaded_file file) zeros)) changes steps;
}

-- such a run with a slip
abbrev pub slipped_of : ElfFile → ℕ → List Change → SlipAt → Progress
slipped_of file steps changes at = record {
  state = slipped_run (start (loaded_file file) zeros) changes at steps;
  steps = slipped_steps (first_state (start (loaded_file file) zeros)) changes at steps;
}

-- the run, by what it looks for
abbrev pub ran : Watch → ElfFile → ℕ → List Change → Progress
ran (watch.Slip at) file steps changes = slipped_of file steps changes at
ran _ file steps changes = run_of file steps changes

-- the status that goes with the end of a run
abbrev pub outcome_status : Outcome → Status
outcome_status outcome.Ended = Done
outcome_status outcome.Fired = Fired
outcome_status (outcome.Trapped c pc) = Trapped
outcome_status outcome.Going = StepsSpent

-- L6: the segments of a file have too many bytes in memory
pub record IsAboveMemory (f : ElfFile) (answer : Answer) : Type 0 where
  pub over : memory_limit < memory_bytes f.segments
  pub plain : PrintsOnly Limit (limit_line limit.MemoryBytes (memory_bytes f.segments)) answer

-- the file has too many bytes in memory, or a further property holds
pub data InMemory (f : ElfFile) (Within : Type 0) (answer : Answer) : Type 0 where
  too_large : IsAboveMemory f answer → InMemory f Within answer
  fits : memory_bytes f.segments ≤ memory_limit → Within → InMemory f Within answer

-- the status for a file, by whether it fits into memory
pub data InMemoryDecides (f : ElfFile) (done status : Status) : Type 0 where
  is_too_large : memory_limit < memory_bytes f.segments → status ≡ Limit → InMemoryDecides f done status
  is_within : memory_bytes f.segments ≤ memory_limit → status ≡ done → InMemoryDecides f done status

-- a file has run so, and a second line, which may be empty, is printed too
abbrev pub HasRun : Progress → List ℕ → Option (ℕ × ℕ) → Answer → Type 0
HasRun ended second dump answer = PrintsOnly (outcome_status ended.state.outcome) (run_text ended second dump) answer

abbrev pub FileRuns : ElfFile → Progress → List ℕ → Option (ℕ × ℕ) → Answer → Type 0
FileRuns f ended second dump answer = InMemory f (HasRun ended second dump answer) answer

-- ---- the second line
-- a code word of the test stands at the address, and the address is reached
abbrev pub is_reached_word : ElfFile → Test → ℕ → Bool
is_reached_word f t a = list_any (λ c. (c.at == a) && is_reached f t c.at) t.code

-- the first indirect jump to no reached code word, in `steps` steps of a file with changes, and its target
abbrev pub astray_in_run : ElfFile → Test → ℕ → List Change → Option (ℕ × ℕ)
astray_in_run f t steps changes = first_astray (is_reached_word f t) (start (loaded_file f) zeros) changes steps

-- the text about that jump; empty without a test
abbrev pub jumps_of : ElfFile → Option Test → ℕ → List Change → List ℕ
jumps_of f None steps changes = []
jumps_of f (Some t) steps changes = jumps_line (astray_in_run f t steps changes)

-- by what the run looks for
abbrev pub second_of : Watch → ElfFile → Option Test → ℕ → List Change → List ℕ
second_of watch.Nothing f t steps changes = []
second_of watch.Jumps f t steps changes = jumps_of f t steps changes
second_of (watch.Slip at) f t steps changes = slipped_line (what_slipped (start (loaded_file f) zeros) changes at steps)

-- ---- the answer over the bytes of the file, which are within the limit
-- of any file that is read
abbrev pub Runs : Watch → List ℕ → ℕ → List Change → Option (ℕ × ℕ) → Answer → Type 0
Runs look bytes steps changes dump answer = ReadOn bytes (λ f. FileRuns f (ran look f steps changes) (second_of look f None steps changes) dump answer) answer

-- the file is read, and is a test by the rules of `transform` without options; the text covers its indirect jumps
pub record IsWatched (bytes : List ℕ) (steps : ℕ) (changes : List Change) (dump : Option (ℕ × ℕ)) (answer : Answer) : Type 0 where
  pub file : ElfFile
  pub read : IsReadAs bytes file
  pub test : Test
  pub admitted : IsAdmittedAs file default_options test
  pub runs : FileRuns file (run_of file steps changes) (jumps_line (astray_in_run file test steps changes)) dump answer

-- of `run --reached`; what is not a test is refused as by `transform`
pub data Watches (bytes : List ℕ) (steps : ℕ) (changes : List Change) (dump : Option (ℕ × ℕ)) (answer : Answer) : Type 0 where
  unread_test : IsUnread bytes answer → Watches bytes steps changes dump answer
  no_test : IsUnadmitted bytes default_options answer → Watches bytes steps changes dump answer
  watched : IsWatched bytes steps changes dump answer → Watches bytes steps changes dump answer

abbrev pub RunsAs : Watch → List ℕ → ℕ → List Change → Option (ℕ × ℕ) → Answer → Type 0
RunsAs watch.Jumps bytes steps changes dump answer = Watches bytes steps changes dump answer
RunsAs look bytes steps changes dump answer = Runs look bytes steps changes dump answer

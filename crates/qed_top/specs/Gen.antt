-- What `gen` answers.
use Rattle.std.specs.Prelude.{◌≡◌, ℕ, List, length, IsSomeAnd}
use Rattle.machine.specs.declared.limits.Limit.TheVariants as limit
use Rattle.machine.specs.declared.outcome.Outcome.TheVariants.{Ended}
use Rattle.qed_model.specs.declared.plan.Plan.{Plan}
use Rattle.tests.specs.Files.File.{IsReadAs}
use Rattle.tests.specs.Elf.Layout.{written}
use Rattle.machine.specs.Loading.{loaded_file, ElfFile}
use Rattle.machine.specs.Program.{start, zeros}
use Rattle.machine.specs.Progress.{Progress, first_state, progress}
use Rattle.tests.specs.Options.{default_options}
use Rattle.report.specs.Generated.{generated_line}
use Rattle.test_gen.specs.Code.{code, function_count}
use Rattle.test_gen.specs.Ends.{HasEnded, test_steps}
use Rattle.test_gen.specs.Generated.{generated}
use Rattle.transform.specs.Transform.{HasTooMuchCode}
use Rattle.qed_top.specs.Answer.{PrintsOnly, limit_line}
use Rattle.qed_top.specs.Makes.{IsMade}
use Rattle.qed_top.specs.declared.answer.Answer.{Answer}
use Rattle.qed_top.specs.declared.status.Status.{Status}
use Rattle.qed_top.specs.declared.status.Status.TheVariants.{Done, Limit}

-- the bytes of the test of a seed and a size
abbrev pub test_bytes : ℕ → ℕ → List ℕ
test_bytes seed size = written (generated seed size)

-- the number of words of that test's code
abbrev pub word_number : ℕ → ℕ → ℕ
word_number seed size = length (code seed (function_count size))

-- the most steps of each run
abbrev pub most_steps : ℕ
most_steps = 100000000

-- the run of the file of some bytes from all registers 0
pub record IsRunOf (bytes : List ℕ) (p : Progress) : Type 0 where
  pub file : ElfFile
  pub read : IsReadAs bytes file
  pub run : p ≡ progress (first_state (start (loaded_file file) zeros)) most_steps

-- both runs have ended, the test is stored as OUT, and the line about it, its output's plan and both runs is printed
pub record Generates (output : List ℕ) (seed size : ℕ) (file : List ℕ) (plan : Plan) (answer : Answer) : Type 0 where
  pub own : Progress
  pub own_run : IsRunOf (test_bytes seed size) own
  pub own_ended : HasEnded own (test_steps size)
  pub woven : Progress
  pub woven_run : IsRunOf file woven
  pub woven_ended : woven.state.outcome ≡ Ended
  pub status : answer.status ≡ Done
  pub stored : IsSomeAnd answer.stored (λ s. (s.name ≡ output) × (s.bytes ≡ test_bytes seed size))
  pub text : answer.text ≡ generated_line seed size (word_number seed size) own plan woven

-- L4: the new code of the test would have too many bytes
pub record HasLargeCode (seed size : ℕ) (answer : Answer) : Type 0 where
  pub bytes : ℕ
  pub cause : HasTooMuchCode (test_bytes seed size) default_options limit.CodeBytes bytes
  pub plain : PrintsOnly Limit (limit_line limit.CodeBytes bytes) answer

-- the answer for an output, a seed and a size: the test is never refused, and exceeds no other limit
pub data Gens (output : List ℕ) (seed size : ℕ) (answer : Answer) : Type 0 where
  large_code : HasLargeCode seed size answer → Gens output seed size answer
  generates : IsMade (test_bytes seed size) default_options (Generates output seed size) answer → Gens output seed size answer

-- the status, by the facts of the test
pub data GenDecides (seed size : ℕ) (status : Status) : Type 0 where
  has_large_code : (n : ℕ) → HasTooMuchCode (test_bytes seed size) default_options limit.CodeBytes n → status ≡ Limit → GenDecides seed size status
  has_small_code : ((n : ℕ) → HasTooMuchCode (test_bytes seed size) default_options limit.CodeBytes n → ⊥) → status ≡ Done → GenDecides seed size status

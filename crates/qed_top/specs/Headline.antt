-- The headline: what the top call promises of both files after `transform IN OUT`.
use Rattle.std.specs.Prelude.{◌≡◌, ◌≤◌, ℕ, Bool, List, length, map, Some, Ok, IfSome}
use Rattle.std.specs.FinMap.{insert}
use Rattle.std.specs.Io.KnownBytes.{Appends}
use Rattle.machine.specs.declared.limits.Limit.TheVariants.{FileBytes}
use Rattle.tests.specs.declared.options.Options.{Options}
use Rattle.qed_words.specs.declared.orders.Order.TheVariants.{Transform}
use Rattle.qed_model.specs.declared.plan.Plan.{Plan}
use Rattle.tests.specs.Files.File.{IsReadAs}
use Rattle.machine.specs.Limits.{limit_of}
use Rattle.machine.specs.Loading.{loaded_file, ElfFile}
use Rattle.tests.specs.Admission.DataRanges.{range_of}
use Rattle.tests.specs.Admission.Reached.{AreReached}
use Rattle.qed_model.specs.Weave.Woven.{new_code, IsWithin, IsPlanOf}
use Rattle.qed_model.specs.Weave.Output.{Woven}
use Rattle.qed_words.specs.Text.Plan.{plan_line}
use Rattle.qed_words.specs.Words.{asked}
use Rattle.transform.specs.Transform.{Promised}
use Rattle.qed_top.specs.Ends.{Call, EndsOver, IsComplete}
use Rattle.qed_top.specs.Loads.{LoadedFiles, OverLoads, Files, file_bytes}
use Rattle.qed_top.specs.declared.status.Status.{Status}
use Rattle.qed_top.specs.declared.status.Status.TheVariants.{Done}

-- IN is a test and OUT a program woven from it with these options, both within the limits. The program's run has the
-- test's values after each step of the test, and no check fires. A jump to a wrong entry fires in the form with
-- comparisons, and with `land` in the lean form; there a run that strays into a block is over soon too. In the lean
-- form a run at an entry under another signature is over by the next check. Changes of original registers and of data
-- words are caught; with the sweep none is silent at the end. A wrong branch is caught too. All this holds while the
-- test does not trap, for any reached addresses. If only addresses that the file shows as reached have entries, the
-- test's indirect jumps must lead to these. Bounds, entries and data ranges are those of the woven plan. The line
-- prints the plan's numbers, of its bounds those of a register and of a word.
pub record IsPromised (input : List ℕ) (options : Options) (output line : List ℕ) : Type 0 where
  pub test : ElfFile
  pub program : ElfFile
  pub plan : Plan
  pub reads_test : IsReadAs input test
  pub reads_program : IsReadAs output program
  pub woven : Woven input options output
  pub promises :
      (reached : ℕ → Bool) → AreReached test options reached
      → Promised test (loaded_file program) reached (map range_of plan.span) options woven.file.blocks plan
  pub taken : length input ≤ limit_of FileBytes
  pub within : IsWithin (new_code woven.file.file options woven.file.blocks) woven.out
  pub told : IsPlanOf (new_code woven.file.file options woven.file.blocks) woven.file.file options woven.file.blocks plan
  pub printed : line ≡ plan_line plan

-- OUT was stored, all other files are as they were, and the line was printed
pub record IsDelivered (call : Call) (files : Files) (input output : List ℕ) (options : Options) : Type 0 where
  pub file : List ℕ
  pub line : List ℕ
  pub stored : IfSome call.old (λ old. call.new ≡ Some (insert old output file))
  pub printed : Appends call.was call.now line
  pub promised : IsPromised (file_bytes files input) options file line

-- what holds after `transform IN OUT` with Done
abbrev pub HoldsHeadline : Call → Files → Status → Type 0
HoldsHeadline call files status =
    (input output : List ℕ) (options : Options) → asked call.words ≡ Ok (Transform input output options) → status ≡ Done
    → IsDelivered call files input output options

-- what holds of a call with this status, over these files at its loads: the headline, why the status comes with what
-- was stored and printed, and which status comes without faults
pub record HoldsOver (call : Call) (status : Status) (loads : LoadedFiles) : Type 0 where
  pub headline : HoldsHeadline call (loads 0) status
  pub ends : EndsOver call loads status
  pub complete : IsComplete call loads status

abbrev pub Answers : Call → Status → Type 0
Answers call status = OverLoads call.old (HoldsOver call status)

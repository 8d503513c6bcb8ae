-- A wrong instruction of a woven test is found.
use Rattle.std.specs.Prelude.{◌≡◌, ℕ, Bool, true, List, length}
use Rattle.tests.specs.declared.options.Options.{Options}
use Rattle.qed_model.specs.declared.plan.Plan.{Plan}
use Rattle.tests.specs.Admission.DataRanges.{data_ranges, word_count, ElfFile}
use Rattle.tests.specs.Admission.Reached.{AreReached}
use Rattle.tests.specs.Admission.Places.{image_of}
use Rattle.tests.specs.Elf.FileRead.{file_read}
use Rattle.machine.specs.Loading.{loaded_file}
use Rattle.qed_model.specs.Promise.Faults.{FaultsFound}
use Rattle.qed_model.specs.Weave.Bounds.{end_bound}
use Rattle.qed_model.specs.Weave.Sequences.{Block}
use Rattle.qed_model.specs.Weave.Woven.{compared, woven_file, IsPlanOf}
use Rattle.weave_core.specs.Tests.{IsWovenTest}
use Rattle.lockstep.specs.WrongOnce.{PlacesFound, FaultsClean}

-- of each test that was woven, with the bounds of its plan
abbrev pub InstructionFaultsAreCaught : Type 0
InstructionFaultsAreCaught =
    (f : ElfFile) (o : Options) (blocks : List Block) (words : List ℕ) (plan : Plan) → IsWovenTest f o blocks words
    → IsPlanOf (compared f o blocks) f o blocks plan
    → (reached : ℕ → Bool) → AreReached f o reached
    → FaultsFound (loaded_file f) (loaded_file (file_read (woven_file f o blocks words))) reached
    (data_ranges (image_of f)) plan.bounds plan.bounds.start plan.bounds.piece

-- so is a store to other data words
abbrev pub TestsPlaces : Type 0
TestsPlaces =
    (f : ElfFile) (o : Options) (blocks : List Block) (words : List ℕ) (plan : Plan) → IsWovenTest f o blocks words
    → IsPlanOf (compared f o blocks) f o blocks plan
    → (reached : ℕ → Bool) → AreReached f o reached
    → PlacesFound (loaded_file f) (loaded_file (file_read (woven_file f o blocks words))) reached
    (data_ranges (image_of f)) plan.bounds plan.bounds.start plan.bounds.piece

-- with the sweep none of these is silent at the end
abbrev pub TestsFaultsClean : Type 0
TestsFaultsClean =
    (f : ElfFile) (o : Options) (blocks : List Block) (words : List ℕ)
    → IsWovenTest f o blocks words → o.sweep ≡ true → (reached : ℕ → Bool) → AreReached f o reached
    → FaultsClean (loaded_file f) (loaded_file (file_read (woven_file f o blocks words))) reached (data_ranges (image_of f))
    (end_bound true (length (data_ranges (image_of f))) (word_count (data_ranges (image_of f))))
    (compared f o blocks).bounds.start (compared f o blocks).bounds.piece

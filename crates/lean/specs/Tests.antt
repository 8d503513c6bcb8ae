-- The lean form of a test: its words and its file, and the promises over them.
use Rattle.std.specs.Prelude.{◌≡◌, ℕ, ◌+◌, ◌^◌, ◌<◌, ◌≤◌, Bool, true, false, Some, List, length, slice_index}
use Rattle.elf_types.specs.declared.output.OutFile.{OutFile}
use Rattle.machine.specs.declared.limits.Limit.TheVariants as limit
use Rattle.machine.specs.Limits.{limit_of}
use Rattle.machine.specs.declared.limits.TheConstants.{MAX_NEAR_CODE_BYTES}
use Rattle.machine.specs.Numbers.{bytes_of}
use Rattle.tests.specs.Admission.DataRanges.{data_ranges, ElfFile}
use Rattle.tests.specs.Admission.Reached.{AreReached}
use Rattle.tests.specs.Admission.Refusals.{IsAdmitted}
use Rattle.tests.specs.Elf.FileRead.{file_read}
use Rattle.tests.specs.Elf.Layout.{written, IsWritable}
use Rattle.tests.specs.Elf.Sound.{IsSound}
use Rattle.machine.specs.Loading.{loaded_file}
use Rattle.qed_model.specs.Promise.InStep.{CaughtInStep, CaughtEarly, CleanInStep, LandedInStep}
use Rattle.qed_model.specs.Promise.OwnSteps.{KeptInStep}
use Rattle.qed_model.specs.Weave.Blocks.{AreBlocks, Options}
use Rattle.qed_model.specs.Weave.OutputFile.{file_of}
use Rattle.qed_model.specs.Weave.Placed.{Decode, sum_of_sizes, rows_from, placed}
use Rattle.qed_model.specs.Weave.SoundOptions.{AreSoundOptions}
use Rattle.tests.specs.Admission.Places.{base_of, image_of, half_of, code_place}
use Rattle.qed_model.specs.Weave.Sequences.{Block}
use Rattle.qed_model.specs.Weave.LeanCode.{lean_items}
use Rattle.qed_model.specs.Weave.LeanBounds.{lean_bounds}
use Rattle.weave_core.specs.Leaving.{sweep_cost}
use Rattle.qed_model.specs.Promise.Faults.{FaultsFound}
use Rattle.lean.specs.Strayed.{Strayed, Displaced, Adrift, code_in, entry_in}
use Rattle.lean.specs.Undisturbed.{Undisturbed, undisturbed_piece, undisturbed_ends}
use Rattle.lockstep.specs.WrongOnce.{PlacesFound, FaultsClean}
use Rattle.lean.specs.Slips.{NoSilentSlip, NoWrongEnd}

-- ---- the test
-- the file is admitted, with sound options of the lean form, and these are its blocks
pub record AreLeanBlocks (f : ElfFile) (o : Options) (every : ℕ) (blocks : List Block) : Type 0 where
  pub file : IsSound f
  pub sound : AreSoundOptions o
  pub admitted : IsAdmitted f o
  pub lean : o.lean ≡ Some every
  pub are : AreBlocks f o blocks

-- the words decode to the items in their places, which have no more bytes than a JAL spans
pub record IsLeanTest (f : ElfFile) (o : Options) (every : ℕ) (blocks : List Block) (words : List ℕ) : Type 0 where
  pub cut : AreLeanBlocks f o every blocks
  pub size : sum_of_sizes false (lean_items f o every blocks) ≤ MAX_NEAR_CODE_BYTES
  pub small : (k : ℕ) → slice_index words k < 2 ^ 32
  pub code : Decode words (placed false (code_place o.half (image_of f)) (lean_items f o every blocks))

-- the output of the form, which always has a table
abbrev pub lean_file : ElfFile → Options → ℕ → List Block → List ℕ → OutFile
lean_file f o every blocks words = file_of f o.half true (rows_from false (code_place o.half (image_of f)) (lean_items f o every blocks)) (bytes_of words)

-- ---- the laws
-- items of at most `MAX_NEAR_CODE_BYTES` have words
abbrev pub LeanTestsHaveWords : Type 0
LeanTestsHaveWords =
    (f : ElfFile) (o : Options) (every : ℕ) (blocks : List Block) → AreLeanBlocks f o every blocks
    → sum_of_sizes false (lean_items f o every blocks) ≤ MAX_NEAR_CODE_BYTES
    → (words : List ℕ) × IsLeanTest f o every blocks words

-- within the limits the output can be written
abbrev pub LeanTestsWritable : Type 0
LeanTestsWritable =
    (f : ElfFile) (o : Options) (every : ℕ) (blocks : List Block) (words : List ℕ) → IsLeanTest f o every blocks words
    → length (lean_file f o every blocks words).segments ≤ limit_of limit.OutputSegments
    → length (written (lean_file f o every blocks words)) ≤ limit_of limit.OutputBytes
    → IsWritable (lean_file f o every blocks words)

-- the output comes to the input's states in their order, with its values
abbrev pub LeanTestsKept : Type 0
LeanTestsKept =
    (f : ElfFile) (o : Options) (every : ℕ) (blocks : List Block) (words : List ℕ)
    → IsLeanTest f o every blocks words → (reached : ℕ → Bool) → AreReached f o reached
    → KeptInStep (loaded_file f) (loaded_file (file_read (lean_file f o every blocks words))) reached (half_of o.half (image_of f))
    (lean_bounds f o every).start (lean_bounds f o every).piece

-- changes are caught
abbrev pub LeanTestsCaught : Type 0
LeanTestsCaught =
    (f : ElfFile) (o : Options) (every : ℕ) (blocks : List Block) (words : List ℕ)
    → IsLeanTest f o every blocks words → (reached : ℕ → Bool) → AreReached f o reached
    → CaughtInStep (loaded_file f) (loaded_file (file_read (lean_file f o every blocks words))) reached (data_ranges (image_of f))
    (lean_bounds f o every) (lean_bounds f o every).start (lean_bounds f o every).piece

-- early ones within their own bounds
abbrev pub LeanTestsCaughtEarly : Type 0
LeanTestsCaughtEarly =
    (f : ElfFile) (o : Options) (every : ℕ) (blocks : List Block) (words : List ℕ)
    → IsLeanTest f o every blocks words → (reached : ℕ → Bool) → AreReached f o reached
    → CaughtEarly (loaded_file f) (loaded_file (file_read (lean_file f o every blocks words))) reached (data_ranges (image_of f))
    (lean_bounds f o every) (lean_bounds f o every).start (lean_bounds f o every).piece

-- a wrong result of an instruction is caught
abbrev pub LeanTestsFaults : Type 0
LeanTestsFaults =
    (f : ElfFile) (o : Options) (every : ℕ) (blocks : List Block) (words : List ℕ)
    → IsLeanTest f o every blocks words → (reached : ℕ → Bool) → AreReached f o reached
    → FaultsFound (loaded_file f) (loaded_file (file_read (lean_file f o every blocks words))) reached (data_ranges (image_of f))
    (lean_bounds f o every) (lean_bounds f o every).start (lean_bounds f o every).piece

-- where entries test the signature, jumps land
abbrev pub LeanTestsLanded : Type 0
LeanTestsLanded =
    (f : ElfFile) (o : Options) (every : ℕ) (blocks : List Block) (words : List ℕ)
    → IsLeanTest f o every blocks words → o.land ≡ true → (reached : ℕ → Bool) → AreReached f o reached
    → LandedInStep 4 (loaded_file f) (loaded_file (file_read (lean_file f o every blocks words))) reached
    (rows_from false (code_place o.half (image_of f)) (lean_items f o every blocks)) (lean_bounds f o every).start (lean_bounds f o every).piece

-- with `land`, if the code of a block runs under the signature of another one, the run is over soon
abbrev pub LeanTestsStrayed : Type 0
LeanTestsStrayed =
    (f : ElfFile) (o : Options) (every : ℕ) (blocks : List Block) (words : List ℕ) → IsLeanTest f o every blocks words → o.land ≡ true
    → Strayed (loaded_file (file_read (lean_file f o every blocks words))) (code_in f o every blocks) (entry_in f o every blocks) blocks

-- a run at or in a block under the signature of another one is over
abbrev pub LeanTestsDisplaced : Type 0
LeanTestsDisplaced =
    (f : ElfFile) (o : Options) (every : ℕ) (blocks : List Block) (words : List ℕ) → IsLeanTest f o every blocks words
    → Displaced (loaded_file (file_read (lean_file f o every blocks words))) (code_in f o every blocks) (entry_in f o every blocks) blocks

-- one with another number in x14 is too
abbrev pub LeanTestsAdrift : Type 0
LeanTestsAdrift =
    (f : ElfFile) (o : Options) (every : ℕ) (blocks : List Block) (words : List ℕ) → IsLeanTest f o every blocks words
    → Adrift (loaded_file (file_read (lean_file f o every blocks words))) (code_in f o every blocks) (half_of o.half (image_of f))
    (entry_in f o every blocks) blocks

-- the duplicate half does not reach the original half
abbrev pub LeanTestsUndisturbed : Type 0
LeanTestsUndisturbed =
    (f : ElfFile) (o : Options) (every : ℕ) (blocks : List Block) (words : List ℕ)
    → IsLeanTest f o every blocks words → (reached : ℕ → Bool) → AreReached f o reached
    → Undisturbed (loaded_file f) (loaded_file (file_read (lean_file f o every blocks words))) reached (base_of (image_of f)) (half_of o.half (image_of f))
    (entry_in f o every blocks) blocks
    (undisturbed_piece o.land (length (data_ranges (image_of f))) o.round) (undisturbed_ends (data_ranges (image_of f)))

-- no single wrong instruction ends silently wrong
abbrev pub LeanTestsNoSilentSlip : Type 0
LeanTestsNoSilentSlip =
    (f : ElfFile) (o : Options) (every : ℕ) (blocks : List Block) (words : List ℕ)
    → IsLeanTest f o every blocks words → (reached : ℕ → Bool) → AreReached f o reached
    → NoSilentSlip (loaded_file f) (loaded_file (file_read (lean_file f o every blocks words))) reached (data_ranges (image_of f)) (base_of (image_of f))
    (half_of o.half (image_of f))
    (lean_bounds f o every) (undisturbed_piece o.land (length (data_ranges (image_of f))) o.round) (undisturbed_ends (data_ranges (image_of f)))

-- a store to other data words is caught
abbrev pub LeanTestsPlaces : Type 0
LeanTestsPlaces =
    (f : ElfFile) (o : Options) (every : ℕ) (blocks : List Block) (words : List ℕ)
    → IsLeanTest f o every blocks words → (reached : ℕ → Bool) → AreReached f o reached
    → PlacesFound (loaded_file f) (loaded_file (file_read (lean_file f o every blocks words))) reached (data_ranges (image_of f))
    (lean_bounds f o every) (lean_bounds f o every).start (lean_bounds f o every).piece

-- with the sweep no wrong instruction of the test before it is silent at the end
abbrev pub LeanTestsFaultsClean : Type 0
LeanTestsFaultsClean =
    (f : ElfFile) (o : Options) (every : ℕ) (blocks : List Block) (words : List ℕ)
    → IsLeanTest f o every blocks words → o.sweep ≡ true → (reached : ℕ → Bool) → AreReached f o reached
    → FaultsClean (loaded_file f) (loaded_file (file_read (lean_file f o every blocks words))) reached (data_ranges (image_of f))
    (sweep_cost (data_ranges (image_of f)) + 14) (lean_bounds f o every).start (lean_bounds f o every).piece

-- with the sweep no run with a wrong instruction ends wrong
abbrev pub LeanTestsNoWrongEnd : Type 0
LeanTestsNoWrongEnd =
    (f : ElfFile) (o : Options) (every : ℕ) (blocks : List Block) (words : List ℕ)
    → IsLeanTest f o every blocks words → o.sweep ≡ true → (reached : ℕ → Bool) → AreReached f o reached
    → NoWrongEnd (loaded_file f) (loaded_file (file_read (lean_file f o every blocks words))) reached (data_ranges (image_of f)) (base_of (image_of f))
    (half_of o.half (image_of f))

-- with the sweep no change before it is silent at the end
abbrev pub LeanTestsClean : Type 0
LeanTestsClean =
    (f : ElfFile) (o : Options) (every : ℕ) (blocks : List Block) (words : List ℕ)
    → IsLeanTest f o every blocks words → o.sweep ≡ true → (reached : ℕ → Bool) → AreReached f o reached
    → CleanInStep (loaded_file f) (loaded_file (file_read (lean_file f o every blocks words))) reached (data_ranges (image_of f))
    (sweep_cost (data_ranges (image_of f)) + 14) (lean_bounds f o every).start (lean_bounds f o every).piece

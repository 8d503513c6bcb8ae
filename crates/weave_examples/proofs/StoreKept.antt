-- The promises hold of a known file, a test with a data word: all their premises are met.
use Rattle.std.proofs.Common.{ℕ, true, false, List, refl, arith}
use Rattle.tests.specs.Elf.FileRead.{file_read}
use Rattle.machine.specs.Loading.{loaded_file}
use Rattle.machine.specs.Program.{Program}
use Rattle.qed_model.specs.Promise.Kept.{any_address}
use Rattle.qed_model.specs.Promise.InStep.{LandedInStep}
use Rattle.qed_model.specs.Promise.OwnSteps.{KeptInStep}
use Rattle.qed_model.specs.Weave.Woven.{woven_file}
use Rattle.qed_model.proofs.Lemmas.{defaults, swept, sound, any_reached}
use Rattle.weave_examples.proofs.KnownFiles.{store, store_sound}
use Rattle.weave_examples.proofs.StoreExample.{store_plan, store_told, store_admitted, store_swept_admitted, store_blocks, store_are}
use Rattle.weave_core.specs.Tests.{IsWovenTest}
use Rattle.weave_core.proofs.Lemmas.{tests_have_words, tests_kept, tests_landed}

-- its new code has words, without the sweep and with it
pub store_words : (words : List ℕ) × IsWovenTest store defaults store_blocks words
store_words = tests_have_words store defaults store_blocks store_sound (sound false) store_admitted (store_are false) (omega arith)

pub swept_words : (words : List ℕ) × IsWovenTest store swept store_blocks words
swept_words = tests_have_words store swept store_blocks store_sound (sound true) store_swept_admitted (store_are true) (omega arith)

-- ---- the input and the output when loaded
abbrev pub store_input : Program
store_input = loaded_file store

abbrev pub store_output : Program
store_output = loaded_file (file_read (woven_file store defaults store_blocks store_words.0))

abbrev pub swept_output : Program
swept_output = loaded_file (file_read (woven_file store swept store_blocks swept_words.0))

-- ---- the promises
-- the values are kept: 32 steps come first, and 120 are those of a piece
pub store_kept : KeptInStep store_input store_output any_address 0x11000 32 120
store_kept = tests_kept store defaults store_blocks store_words.0 store_plan store_words.1 store_told any_address (any_reached store defaults refl)

-- a jump to a wrong entry fires
pub store_landed : LandedInStep 4 store_input store_output any_address store_plan.entries 32 120
store_landed = tests_landed store defaults store_blocks store_words.0 store_words.1 any_address (any_reached store defaults refl)

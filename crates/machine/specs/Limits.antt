-- The limits of what is read, woven, written and run (this project's profile).
use Rattle.std.specs.Prelude.{ℕ, Bool, true, false}
use Rattle.machine.specs.declared.limits.Limit.{Limit}
use Rattle.machine.specs.declared.limits.Limit.TheVariants.{FileBytes, RunFileBytes, ImageSpan, CodeWords, CodeBytes, Sections, MemoryBytes, TopAddress}
use Rattle.machine.specs.declared.limits.Limit.TheVariants.{OutputSegments, OutputBytes, CountedBytes, LeanBytes}
use Rattle.machine.specs.declared.limits.TheConstants.{MAX_FILE_BYTES, MAX_RUN_FILE_BYTES, MAX_IMAGE_SPAN, MAX_CODE_WORDS, MAX_CODE_BYTES, MAX_SECTIONS}
use Rattle.machine.specs.declared.limits.TheConstants.{MAX_MEMORY_BYTES, MAX_TOP_ADDRESS, MAX_OUTPUT_SEGMENTS, MAX_OUTPUT_BYTES, MAX_COUNTED_BYTES}
use Rattle.machine.specs.declared.limits.TheConstants.{MAX_NEAR_CODE_BYTES}

-- the greatest number that is taken
abbrev pub limit_of : Limit → ℕ
limit_of FileBytes = MAX_FILE_BYTES
limit_of RunFileBytes = MAX_RUN_FILE_BYTES
limit_of ImageSpan = MAX_IMAGE_SPAN
limit_of CodeWords = MAX_CODE_WORDS
limit_of CodeBytes = MAX_CODE_BYTES
limit_of Sections = MAX_SECTIONS
limit_of MemoryBytes = MAX_MEMORY_BYTES
limit_of TopAddress = MAX_TOP_ADDRESS
limit_of OutputSegments = MAX_OUTPUT_SEGMENTS
limit_of OutputBytes = MAX_OUTPUT_BYTES
limit_of CountedBytes = MAX_COUNTED_BYTES
limit_of LeanBytes = MAX_NEAR_CODE_BYTES

-- the number in its printed name
abbrev pub limit_number : Limit → ℕ
limit_number FileBytes = 1
limit_number RunFileBytes = 1
limit_number ImageSpan = 2
limit_number CodeWords = 3
limit_number CodeBytes = 4
limit_number Sections = 5
limit_number MemoryBytes = 6
limit_number TopAddress = 7
limit_number OutputSegments = 8
limit_number OutputBytes = 9
limit_number CountedBytes = 10
limit_number LeanBytes = 11

-- whether the counted number is printed: nobody counts the bytes of a file that is too long to be loaded
abbrev pub is_counted : Limit → Bool
is_counted FileBytes = false
is_counted RunFileBytes = false
is_counted _ = true

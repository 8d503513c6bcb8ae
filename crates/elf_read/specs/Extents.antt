-- Where segments stand in memory.
use Rattle.std.specs.Prelude.{◌≡◌, ℕ, ◌+◌, ◌<◌, ◌≤◌, ◌&&◌, nat_lt, Bool, true, List, length, slice_index_or, Contains}
use Rattle.elf_types.specs.declared.records.ProgramHeader.{ProgramHeader}
use Rattle.elf_types.specs.Abi.{is_load}
use Rattle.tests.specs.Files.Fields.{program_header}
use Rattle.elf_read.specs.declared.extents.Extent.{Extent}

-- a segment that is loaded and has memory
abbrev pub has_memory : ProgramHeader → Bool
has_memory p = is_load p.kind && nat_lt 0 p.memsz

-- the addresses of a segment
abbrev pub extent_of : List ℕ → ℕ → Extent
extent_of file i = record { number = i; start = (program_header file i).vaddr; end = (program_header file i).vaddr + (program_header file i).memsz }

-- each segment below number n that has memory is among the extents
pub record HasExtents (file : List ℕ) (n : ℕ) (xs : List Extent) : Type 0 where
  pub each : (i : ℕ) → i < n → has_memory (program_header file i) ≡ true → Contains xs (extent_of file i)

-- no extent with a number below m begins before one in front of it ends
pub record IsClearInFront (xs : List Extent) (m : ℕ) : Type 0 where
  pub clear : (k l : ℕ) (d : Extent) → k < l → l < length xs → (slice_index_or xs l d).start < (slice_index_or xs k d).end → m ≤ (slice_index_or xs l d).number

-- no extent with a number below m ends behind the start of the next
pub record IsClearBehind (xs : List Extent) (m : ℕ) : Type 0 where
  pub clear : (k : ℕ) (d : Extent) → k + 1 < length xs → (slice_index_or xs (k + 1) d).start < (slice_index_or xs k d).end → m ≤ (slice_index_or xs k d).number

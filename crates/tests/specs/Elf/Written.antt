-- Fields, program headers and segments as they are written (ELF gABI).
use Rattle.std.specs.Prelude.{ℕ, ◌+◌, ◌-◌, ◌%◌, List, [], ◌∷◌, ◌++◌, length, replicate}
use Rattle.rv_isa.specs.declared.profile.TheConstants.{PAGE}
use Rattle.elf_types.specs.declared.file.Segment.{Segment}
use Rattle.machine.specs.Numbers.{number_bytes}

-- fields one after the other, each by its size in bytes and its value
abbrev pub fields_bytes : List (ℕ × ℕ) → List ℕ
fields_bytes [] = []
fields_bytes (field ∷ fields) = number_bytes field.0 field.1 ++ fields_bytes fields

-- type, flags, offset, vaddr, paddr, filesz, memsz, align
abbrev pub program_fields : Segment → ℕ → List (ℕ × ℕ)
program_fields s offset =
    (4, s.kind) ∷ (4, s.flags) ∷ (8, offset) ∷ (8, s.address) ∷ (8, s.address) ∷ (8, length s.bytes) ∷ (8, s.memory) ∷ (8, PAGE) ∷ []

-- the least offset from `at` on that equals the address modulo a page
abbrev pub offset_from : ℕ → ℕ → ℕ
offset_from at address = at + (address % PAGE + PAGE - at % PAGE) % PAGE

-- the end of segments whose bytes are sought from the offset `at` on
abbrev pub end_from : ℕ → List Segment → ℕ
end_from at [] = at
end_from at (s ∷ segments) = end_from (offset_from at s.address + length s.bytes) segments

-- the program headers of segments
abbrev pub program_headers : ℕ → List Segment → List ℕ
program_headers at [] = []
program_headers at (s ∷ segments) =
    fields_bytes (program_fields s (offset_from at s.address)) ++ program_headers (offset_from at s.address + length s.bytes) segments

-- the bytes of segments, with zeros between them
abbrev pub segments_bytes : ℕ → List Segment → List ℕ
segments_bytes at [] = []
segments_bytes at (s ∷ segments) =
    replicate (offset_from at s.address - at) 0 ++ (s.bytes ++ segments_bytes (offset_from at s.address + length s.bytes) segments)

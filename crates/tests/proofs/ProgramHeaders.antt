-- The sizes of program headers, and where the bytes of segments end.
use Rattle.std.proofs.Common.{◌≡◌, ℕ, ◌+◌, ◌*◌, List, [], ◌∷◌, length, refl, ◌∙◌, arith, length-append}
use Rattle.std.proofs.lemmas.List.{length-replicate}
use Rattle.elf_types.specs.declared.file.Segment.{Segment}
use Rattle.tests.specs.Elf.Written.{fields_bytes, program_fields, offset_from, end_from, program_headers, segments_bytes}
use Rattle.tests.proofs.Fields.{length-fields_bytes}

-- a program header has 56 bytes
pub length-program : (s : Segment) (offset : ℕ) → length (fields_bytes (program_fields s offset)) ≡ 56
length-program s offset = length-fields_bytes (program_fields s offset)

-- each segment has one program header
pub length-program_headers : (at : ℕ) (segments : List Segment) → length (program_headers at segments) ≡ 56 * length segments
length-program_headers at [] = refl
length-program_headers at (s ∷ segments) =
    let next = offset_from at s.address + length s.bytes in
    length-append (fields_bytes (program_fields s (offset_from at s.address))) (program_headers next segments)
    ∙ rw (length-program s (offset_from at s.address), length-program_headers next segments) (omega arith)

-- the segments' bytes reach to their end
pub length-segments_bytes : (at : ℕ) (segments : List Segment) → at + length (segments_bytes at segments) ≡ end_from at segments
length-segments_bytes at [] = omega arith
length-segments_bytes at (s ∷ segments) =
    let next = offset_from at s.address + length s.bytes in
    let rest = length-segments_bytes next segments in
    simp (length-append, length-replicate) (omega (arith, rest))

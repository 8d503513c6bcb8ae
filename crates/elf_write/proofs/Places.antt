-- Where parts of the file end.
use Rattle.std.proofs.Common.{ℕ, ◌+◌, ◌≤◌, List, [], ◌∷◌, length, arith}
use Rattle.elf_types.specs.declared.file.Segment.{Segment}
use Rattle.tests.specs.Elf.Written.{offset_from, end_from}

-- segments end behind the offset from which they are sought
pub end_from_above : (at : ℕ) (segments : List Segment) → at ≤ end_from at segments
end_from_above at [] = omega arith
end_from_above at (s ∷ segments) =
    let rest = end_from_above (offset_from at s.address + length s.bytes) segments in
    omega (arith, rest)

-- Segments of the output.
use Rattle.std.specs.Prelude.{ℕ, Option, Some, None, List, [], ◌∷◌, length}
use Rattle.elf_types.specs.declared.file.Segment.{Segment}

-- a segment of type PT_LOAD, with all its bytes in the file
abbrev pub whole : ℕ → ℕ → List ℕ → Segment
whole flags at bytes = record { kind = 1; flags = flags; address = at; memory = length bytes; bytes = bytes }

-- the segment, if there is one
abbrev pub if_any : Option Segment → List Segment
if_any None = []
if_any (Some s) = s ∷ []

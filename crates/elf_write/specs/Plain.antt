-- Segments that have all their bytes in the file, and the sections over them (ELF gABI).
use Rattle.std.specs.Prelude.{ℕ, List, [], length}
use Rattle.elf_types.specs.declared.file.Segment.{Segment}
use Rattle.elf_types.specs.declared.output.OutSection.{OutSection}
use Rattle.elf_types.specs.declared.abi.TheConstants.{PT_LOAD}

-- PT_LOAD, with all its bytes in the file
abbrev pub segment : ℕ → ℕ → List ℕ → Segment
segment flags address bytes = record { kind = PT_LOAD; flags = flags; address = address; memory = length bytes; bytes = bytes }

-- over a segment
abbrev pub section : List ℕ → ℕ → Segment → OutSection
section name flags s = record { name = name; flags = flags; address = s.address; size = s.memory; bytes = [] }

-- What a section header says of its section (ELF gABI, sections).
use Rattle.std.specs.Prelude.{◌==◌, ◌&&◌, not, nat_lt, Bool}
use Rattle.elf_types.specs.declared.file.Section.{Section}
use Rattle.elf_types.specs.declared.records.SectionHeader.{SectionHeader}
use Rattle.elf_types.specs.declared.abi.TheConstants.{SHT_NULL, SHT_NOBITS}
use Rattle.elf_types.specs.Abi.{has_alloc, has_instructions}

-- it is in memory, has instructions, and some bytes
abbrev pub is_code_section : Section → Bool
is_code_section s = has_alloc s.flags && (has_instructions s.flags && nat_lt 0 s.size)

-- it has bytes in the file: it is neither SHT_NULL nor SHT_NOBITS, and is not empty
abbrev pub has_bytes : SectionHeader → Bool
has_bytes s = not (s.kind == SHT_NULL) && not (s.kind == SHT_NOBITS) && nat_lt 0 s.size

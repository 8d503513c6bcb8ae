-- The file that bytes are (ELF gABI).
use Rattle.std.specs.Prelude.{◌≡◌, ℕ, ◌≤◌, ◌/◌, ◌%◌, List, [], take, drop, if◌then◌else◌, Option, Some, None, Ok}
use Rattle.elf_types.specs.declared.file.ElfFile.{ElfFile}
use Rattle.elf_types.specs.declared.file.Segment.{Segment}
use Rattle.elf_types.specs.declared.file.Section.{Section}
use Rattle.elf_types.specs.declared.file.Symbol.{Symbol}
use Rattle.elf_types.specs.declared.file.Rela.{Rela}
use Rattle.elf_types.specs.declared.records.ProgramHeader.{ProgramHeader}
use Rattle.elf_types.specs.declared.records.SectionHeader.{SectionHeader}
use Rattle.elf_types.specs.Abi.{is_load}
use Rattle.machine.specs.declared.limits.Limit.TheVariants as limit
use Rattle.machine.specs.Limits.{limit_of}
use Rattle.machine.specs.Below.{each, gather}
use Rattle.tests.specs.Files.Header.{e_entry, e_flags, e_phnum, e_shnum}
use Rattle.tests.specs.Files.Fields.{program_header, section_header, symbol_entry, rela_entry}
use Rattle.tests.specs.Files.Rules.{section_bytes, section_name, symbol_name, symbol_table, is_counted_section, counted_bytes, verdict}

-- the bytes of a segment; where it is not PT_LOAD there are none
unfoldable pub load_bytes : List ℕ → ProgramHeader → List ℕ
load_bytes file p = if is_load p.kind then take p.filesz (drop p.offset file) else []

-- what program header i describes
unfoldable pub segment_of : List ℕ → ℕ → Segment
segment_of file i =
    let p = program_header file i in
    record { kind = p.kind; flags = p.flags; address = p.vaddr; memory = p.memsz; bytes = load_bytes file p }

-- what section header i describes
unfoldable pub section_of : List ℕ → ℕ → Section
section_of file i =
    let s = section_header file i in
    record { name = section_name file i; kind = s.kind; flags = s.flags; address = s.addr; size = s.size }

-- symbol j of a symbol table; st_info has the binding in its high four bits and the type in its low four
unfoldable pub symbol_of : List ℕ → SectionHeader → ℕ → Symbol
symbol_of file s j =
    let e = symbol_entry (section_bytes file s) j in
    record { name = symbol_name file s j; value = e.value; size = e.size; kind = e.info % 16; binding = e.info / 16; other = e.other; index = e.index }

-- the symbols of a table at a number
abbrev pub symbols_at : List ℕ → Option ℕ → List Symbol
symbols_at file None = []
symbols_at file (Some i) = let s = section_header file i in each (s.size / 24) (symbol_of file s)

-- the relocations of a section, where it is counted
unfoldable pub relas_of : List ℕ → SectionHeader → List Rela
relas_of file s = if is_counted_section file s then each (s.size / 24) (rela_entry (section_bytes file s)) else []

-- no rule, E1 to E13, refuses the bytes, and each member of f is the stated field
pub record File (file : List ℕ) (f : ElfFile) : Type 0 where
  pub accepted : verdict file ≡ Ok tt
  pub entry : f.entry ≡ e_entry file
  pub flags : f.flags ≡ e_flags file
  pub segments : f.segments ≡ each (e_phnum file) (segment_of file)
  pub sections : f.sections ≡ each (e_shnum file) (section_of file)
  pub symbols : f.symbols ≡ symbols_at file (symbol_table file)
  pub relas : f.relas ≡ gather (e_shnum file) (λ i. relas_of file (section_header file i))

-- L5 and L10: at most 4,096 sections, and at most 1,073,741,824 bytes of segments and names
pub record WithinReadLimits (file : List ℕ) : Type 0 where
  pub sections : e_shnum file ≤ limit_of limit.Sections
  pub bytes : counted_bytes file ≤ limit_of limit.CountedBytes

-- the bytes are the file, and within the limits of the reader
pub record IsReadAs (bytes : List ℕ) (f : ElfFile) : Type 0 where
  pub file : File bytes f
  pub within : WithinReadLimits bytes

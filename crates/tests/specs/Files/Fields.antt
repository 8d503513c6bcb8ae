-- The fields of an ELF64 file (ELF gABI), by byte offsets. Past the end they read as zeros, for sentences on any file.
use Rattle.std.specs.Prelude.{ℕ, ◌+◌, ◌*◌, ◌/◌, ◌%◌, ◌^◌, ◌<◌, ◌≤◌, List, length, slice_index}
use Rattle.std.specs.Int.{w64, cast_signed}
use Rattle.elf_types.specs.declared.file.Rela.{Rela}
use Rattle.elf_types.specs.declared.records.ProgramHeader.{ProgramHeader}
use Rattle.elf_types.specs.declared.records.SectionHeader.{SectionHeader}
use Rattle.elf_types.specs.declared.records.SymbolEntry.{SymbolEntry}
use Rattle.machine.specs.Numbers.{field}
use Rattle.tests.specs.Files.Header.{e_phoff, e_shoff, e_phnum, e_shnum}

-- ---- the header, of 64 bytes; its other fields stand in Header

-- EI_CLASS
abbrev pub e_class : List ℕ → ℕ
e_class file = slice_index file 4

-- EI_DATA
abbrev pub e_encoding : List ℕ → ℕ
e_encoding file = slice_index file 5

-- EI_VERSION
abbrev pub e_ident_version : List ℕ → ℕ
e_ident_version file = slice_index file 6

abbrev pub e_shentsize : List ℕ → ℕ
e_shentsize file = field 58 2 file

-- the number of the section with the names of the sections, 0 where there is none
abbrev pub e_shstrndx : List ℕ → ℕ
e_shstrndx file = field 62 2 file

-- ---- the records of the tables

-- program header i, of 56 bytes
unfoldable pub program_header : List ℕ → ℕ → ProgramHeader
program_header file i =
    let at = e_phoff file + 56 * i in
    record {
      kind = field at 4 file;
      flags = field (at + 4) 4 file;
      offset = field (at + 8) 8 file;
      vaddr = field (at + 16) 8 file;
      filesz = field (at + 32) 8 file;
      memsz = field (at + 40) 8 file;
    }

-- section header i, of 64 bytes
unfoldable pub section_header : List ℕ → ℕ → SectionHeader
section_header file i =
    let at = e_shoff file + 64 * i in
    record {
      name = field at 4 file;
      kind = field (at + 4) 4 file;
      flags = field (at + 8) 8 file;
      addr = field (at + 16) 8 file;
      offset = field (at + 24) 8 file;
      size = field (at + 32) 8 file;
      link = field (at + 40) 4 file;
      info = field (at + 44) 4 file;
      entsize = field (at + 56) 8 file;
    }

-- entry j of a symbol table, of 24 bytes
unfoldable pub symbol_entry : List ℕ → ℕ → SymbolEntry
symbol_entry table j = record {
  name = field (24 * j) 4 table;
  info = slice_index table (24 * j + 4);
  other = slice_index table (24 * j + 5);
  index = field (24 * j + 6) 2 table;
  value = field (24 * j + 8) 8 table;
  size = field (24 * j + 16) 8 table;
}

-- entry k of a table of relocations, of 24 bytes; r_info has the symbol in its high 32 bits and the type in its low 32
unfoldable pub rela_entry : List ℕ → ℕ → Rela
rela_entry table k = record {
  place = field (24 * k) 8 table;
  kind = field (24 * k + 8) 8 table % 2 ^ 32;
  symbol = field (24 * k + 8) 8 table / 2 ^ 32;
  addend = cast_signed w64 (field (24 * k + 16) 8 table);
}

-- the header and both tables lie in the file, and the section with the names has a header
pub record HasTables (file : List ℕ) : Type 0 where
  pub header : 64 ≤ length file
  pub programs : 0 < e_phnum file → e_phoff file + 56 * e_phnum file ≤ length file
  pub sections : 0 < e_shnum file → e_shoff file + 64 * e_shnum file ≤ length file
  pub names : 0 < e_shnum file → e_shstrndx file < e_shnum file

-- What is read of a file that was written.
use Rattle.std.specs.Prelude.{ℕ, ◌+◌, ◌*◌, List, [], ◌∷◌, ◌++◌, length, map}
use Rattle.elf_types.specs.declared.file.ElfFile.{ElfFile}
use Rattle.elf_types.specs.declared.file.Section.{Section}
use Rattle.elf_types.specs.declared.output.OutFile.{OutFile}
use Rattle.elf_types.specs.declared.output.OutSection.{OutSection}
use Rattle.elf_types.specs.declared.abi.TheConstants.{SHT_NULL, SHT_PROGBITS, SHT_SYMTAB, SHT_STRTAB}
use Rattle.tests.specs.Elf.Layout.{string_table, symbol_names, section_names, symtab_name, strtab_name, shstrtab_name, null_symbol}

-- the null section
abbrev pub null_section : Section
null_section = record { name = []; kind = SHT_NULL; flags = 0; address = 0; size = 0 }

-- a given section, of type SHT_PROGBITS
abbrev pub section_read : OutSection → Section
section_read x = record { name = x.name; kind = SHT_PROGBITS; flags = x.flags; address = x.address; size = x.size }

-- a table that is added: its name, type and size
abbrev pub table_read : List ℕ → ℕ → ℕ → Section
table_read name kind size = record { name = name; kind = kind; flags = 0; address = 0; size = size }

-- the symbol table, the names of the symbols and those of the sections
abbrev pub tables_read : OutFile → List Section
tables_read f =
    table_read symtab_name SHT_SYMTAB (24 * (1 + length f.symbols))
    ∷ table_read strtab_name SHT_STRTAB (length (string_table (symbol_names f.symbols)))
    ∷ table_read shstrtab_name SHT_STRTAB (length (string_table (section_names f.sections)))
    ∷ []

-- entry, flags, segments; null section, given ones and tables; null symbol and given ones; no relocation
abbrev pub file_read : OutFile → ElfFile
file_read f = record {
  entry = f.entry;
  flags = f.flags;
  segments = f.segments;
  sections = null_section ∷ (map section_read f.sections ++ tables_read f);
  symbols = null_symbol ∷ f.symbols;
  relas = [];
}

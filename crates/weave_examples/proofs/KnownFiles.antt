-- Two known ELF files, written and read: a test with a loop, and one with a data word.
use Rattle.std.proofs.Common.{ℕ, List, [], ◌∷◌, refl}
use Rattle.std.specs.Prelude.{codes}
use Rattle.tests.specs.Admission.DataRanges.{ElfFile, Segment}
use Rattle.elf_types.specs.declared.file.Section.{Section}
use Rattle.elf_types.specs.declared.output.OutFile.{OutFile}
use Rattle.elf_types.specs.declared.output.OutSection.{OutSection}
use Rattle.machine.specs.Numbers.{number_bytes}
use Rattle.tests.specs.Elf.FileRead.{null_section}
use Rattle.tests.specs.Elf.Layout.{null_symbol, symbol_bytes, header_bytes, table_headers, headers_of, own_place, symbols_place, strings_place, names_place, headers_place, tables_bytes, written}
use Rattle.tests.specs.Elf.Sound.{IsSound}
use Rattle.tests.proofs.Lemmas.{read_sound, opened_verdict, read_of, is_file, are_bytes}

-- the file to write, and what is read: tables are added behind its sections
abbrev out : List Segment → List OutSection → OutFile
out segments sections = record { entry = 0x10000; flags = 0; segments = segments; sections = sections; symbols = [] }

abbrev held : List ℕ → ℕ → ℕ → ℕ → OutSection
held name flags address size = record { name = name; flags = flags; address = address; size = size; bytes = [] }

abbrev section : List ℕ → ℕ → ℕ → ℕ → ℕ → Section
section name kind flags address size = record { name = name; kind = kind; flags = flags; address = address; size = size }

abbrev file : List Segment → List Section → ElfFile
file segments sections = record { entry = 0x10000; flags = 0; segments = segments; sections = null_section ∷ sections; symbols = null_symbol ∷ []; relas = [] }

-- ---- the loop
abbrev loop_segments : List Segment
loop_segments = record { kind = 1; flags = 5; address = 0x10000; memory = 16; bytes = 0x93 ∷ 2 ∷ 0x20 ∷ 0 ∷ 0x93 ∷ 0x82 ∷ 0xf2 ∷ 0xff ∷ 0xe3 ∷ 0x9e ∷ 2 ∷ 0xfe ∷ 0x73 ∷ 0 ∷ 0 ∷ 0 ∷ [] } ∷ []

abbrev pub loop : ElfFile
loop = file loop_segments (section (codes ".text") 1 6 0x10000 16 ∷ section (codes ".symtab") 2 0 0 24 ∷ section (codes ".strtab") 3 0 0 1 ∷ section (codes ".shstrtab") 3 0 0 33 ∷ [])

pub loop_sound : IsSound loop
unfolding opened_verdict read_of number_bytes symbol_bytes header_bytes table_headers headers_of own_place symbols_place strings_place names_place headers_place tables_bytes written
loop_sound = let bytes = written (out loop_segments (held (codes ".text") 6 0x10000 16 ∷ [])) in read_sound bytes loop (are_bytes bytes refl) (is_file bytes loop refl refl)

-- ---- the data word
abbrev store_segments : List Segment
store_segments =
    record { kind = 1; flags = 5; address = 0x10000; memory = 20; bytes = 0x37 ∷ 4 ∷ 2 ∷ 0 ∷ 0x83 ∷ 0x34 ∷ 4 ∷ 0 ∷ 0x33 ∷ 0x85 ∷ 0x94 ∷ 0 ∷ 0x23 ∷ 0x30 ∷ 0xa4 ∷ 0 ∷ 0x73 ∷ 0 ∷ 0 ∷ 0 ∷ [] }
    ∷ record { kind = 1; flags = 6; address = 0x20000; memory = 8; bytes = 5 ∷ 0 ∷ 0 ∷ 0 ∷ 0 ∷ 0 ∷ 0 ∷ 0 ∷ [] } ∷ []

abbrev pub store : ElfFile
store = file store_segments (section (codes ".text") 1 6 0x10000 20 ∷ section (codes ".data") 1 3 0x20000 8 ∷ section (codes ".symtab") 2 0 0 24 ∷ section (codes ".strtab") 3 0 0 1 ∷ section (codes ".shstrtab") 3 0 0 39 ∷ [])

pub store_sound : IsSound store
unfolding opened_verdict read_of number_bytes symbol_bytes header_bytes table_headers headers_of own_place symbols_place strings_place names_place headers_place tables_bytes written
store_sound = let bytes = written (out store_segments (held (codes ".text") 6 0x10000 20 ∷ held (codes ".data") 3 0x20000 8 ∷ [])) in read_sound bytes store (are_bytes bytes refl) (is_file bytes store refl refl)

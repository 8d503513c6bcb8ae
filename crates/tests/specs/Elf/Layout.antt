-- The written file: its parts in order, and their places. Names are of the ELF gABI; offsets are in bytes from 0.
use Rattle.std.specs.Prelude.{◌≡◌, ◌≢◌, ℕ, ◌+◌, ◌-◌, ◌*◌, ◌/◌, ◌^◌, ◌<◌, ◌≤◌, ◌==◌, Bool, true, false, nat_le, ◌&&◌, if◌then◌else◌, IsTrue, List, [], ◌∷◌}
use Rattle.std.specs.Prelude.{◌++◌, length, map, replicate, All, AllPairs}
use Rattle.std.specs.List.{list_any}
use Rattle.elf_types.specs.declared.file.Segment.{Segment}
use Rattle.elf_types.specs.declared.file.Symbol.{Symbol}
use Rattle.elf_types.specs.declared.output.OutFile.{OutFile}
use Rattle.elf_types.specs.declared.output.OutSection.{OutSection}
use Rattle.elf_types.specs.declared.records.SectionHeader.{SectionHeader}
use Rattle.elf_types.specs.declared.records.SymbolEntry.{SymbolEntry}
use Rattle.machine.specs.declared.limits.Limit.TheVariants as limit
use Rattle.machine.specs.declared.limits.TheConstants.{MAX_OUTPUT_SECTIONS}
use Rattle.machine.specs.Limits.{limit_of}
use Rattle.elf_types.specs.declared.abi.TheConstants.{ELFMAG, ELFCLASS64, ELFDATA2LSB, EV_CURRENT, ET_EXEC, EM_RISCV, EHDR_SIZE, PHDR_SIZE, SHDR_SIZE}
use Rattle.elf_types.specs.declared.abi.TheConstants.{PT_LOAD, SHT_NULL, SHT_PROGBITS, SHT_SYMTAB, SHT_STRTAB}
use Rattle.elf_types.specs.Abi.{has_alloc}
use Rattle.elf_types.specs.Symbol.{is_local}
use Rattle.elf_types.specs.Overlap.{share_byte}
use Rattle.tests.specs.Elf.Written.{fields_bytes, offset_from, end_from, program_headers, segments_bytes}

-- the next multiple of 8
abbrev pub aligned : ℕ → ℕ
aligned at = (at + 7) / 8 * 8

-- ---- names
-- names one after the other, each with a zero byte
abbrev pub names_bytes : List (List ℕ) → List ℕ
names_bytes [] = []
names_bytes (name ∷ names) = (name ++ 0 ∷ []) ++ names_bytes names

-- a string table: a zero byte, and then the names
abbrev pub string_table : List (List ℕ) → List ℕ
string_table names = (0 ∷ []) ++ names_bytes names

abbrev pub symbol_names : List Symbol → List (List ℕ)
symbol_names symbols = map (λ s. s.name) symbols

-- ".symtab"
abbrev pub symtab_name : List ℕ
symtab_name = 46 ∷ 115 ∷ 121 ∷ 109 ∷ 116 ∷ 97 ∷ 98 ∷ []

-- ".strtab"
abbrev pub strtab_name : List ℕ
strtab_name = 46 ∷ 115 ∷ 116 ∷ 114 ∷ 116 ∷ 97 ∷ 98 ∷ []

-- ".shstrtab"
abbrev pub shstrtab_name : List ℕ
shstrtab_name = 46 ∷ 115 ∷ 104 ∷ 115 ∷ 116 ∷ 114 ∷ 116 ∷ 97 ∷ 98 ∷ []

abbrev pub table_names : List (List ℕ)
table_names = symtab_name ∷ strtab_name ∷ shstrtab_name ∷ []

-- the names of the given sections, and then those of the three tables
abbrev pub section_names : List OutSection → List (List ℕ)
section_names sections = map (λ s. s.name) sections ++ table_names

-- ---- symbols
-- st_name, st_info, st_other, st_shndx, st_value, st_size
abbrev pub symbol_fields : SymbolEntry → List (ℕ × ℕ)
symbol_fields e = (4, e.name) ∷ (1, e.info) ∷ (1, e.other) ∷ (2, e.index) ∷ (8, e.value) ∷ (8, e.size) ∷ []

unfoldable pub symbol_bytes : SymbolEntry → List ℕ
symbol_bytes e = fields_bytes (symbol_fields e)

-- entries one after the other
abbrev pub symbols_bytes : List SymbolEntry → List ℕ
symbols_bytes [] = []
symbols_bytes (e ∷ entries) = symbol_bytes e ++ symbols_bytes entries

-- the entry of a symbol whose name begins at an offset of the string table
abbrev pub entry_with : ℕ → Symbol → SymbolEntry
entry_with name s = record { name = name; info = 16 * s.binding + s.kind; other = s.other; index = s.index; value = s.value; size = s.size }

-- the entries of symbols whose names stand from an offset on
abbrev pub entries_from : ℕ → List Symbol → List SymbolEntry
entries_from name [] = []
entries_from name (s ∷ symbols) = entry_with name s ∷ entries_from (name + length s.name + 1) symbols

abbrev pub null_entry : SymbolEntry
null_entry = record { name = 0; info = 0; other = 0; index = 0; value = 0; size = 0 }

-- the null symbol and then the given ones, whose names begin behind the first zero byte
abbrev pub symbol_entries : List Symbol → List SymbolEntry
symbol_entries symbols = null_entry ∷ entries_from 1 symbols

-- the number of the first symbol that is not STB_LOCAL, or the number of symbols; `number` counts those before the list
abbrev pub first_global : ℕ → List Symbol → ℕ
first_global number [] = number
first_global number (s ∷ symbols) = if is_local s then first_global (number + 1) symbols else number

-- ---- sections
-- the section has SHF_ALLOC
abbrev pub is_in_memory : OutSection → Bool
is_in_memory x = has_alloc x.flags

-- the section lies inside the file bytes of the segment
abbrev pub is_inside : OutSection → Segment → Bool
is_inside x s = nat_le s.address x.address && nat_le (x.address + x.size) (s.address + length s.bytes)

-- the place in the file of a section in memory, by the first segment around it; segments' bytes are sought from `at` on
abbrev pub offset_in : ℕ → List Segment → OutSection → ℕ
offset_in at [] x = 0
offset_in at (s ∷ segments) x =
    if is_inside x s then offset_from at s.address + (x.address - s.address) else offset_in (offset_from at s.address + length s.bytes) segments x

-- the bytes of each section that is not in memory; one in memory has none of its own
abbrev pub own_bytes : List OutSection → List ℕ
own_bytes [] = []
own_bytes (x ∷ sections) = x.bytes ++ own_bytes sections

-- sh_addralign by the type: 0 for the null section, 8 for SHT_SYMTAB, else 1
abbrev pub alignment : ℕ → ℕ
alignment kind = if kind == SHT_NULL then 0 else (if kind == SHT_SYMTAB then 8 else 1)

-- sh_name, sh_type, sh_flags, sh_addr, sh_offset, sh_size, sh_link, sh_info, sh_addralign, sh_entsize
abbrev pub section_fields : SectionHeader → List (ℕ × ℕ)
section_fields h =
    (4, h.name) ∷ (4, h.kind) ∷ (8, h.flags) ∷ (8, h.addr) ∷ (8, h.offset) ∷ (8, h.size)
    ∷ (4, h.link) ∷ (4, h.info) ∷ (8, alignment h.kind) ∷ (8, h.entsize) ∷ []

unfoldable pub header_bytes : SectionHeader → List ℕ
header_bytes h = fields_bytes (section_fields h)

-- section headers one after the other
abbrev pub headers_bytes : List SectionHeader → List ℕ
headers_bytes [] = []
headers_bytes (h ∷ headers) = header_bytes h ++ headers_bytes headers

-- the SHT_PROGBITS header of a section, with the offsets of its name among the names and of its bytes in the file
abbrev pub header_with : ℕ → ℕ → OutSection → SectionHeader
header_with name offset x = record {
  name = name;
  kind = SHT_PROGBITS;
  flags = x.flags;
  addr = x.address;
  offset = offset;
  size = x.size;
  link = 0;
  info = 0;
  entsize = 0;
}

-- the headers of given sections: names from `name` on, own bytes from `own` on, segments' bytes sought from `start` on
abbrev pub headers_from : ℕ → List Segment → ℕ → ℕ → List OutSection → List SectionHeader
headers_from start segments name own [] = []
headers_from start segments name own (x ∷ sections) =
    header_with name (if is_in_memory x then offset_in start segments x else own) x
    ∷ headers_from start segments (name + length x.name + 1) (own + length x.bytes) sections

-- the header of a table that is added: its name, type, offset, size, link, info and entsize
abbrev pub table_header : ℕ → ℕ → ℕ → ℕ → ℕ → ℕ → ℕ → SectionHeader
table_header name kind offset size link info entsize = record {
  name = name;
  kind = kind;
  flags = 0;
  addr = 0;
  offset = offset;
  size = size;
  link = link;
  info = info;
  entsize = entsize;
}

abbrev pub null_header : SectionHeader
null_header = table_header 0 0 0 0 0 0 0

-- ---- where the parts stand
-- behind the header and the program headers
abbrev pub parts_start : OutFile → ℕ
parts_start f = 64 + 56 * length f.segments

-- behind the segments
unfoldable pub own_place : OutFile → ℕ
own_place f = end_from (parts_start f) f.segments

-- the symbol table
unfoldable pub symbols_place : OutFile → ℕ
symbols_place f = aligned (own_place f + length (own_bytes f.sections))

-- the string table of the symbols
unfoldable pub strings_place : OutFile → ℕ
strings_place f = symbols_place f + 24 * (1 + length f.symbols)

-- the names of the sections
unfoldable pub names_place : OutFile → ℕ
names_place f = strings_place f + length (string_table (symbol_names f.symbols))

-- the section headers
unfoldable pub headers_place : OutFile → ℕ
headers_place f = aligned (names_place f + length (string_table (section_names f.sections)))

-- ---- the whole
-- where the names of the tables begin, behind those of the given sections
abbrev pub table_names_at : OutFile → ℕ
table_names_at f = length (string_table (map (λ x. x.name) f.sections))

-- ".symtab": its strings are the next section's; its info is the number of the first symbol that is not STB_LOCAL
abbrev pub symtab_header : OutFile → SectionHeader
symtab_header f =
    table_header (table_names_at f) SHT_SYMTAB (symbols_place f) (24 * (1 + length f.symbols)) (length f.sections + 2) (first_global 1 f.symbols) 24

-- ".strtab"
abbrev pub strtab_header : OutFile → SectionHeader
strtab_header f = table_header (table_names_at f + 8) SHT_STRTAB (strings_place f) (length (string_table (symbol_names f.symbols))) 0 0 0

-- ".shstrtab"
abbrev pub shstrtab_header : OutFile → SectionHeader
shstrtab_header f = table_header (table_names_at f + 16) SHT_STRTAB (names_place f) (length (string_table (section_names f.sections))) 0 0 0

unfoldable pub table_headers : OutFile → List SectionHeader
table_headers f = symtab_header f ∷ strtab_header f ∷ shstrtab_header f ∷ []

-- the null section, the given sections, and the tables that are added
unfoldable pub headers_of : OutFile → List SectionHeader
headers_of f = null_header ∷ (headers_from (parts_start f) f.segments 1 (own_place f) f.sections ++ table_headers f)

-- magic, class, encoding, version, padding; type, machine, version, entry, phoff, shoff, flags; ehsize, phentsize,
-- phnum; shentsize, shnum, shstrndx
abbrev pub file_fields : ℕ → ℕ → ℕ → ℕ → ℕ → List (ℕ × ℕ)
file_fields entry flags segments headers sections =
    (4, ELFMAG) ∷ (1, ELFCLASS64) ∷ (1, ELFDATA2LSB) ∷ (1, EV_CURRENT) ∷ (1, 0) ∷ (8, 0)
    ∷ (2, ET_EXEC) ∷ (2, EM_RISCV) ∷ (4, EV_CURRENT) ∷ (8, entry) ∷ (8, 64) ∷ (8, headers) ∷ (4, flags)
    ∷ (2, EHDR_SIZE) ∷ (2, PHDR_SIZE) ∷ (2, segments) ∷ (2, SHDR_SIZE) ∷ (2, sections + 4) ∷ (2, sections + 3) ∷ []

-- the bytes of the file header
abbrev pub file_header : OutFile → List ℕ
file_header f = fields_bytes (file_fields f.entry f.flags (length f.segments) (headers_place f) (length f.sections))

-- what stands behind the segments
unfoldable pub tables_bytes : OutFile → List ℕ
tables_bytes f =
    own_bytes f.sections
    ++ (replicate (symbols_place f - (own_place f + length (own_bytes f.sections))) 0
    ++ (symbols_bytes (symbol_entries f.symbols)
    ++ (string_table (symbol_names f.symbols)
    ++ (string_table (section_names f.sections)
    ++ (replicate (headers_place f - (names_place f + length (string_table (section_names f.sections)))) 0
    ++ headers_bytes (headers_of f))))))

-- the bytes of the file
unfoldable pub written : OutFile → List ℕ
written f =
    file_header f
    ++ (program_headers (parts_start f) f.segments
    ++ (segments_bytes (parts_start f) f.segments
    ++ tables_bytes f))

-- ---- what can be written
-- the segment is PT_LOAD, does not wrap, and has at most as many bytes as in memory
pub record IsLoadable (s : Segment) : Type 0 where
  pub kind : s.kind ≡ PT_LOAD
  pub memory : length s.bytes ≤ s.memory
  pub fits : s.address + s.memory ≤ 2 ^ 64

-- both segments have bytes in memory, and share one
abbrev pub do_share : Segment → Segment → Bool
do_share s t = share_byte s.address s.memory t.address t.memory

-- no byte of the name is 0
abbrev pub IsName : List ℕ → Type 0
IsName name = All (λ byte. byte ≢ 0) name

-- a section in memory has no bytes of its own, and lies inside a segment's file bytes; any other section has its bytes
pub record IsPlaced (segments : List Segment) (x : OutSection) : Type 0 where
  pub none : is_in_memory x ≡ true → x.bytes ≡ []
  pub inside : is_in_memory x ≡ true → IsTrue (list_any (is_inside x) segments)
  pub own : is_in_memory x ≡ false → length x.bytes ≡ x.size

-- type and binding have four bits each
pub record IsSymbol (s : Symbol) : Type 0 where
  pub kind : s.kind < 16
  pub binding : s.binding < 16

abbrev pub null_symbol : Symbol
null_symbol = record { name = []; value = 0; size = 0; kind = 0; binding = 0; other = 0; index = 0 }

pub record IsWritable (f : OutFile) : Type 0 where
  pub segments : All IsLoadable f.segments
  pub ascend : AllPairs (λ s t. s.address ≤ t.address) f.segments
  pub apart : AllPairs (λ s t. do_share s t ≡ false) f.segments
  pub few_segments : length f.segments ≤ limit_of limit.OutputSegments
  pub sections : All (IsPlaced f.segments) f.sections
  pub section_names : All (λ x. IsName x.name) f.sections
  pub few_sections : length f.sections ≤ MAX_OUTPUT_SECTIONS
  pub symbols : All IsSymbol f.symbols
  pub symbol_names : All (λ s. IsName s.name) f.symbols
  pub not_null : All (λ s. s ≢ null_symbol) f.symbols
  -- no symbol of another binding comes before one of STB_LOCAL
  pub locals_first : AllPairs (λ s t. t.binding ≡ 0 → s.binding ≡ 0) f.symbols
  pub size : length (written f) ≤ limit_of limit.CountedBytes

-- The rules that refuse a file, sentences on its bytes, and the first that holds (ELF gABI, psABI). Sums do not wrap.
use Rattle.std.specs.Prelude.{◌≡◌, ℕ, ◌+◌, ◌-◌, ◌*◌, ◌/◌, ◌%◌, ◌^◌, ◌<◌, ◌==◌, nat_lt, nat_le, min, Bool, false, ◌&&◌, ◌||◌, not, if◌then◌else◌, Option, Some}
use Rattle.std.specs.Prelude.{None, Result, Ok, Err, List, [], ◌∷◌, length, take, drop, slice_index}
use Rattle.std.specs.Option.{is_some, unwrap_or}
use Rattle.elf_types.specs.declared.error.ElfError.{ElfError}
use Rattle.elf_types.specs.declared.error.ElfError.TheVariants as error
use Rattle.elf_types.specs.declared.error.Part.TheVariants as part
use Rattle.elf_types.specs.declared.records.ProgramHeader.{ProgramHeader}
use Rattle.elf_types.specs.declared.records.SectionHeader.{SectionHeader}
use Rattle.machine.specs.declared.limits.Limit.TheVariants as limit
use Rattle.machine.specs.Limits.{limit_of}
use Rattle.elf_types.specs.declared.abi.TheConstants.{ELFMAG, ELFCLASS64, ELFDATA2LSB, EV_CURRENT, ET_EXEC, EM_RISCV, PN_XNUM, EHDR_SIZE, PHDR_SIZE, SHDR_SIZE}
use Rattle.elf_types.specs.Abi.{is_load, has_alloc, is_symbol_table, is_string_table, is_rela_table}
pub use Rattle.elf_types.specs.Section.{has_bytes}
use Rattle.elf_types.specs.Overlap.{share_byte}
use Rattle.machine.specs.Below.{first_below, sum_below}
use Rattle.machine.specs.Numbers.{is_at, field}
use Rattle.tests.specs.Files.Header.{e_type, e_machine, e_version, e_phoff, e_shoff, e_ehsize, e_phentsize, e_phnum, e_shnum}
use Rattle.tests.specs.Files.Fields.{HasTables, e_class, e_encoding, e_ident_version, e_shentsize, e_shstrndx, program_header, section_header, symbol_entry}
use Rattle.tests.specs.Files.Fields.{rela_entry}

-- ---- what a rule says

-- what a rule says of a file: a refusal, or nothing
abbrev pub Check : Type 0
Check = Result (Unit {0}) ElfError

-- a refusal where a test passes
abbrev pub refuse : ElfError → Bool → Check
refuse e test = if test then Err e else Ok tt

-- the refusal of the record that was found, where one was
abbrev pub refuse_found : (ℕ → ElfError) → Option ℕ → Check
refuse_found e None = Ok tt
refuse_found e (Some i) = Err (e i)

-- the refusal of the record that was found, and of the place in it
abbrev pub refuse_found_at : (ℕ → ℕ → ElfError) → (ℕ → Option ℕ) → Option ℕ → Check
refuse_found_at e place None = Ok tt
refuse_found_at e place (Some i) = refuse_found (e i) (place i)

-- the first refusal
abbrev pub first_refusal : List Check → Check
first_refusal [] = Ok tt
first_refusal (Ok x ∷ rules) = first_refusal rules
first_refusal (Err e ∷ rules) = Err e

-- ---- the header

-- the file has fewer than 4 bytes, or does not begin with 7f 45 4c 46
unfoldable pub magic_rule : List ℕ → Check
magic_rule file = refuse error.Magic (nat_lt (length file) 4 || not (field 0 4 file == ELFMAG))

-- the file ends in the header
unfoldable pub header_rule : List ℕ → Check
header_rule file = refuse (error.OutOfFile part.Header) (nat_lt (length file) 64)

-- ELFCLASS64
unfoldable pub class_rule : List ℕ → Check
class_rule file = refuse (error.Class (e_class file)) (not (e_class file == ELFCLASS64))

-- ELFDATA2LSB
unfoldable pub encoding_rule : List ℕ → Check
encoding_rule file = refuse (error.Encoding (e_encoding file)) (not (e_encoding file == ELFDATA2LSB))

-- EV_CURRENT, in the identification and in the header
unfoldable pub version_rule : List ℕ → Check
version_rule file =
    if e_ident_version file == EV_CURRENT then refuse (error.Version (e_version file)) (not (e_version file == EV_CURRENT))
    else Err (error.Version (e_ident_version file))

-- ET_EXEC
unfoldable pub file_type_rule : List ℕ → Check
file_type_rule file = refuse (error.FileType (e_type file)) (not (e_type file == ET_EXEC))

-- EM_RISCV
unfoldable pub machine_rule : List ℕ → Check
machine_rule file = refuse (error.Machine (e_machine file)) (not (e_machine file == EM_RISCV))

-- the sizes are those of ELF64, and no number is extended (PN_XNUM, or a count of sections that stands elsewhere)
abbrev pub has_header_shape : List ℕ → Bool
has_header_shape file =
    e_ehsize file == EHDR_SIZE
    && (e_phnum file == 0 || e_phentsize file == PHDR_SIZE)
    && (e_shnum file == 0 || e_shentsize file == SHDR_SIZE)
    && not (e_phnum file == PN_XNUM)
    && (nat_lt 0 (e_shnum file) || e_shoff file == 0)
    && (e_shnum file == 0 || nat_lt (e_shstrndx file) (e_shnum file))

unfoldable pub header_shape_rule : List ℕ → Check
header_shape_rule file = refuse error.HeaderShape (not (has_header_shape file))

-- all that is asked of the header
unfoldable pub header_rules : List ℕ → Check
header_rules file =
    first_refusal
    (magic_rule file
    ∷ header_rule file
    ∷ class_rule file
    ∷ encoding_rule file
    ∷ version_rule file
    ∷ file_type_rule file
    ∷ machine_rule file
    ∷ header_shape_rule file
    ∷ [])

-- ---- the parts that lie in the file

-- n bytes from a place on end past the end of the file
abbrev pub is_past : List ℕ → ℕ → ℕ → Bool
is_past file place size = nat_lt (length file) (place + size)

unfoldable pub program_table_rule : List ℕ → Check
program_table_rule file = refuse (error.OutOfFile part.ProgramTable) (nat_lt 0 (e_phnum file) && is_past file (e_phoff file) (56 * e_phnum file))

unfoldable pub section_table_rule : List ℕ → Check
section_table_rule file = refuse (error.OutOfFile part.SectionTable) (nat_lt 0 (e_shnum file) && is_past file (e_shoff file) (64 * e_shnum file))

-- bytes of a segment end past the end of the file
unfoldable pub is_segment_outside : List ℕ → ProgramHeader → Bool
is_segment_outside file p = is_load p.kind && nat_lt 0 p.filesz && is_past file p.offset p.filesz

unfoldable pub segment_place_rule : List ℕ → Check
segment_place_rule file = refuse_found (λ i. error.OutOfFile (part.Segment i)) (first_below (e_phnum file) (λ i. is_segment_outside file (program_header file i)))

-- bytes of a section end past the end of the file
unfoldable pub is_section_outside : List ℕ → SectionHeader → Bool
is_section_outside file s = has_bytes s && is_past file s.offset s.size

unfoldable pub section_place_rule : List ℕ → Check
section_place_rule file = refuse_found (λ i. error.OutOfFile (part.Section i)) (first_below (e_shnum file) (λ i. is_section_outside file (section_header file i)))

-- the bytes of a section
unfoldable pub section_bytes : List ℕ → SectionHeader → List ℕ
section_bytes file s = if has_bytes s then take s.size (drop s.offset file) else []

-- what a file has whose parts lie in it
pub record HasParts (file : List ℕ) : Type 0 where
  pub tables : HasTables file
  pub segments : (i : ℕ) → i < e_phnum file → is_segment_outside file (program_header file i) ≡ false
  pub sections : (i : ℕ) → i < e_shnum file → is_section_outside file (section_header file i) ≡ false

-- ---- segments

-- a segment has more bytes in the file than in memory, or ends past 2^64
unfoldable pub is_misshapen : ProgramHeader → Bool
is_misshapen p = is_load p.kind && (nat_lt p.memsz p.filesz || nat_lt (2 ^ 64) (p.vaddr + p.memsz))

unfoldable pub segment_shape_rule : List ℕ → Check
segment_shape_rule file = refuse_found error.SegmentShape (first_below (e_phnum file) (λ i. is_misshapen (program_header file i)))

-- two segments share a byte of memory
unfoldable pub do_overlap : ProgramHeader → ProgramHeader → Bool
do_overlap p q = is_load p.kind && is_load q.kind && share_byte p.vaddr p.memsz q.vaddr q.memsz

-- the first segment behind segment i that shares a byte with it
unfoldable pub overlapped : List ℕ → ℕ → Option ℕ
overlapped file i = first_below (e_phnum file) (λ j. nat_lt i j && do_overlap (program_header file i) (program_header file j))

unfoldable pub segment_overlap_rule : List ℕ → Check
segment_overlap_rule file = refuse_found_at error.SegmentOverlap (overlapped file) (first_below (e_phnum file) (λ i. is_some (overlapped file i)))

-- ---- names

-- how many bytes of a string table stand from a place up to the first zero byte, where there is one
unfoldable pub name_length : List ℕ → ℕ → Option ℕ
name_length strings place = first_below (length strings - place) (λ k. slice_index strings (place + k) == 0)

-- a name that has no end
abbrev pub is_unended : List ℕ → ℕ → Bool
is_unended strings place = not (place == 0) && not (is_some (name_length strings place))

-- the name at a place of a string table; the one at place 0 is empty
unfoldable pub name_at : List ℕ → ℕ → List ℕ
name_at strings place = if place == 0 then [] else take (unwrap_or (name_length strings place) 0) (drop place strings)

-- ---- sections

-- the section with the names of the sections
abbrev pub names_header : List ℕ → SectionHeader
names_header file = section_header file (e_shstrndx file)

-- section i in memory ends past 2^64; or it should hold the names, but is not a string table; or its name has no end
unfoldable pub is_section_misshapen : List ℕ → ℕ → Bool
is_section_misshapen file i =
    (has_alloc (section_header file i).flags && nat_lt (2 ^ 64) ((section_header file i).addr + (section_header file i).size))
    || (not (e_shstrndx file == 0) && i == e_shstrndx file && not (is_string_table (section_header file i).kind))
    || (not (e_shstrndx file == 0) && is_string_table (names_header file).kind
    && is_unended (section_bytes file (names_header file)) (section_header file i).name)

unfoldable pub section_shape_rule : List ℕ → Check
section_shape_rule file = refuse_found error.SectionShape (first_below (e_shnum file) (is_section_misshapen file))

-- the string table of the sections; where there is none, no section has a name
unfoldable pub section_strings : List ℕ → List ℕ
section_strings file = if e_shstrndx file == 0 then [] else section_bytes file (names_header file)

unfoldable pub section_name : List ℕ → ℕ → List ℕ
section_name file i = name_at (section_strings file) (section_header file i).name

-- ---- symbols

-- the number of the first section of type SHT_SYMTAB
unfoldable pub symbol_table : List ℕ → Option ℕ
symbol_table file = first_below (e_shnum file) (λ i. is_symbol_table (section_header file i).kind)

-- entries of 24 bytes, and nothing else
abbrev pub has_entries : SectionHeader → Bool
has_entries s = s.entsize == 24 && s.size % 24 == 0

-- the link of a symbol table is the number of a string table
abbrev pub has_strings : List ℕ → SectionHeader → Bool
has_strings file s = nat_lt s.link (e_shnum file) && is_string_table (section_header file s.link).kind

-- the string table of a symbol table
unfoldable pub strings_of : List ℕ → SectionHeader → List ℕ
strings_of file s = section_bytes file (section_header file s.link)

-- symbol j, but for the null symbol, has a name without an end
unfoldable pub is_misnamed : List ℕ → SectionHeader → ℕ → Bool
is_misnamed file s j = nat_lt 0 j && is_unended (strings_of file s) (symbol_entry (section_bytes file s) j).name

-- of a symbol table: its shape, and then the names of its symbols
unfoldable pub symbols_rule : List ℕ → SectionHeader → Check
symbols_rule file s =
    if has_entries s && has_strings file s then refuse_found error.SymbolShape (first_below (s.size / 24) (is_misnamed file s)) else Err (error.SymbolShape 0)

-- what is asked of a record, where there is one
abbrev pub rule_at : (ℕ → Check) → Option ℕ → Check
rule_at rule None = Ok tt
rule_at rule (Some i) = rule i

unfoldable pub symbol_shape_rule : List ℕ → Check
symbol_shape_rule file = rule_at (λ i. symbols_rule file (section_header file i)) (symbol_table file)

-- how many symbols a table at a number has
abbrev pub count_at : List ℕ → Option ℕ → ℕ
count_at file None = 0
count_at file (Some i) = (section_header file i).size / 24

-- how many symbols there are, the null symbol included
unfoldable pub symbol_count : List ℕ → ℕ
symbol_count file = count_at file (symbol_table file)

-- the name of symbol j of a symbol table; that of the null symbol is empty
unfoldable pub symbol_name : List ℕ → SectionHeader → ℕ → List ℕ
symbol_name file s j = if j == 0 then [] else name_at (strings_of file s) (symbol_entry (section_bytes file s) j).name

-- ---- relocations

-- SHT_RELA, for a section in memory, against the symbol table; all other relocations are passed over
abbrev pub is_counted_section : List ℕ → SectionHeader → Bool
is_counted_section file s = is_rela_table s.kind && nat_lt s.info (e_shnum file) && has_alloc (section_header file s.info).flags && is_at (symbol_table file) s.link

-- of a counted section, the first entry without a symbol, or 0 where the shape of the section is at fault
unfoldable pub rela_fault : List ℕ → SectionHeader → Option ℕ
rela_fault file s =
    if is_counted_section file s
    then (if has_entries s then first_below (s.size / 24) (λ k. nat_le (symbol_count file) (rela_entry (section_bytes file s) k).symbol) else Some 0)
    else None

unfoldable pub rela_shape_rule : List ℕ → Check
rela_shape_rule file = refuse_found_at error.RelaShape (λ i. rela_fault file (section_header file i))
    (first_below (e_shnum file) (λ i. is_some (rela_fault file (section_header file i))))

-- ---- limits of the reader, beside the rules

-- more than 4,096 sections
unfoldable pub section_count_rule : List ℕ → Check
section_count_rule file = refuse (error.TooManySections (e_shnum file)) (nat_lt (limit_of limit.Sections) (e_shnum file))

-- the bytes of a segment in the file
abbrev pub file_size : ProgramHeader → ℕ
file_size p = if is_load p.kind then p.filesz else 0

-- the bytes of the names of the symbols
abbrev pub symbol_name_bytes : List ℕ → Option ℕ → ℕ
symbol_name_bytes file None = 0
symbol_name_bytes file (Some i) = let s = section_header file i in sum_below (s.size / 24) (λ j. length (symbol_name file s j))

-- the bytes of segments and of names, each counted as often as it is copied
unfoldable pub counted_bytes : List ℕ → ℕ
counted_bytes file =
    sum_below (e_phnum file) (λ i. file_size (program_header file i))
    + sum_below (e_shnum file) (λ i. length (section_name file i))
    + symbol_name_bytes file (symbol_table file)

-- more than the limit; the count is given up to 2^64 - 1
unfoldable pub byte_count_rule : List ℕ → Check
byte_count_rule file = refuse (error.TooManyBytes (min (counted_bytes file) (2 ^ 64 - 1))) (nat_lt (limit_of limit.CountedBytes) (counted_bytes file))

-- ---- all rules, in order

-- the tables lie in the file
unfoldable pub table_rules : List ℕ → Check
table_rules file = first_refusal (header_rules file ∷ program_table_rule file ∷ section_table_rule file ∷ [])

-- every part lies in the file
unfoldable pub part_rules : List ℕ → Check
part_rules file = first_refusal (table_rules file ∷ segment_place_rule file ∷ section_place_rule file ∷ [])

-- the first rule that refuses a file, E1 to E13, or Ok where none does
unfoldable pub verdict : List ℕ → Check
verdict file =
    first_refusal
    (part_rules file
    ∷ segment_shape_rule file
    ∷ segment_overlap_rule file
    ∷ section_shape_rule file
    ∷ symbol_shape_rule file
    ∷ rela_shape_rule file
    ∷ [])

-- what the reader says of a file: the first rule that refuses it, or else the first limit that it exceeds, L5 and L10
unfoldable pub read_verdict : List ℕ → Check
read_verdict file = first_refusal (verdict file ∷ section_count_rule file ∷ byte_count_rule file ∷ [])

-- Why a file is refused, in sentences on its bytes: what is true of a file that a rule refuses.
use Rattle.std.specs.Prelude.{◌≡◌, ◌≢◌, ◌⊎◌, ℕ, ◌+◌, ◌-◌, ◌*◌, ◌/◌, ◌^◌, ◌<◌, ◌≤◌, nat_lt, nat_le, min, false, true, ◌&&◌, Some, Err, List, length}
use Rattle.std.specs.Option.{is_some}
use Rattle.elf_types.specs.declared.error.ElfError.{ElfError}
use Rattle.elf_types.specs.declared.error.ElfError.TheVariants as error
use Rattle.elf_types.specs.declared.error.Part.{Part}
use Rattle.elf_types.specs.declared.error.Part.TheVariants as part
use Rattle.elf_types.specs.declared.records.SectionHeader.{SectionHeader}
use Rattle.machine.specs.declared.limits.Limit.TheVariants as limit
use Rattle.machine.specs.Limits.{limit_of}
use Rattle.elf_types.specs.declared.abi.TheConstants.{ELFCLASS64, ELFDATA2LSB, EV_CURRENT, ET_EXEC, EM_RISCV, PN_XNUM, EHDR_SIZE, PHDR_SIZE, SHDR_SIZE}
use Rattle.machine.specs.Below.{IsFirstBelow}
use Rattle.tests.specs.Files.Header.{HasMagic, e_type, e_machine, e_version, e_phoff, e_shoff, e_ehsize, e_phentsize, e_phnum, e_shnum}
use Rattle.tests.specs.Files.Fields.{e_class, e_encoding, e_ident_version, e_shentsize, e_shstrndx, program_header, section_header, rela_entry}
use Rattle.tests.specs.Files.Rules.{is_segment_outside, is_section_outside, is_misshapen, do_overlap, is_section_misshapen, is_misnamed, has_entries}
use Rattle.tests.specs.Files.Rules.{has_strings, is_counted_section, section_bytes, symbol_table, symbol_count, rela_fault, counted_bytes, read_verdict}

-- the header has the sizes of ELF64, and its numbers are not extended
pub record HasHeaderShape (file : List ℕ) : Type 0 where
  pub size : e_ehsize file ≡ EHDR_SIZE
  pub program_size : 0 < e_phnum file → e_phentsize file ≡ PHDR_SIZE
  pub section_size : 0 < e_shnum file → e_shentsize file ≡ SHDR_SIZE
  pub few_programs : e_phnum file ≢ PN_XNUM
  pub no_sections : e_shnum file ≡ 0 → e_shoff file ≡ 0
  pub names : 0 < e_shnum file → e_shstrndx file < e_shnum file

-- the version at fault: that of the identification, or else that of the header
abbrev pub IsWrongVersion : List ℕ → ℕ → Type 0
IsWrongVersion file version =
    ((e_ident_version file ≢ EV_CURRENT) × (version ≡ e_ident_version file))
    ⊎ ((e_ident_version file ≡ EV_CURRENT) × (e_version file ≢ EV_CURRENT) × (version ≡ e_version file))

-- a part ends past the end of the file; of the segments and of the sections it is the first
abbrev pub IsOut : List ℕ → Part → Type 0
IsOut file part.Header = length file < 64
IsOut file part.ProgramTable = (0 < e_phnum file) × (length file < e_phoff file + 56 * e_phnum file)
IsOut file part.SectionTable = (0 < e_shnum file) × (length file < e_shoff file + 64 * e_shnum file)
IsOut file (part.Segment i) = IsFirstBelow (e_phnum file) (λ k. is_segment_outside file (program_header file k)) i
IsOut file (part.Section i) = IsFirstBelow (e_shnum file) (λ k. is_section_outside file (section_header file k)) i

-- segments i < j share a byte: no segment before i shares one with a later one, and none between them with i
pub record IsFirstOverlap (file : List ℕ) (i j : ℕ) : Type 0 where
  pub pair : IsFirstBelow (e_phnum file) (λ k. nat_lt i k && do_overlap (program_header file i) (program_header file k)) j
  pub least : (h k : ℕ) → h < i → h < k → k < e_phnum file → do_overlap (program_header file h) (program_header file k) ≡ false

-- of the first symbol table the shape is at fault, then j is 0; or symbol j is the first whose name has no end
pub record IsFirstSymbolFault (file : List ℕ) (j : ℕ) : Type 0 where
  pub table : ℕ
  pub found : symbol_table file ≡ Some table
  pub fault :
      ((j ≡ 0) × (has_entries (section_header file table) && has_strings file (section_header file table) ≡ false))
      ⊎ ((has_entries (section_header file table) && has_strings file (section_header file table) ≡ true)
      × IsFirstBelow ((section_header file table).size / 24) (is_misnamed file (section_header file table)) j)

-- section i is the first counted one with a fault: of its shape, then k is 0; or entry k is the first without a symbol
pub record IsFirstRelaFault (file : List ℕ) (i k : ℕ) : Type 0 where
  pub section : IsFirstBelow (e_shnum file) (λ h. is_some (rela_fault file (section_header file h))) i
  pub counted : is_counted_section file (section_header file i) ≡ true
  pub fault :
      ((k ≡ 0) × (has_entries (section_header file i) ≡ false))
      ⊎ ((has_entries (section_header file i) ≡ true)
      × IsFirstBelow ((section_header file i).size / 24) (λ h. nat_le (symbol_count file) (rela_entry (section_bytes file (section_header file i)) h).symbol) k)

-- the fault that an error names is in the file; want of memory is none
abbrev pub HasFault : List ℕ → ElfError → Type 0
HasFault file error.Magic = HasMagic file → ⊥
HasFault file (error.Class class) = (class ≡ e_class file) × (class ≢ ELFCLASS64)
HasFault file (error.Encoding encoding) = (encoding ≡ e_encoding file) × (encoding ≢ ELFDATA2LSB)
HasFault file (error.Version version) = IsWrongVersion file version
HasFault file (error.FileType type) = (type ≡ e_type file) × (type ≢ ET_EXEC)
HasFault file (error.Machine machine) = (machine ≡ e_machine file) × (machine ≢ EM_RISCV)
HasFault file error.HeaderShape = HasHeaderShape file → ⊥
HasFault file (error.OutOfFile part) = IsOut file part
HasFault file (error.SegmentShape i) = IsFirstBelow (e_phnum file) (λ k. is_misshapen (program_header file k)) i
HasFault file (error.SegmentOverlap i j) = IsFirstOverlap file i j
HasFault file (error.SectionShape i) = IsFirstBelow (e_shnum file) (is_section_misshapen file) i
HasFault file (error.SymbolShape j) = IsFirstSymbolFault file j
HasFault file (error.RelaShape i k) = IsFirstRelaFault file i k
HasFault file (error.TooManySections count) = (count ≡ e_shnum file) × (limit_of limit.Sections < count)
HasFault file (error.TooManyBytes count) = (count ≡ min (counted_bytes file) (2 ^ 64 - 1)) × (limit_of limit.CountedBytes < counted_bytes file)
HasFault file error.Memory = ⊥

-- the error names the first rule that refuses the file, or else the first limit it exceeds; its fault is in the file
pub record IsFileRefused (file : List ℕ) (e : ElfError) : Type 0 where
  pub first : read_verdict file ≡ Err e
  pub fault : HasFault file e

-- ---- a file that no rule refuses
-- a symbol table has entries and a string table, and each of its names has an end
pub record AreSymbols (file : List ℕ) (s : SectionHeader) : Type 0 where
  pub shape : has_entries s && has_strings file s ≡ true
  pub names : (j : ℕ) → j < s.size / 24 → is_misnamed file s j ≡ false

-- a table of relocations has entries, and each of them a symbol
pub record AreRelas (file : List ℕ) (s : SectionHeader) : Type 0 where
  pub shape : has_entries s ≡ true
  pub symbols : (k : ℕ) → k < s.size / 24 → (rela_entry (section_bytes file s) k).symbol < symbol_count file

-- none of the faults is in the file; the limits of the reader stand beside it
pub record IsAccepted (file : List ℕ) : Type 0 where
  pub magic : HasMagic file
  pub room : 64 ≤ length file
  pub class : e_class file ≡ ELFCLASS64
  pub encoding : e_encoding file ≡ ELFDATA2LSB
  pub ident_version : e_ident_version file ≡ EV_CURRENT
  pub version : e_version file ≡ EV_CURRENT
  pub type : e_type file ≡ ET_EXEC
  pub machine : e_machine file ≡ EM_RISCV
  pub shape : HasHeaderShape file
  pub program_table : 0 < e_phnum file → e_phoff file + 56 * e_phnum file ≤ length file
  pub section_table : 0 < e_shnum file → e_shoff file + 64 * e_shnum file ≤ length file
  pub segments_inside : (i : ℕ) → i < e_phnum file → is_segment_outside file (program_header file i) ≡ false
  pub sections_inside : (i : ℕ) → i < e_shnum file → is_section_outside file (section_header file i) ≡ false
  pub segment_shapes : (i : ℕ) → i < e_phnum file → is_misshapen (program_header file i) ≡ false
  pub apart : (i j : ℕ) → i < j → j < e_phnum file → do_overlap (program_header file i) (program_header file j) ≡ false
  pub section_shapes : (i : ℕ) → i < e_shnum file → is_section_misshapen file i ≡ false
  pub symbols : (i : ℕ) → symbol_table file ≡ Some i → AreSymbols file (section_header file i)
  pub relas : (i : ℕ) → i < e_shnum file → is_counted_section file (section_header file i) ≡ true → AreRelas file (section_header file i)

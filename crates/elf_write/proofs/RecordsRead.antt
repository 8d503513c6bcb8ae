-- Records that stand in a file, read.
use Rattle.std.proofs.Common.{◌≡◌, ℕ, zero, suc, ◌+◌, ◌*◌, ◌<◌, List, [], ◌∷◌, ◌++◌, length, get_or, refl, ap, ◌∙◌, arith}
use Rattle.std.specs.Prelude.{All, flat_map}
use Rattle.elf_types.specs.declared.file.Segment.{Segment}
use Rattle.elf_types.specs.declared.records.ProgramHeader.{ProgramHeader}
use Rattle.elf_types.specs.declared.records.SectionHeader.{SectionHeader}
use Rattle.elf_types.specs.declared.records.SymbolEntry.{SymbolEntry}
use Rattle.machine.specs.Below.{each}
use Rattle.machine.specs.Numbers.{field}
use Rattle.tests.specs.Files.Header.{e_phoff, e_shoff, e_phnum, e_shnum}
use Rattle.tests.specs.Files.Fields.{program_header, section_header, symbol_entry}
use Rattle.tests.specs.Elf.Written.{fields_bytes, program_fields, program_headers, offset_from}
use Rattle.tests.specs.Elf.Layout.{symbol_fields, symbol_bytes, symbols_bytes, section_fields, header_bytes, headers_bytes}
use Rattle.tests.proofs.Lemmas.{slice_index-field, length-fields_bytes}
use Rattle.elf_write.proofs.Stands.{Stands, stands_left, stands_right, stands_at, AllFit, AllRead, stands_fields}
use Rattle.elf_write.proofs.Listing.{each_are}

-- ---- a table of records of w bytes each, by the fields of a record
module _ {X : Type 0} (fields : X → List (ℕ × ℕ)) (all : List X → List ℕ) (w : ℕ) (rows : (x : X) (xs : List X) → all (x ∷ xs) ≡ fields_bytes (fields x) ++ all xs) (wide : (x : X) → length (fields_bytes (fields x)) ≡ w) where
  -- record i stands at its place
  record_stands : {file : List ℕ} (at i : ℕ) (xs : List X) (d : X) → i < length xs → Stands file at (all xs) → Stands file (at + w * i) (fields_bytes (fields (get_or xs i d)))
  record_stands at i [] d lt s = absurd (omega arith)
  record_stands at zero (x ∷ xs) d lt s = stands_at (at + w * 0) (fields_bytes (fields x)) (omega arith) (stands_left (fields_bytes (fields x)) (all xs) (rw rows at s))
  record_stands at (suc i) (x ∷ xs) d lt s =
      let next = stands_right (at + w) (fields_bytes (fields x)) (all xs) (omega (arith, wide x)) (rw rows at s) in
      stands_at (at + w * suc i) (fields_bytes (fields (get_or xs i d))) (omega arith) (record_stands (at + w) i xs d (omega arith) next)

  -- the records that are read are those that stand there, where each is what its fields say
  table_read : {file : List ℕ} (at n : ℕ) (xs : List X) (read : ℕ → X) → ((i : ℕ) (x : X) → AllRead file (at + w * i) 0 (fields x) → read i ≡ x) → n ≡ length xs
      → All (λ x. AllFit (fields x)) xs → Stands file at (all xs) → each n read ≡ xs
  table_read at n xs read is e fit s =
      each_are n read xs e (λ i d lt. is i (get_or xs i d) (stands_fields (at + w * i) 0 (at + w * i) (fields (get_or xs i d)) (omega arith) (fit i d lt) (record_stands at i xs d lt s)))

-- ---- section headers
header_is : (file : List ℕ) (i : ℕ) (h : SectionHeader) → AllRead file (e_shoff file + 64 * i) 0 (section_fields h) → section_header file i ≡ h
unfolding section_header
header_is file i h f =
    let at = e_shoff file + 64 * i in
    let none : at + 0 ≡ at = omega arith in
    let name : field at 4 file ≡ h.name = rw none at f.0 in
    λ j. record { name = name j; kind = f.1.0 j; flags = f.1.1.0 j; addr = f.1.1.1.0 j; offset = f.1.1.1.1.0 j; size = f.1.1.1.1.1.0 j; link = f.1.1.1.1.1.1.0 j; info = f.1.1.1.1.1.1.1.0 j; entsize = f.1.1.1.1.1.1.1.1.1.0 j }

-- the section headers of a file are those that stand there
pub headers_read : (file : List ℕ) (headers : List SectionHeader) → e_shnum file ≡ length headers → All (λ h. AllFit (section_fields h)) headers → Stands file (e_shoff file) (headers_bytes headers)
    → each (e_shnum file) (section_header file) ≡ headers
unfolding header_bytes
headers_read file headers = table_read section_fields headers_bytes 64 (λ h hs. refl) (λ h. length-fields_bytes (section_fields h)) (e_shoff file) (e_shnum file) headers (section_header file) (header_is file)

-- ---- symbols
entry_is : (table : List ℕ) (j : ℕ) (e : SymbolEntry) → AllRead table (24 * j) 0 (symbol_fields e) → symbol_entry table j ≡ e
unfolding symbol_entry
entry_is table j e f =
    let at = 24 * j in
    let none : at + 0 ≡ at = omega arith in
    let name : field at 4 table ≡ e.name = rw none at f.0 in
    let info = slice_index-field (at + 4) table ∙ f.1.0 in
    let other = slice_index-field (at + 5) table ∙ f.1.1.0 in
    λ k. record { name = name k; info = info k; other = other k; index = f.1.1.1.0 k; value = f.1.1.1.1.0 k; size = f.1.1.1.1.1.0 k }

-- the entries of a symbol table are those that it is made of
pub entries_read : (table : List ℕ) (entries : List SymbolEntry) → All (λ e. AllFit (symbol_fields e)) entries → Stands table 0 (symbols_bytes entries) → each (length entries) (symbol_entry table) ≡ entries
unfolding symbol_bytes
entries_read table entries =
    table_read symbol_fields symbols_bytes 24 (λ e es. refl) (λ e. length-fields_bytes (symbol_fields e)) 0 (length entries) entries (symbol_entry table)
    (λ j e f. let start : 0 + 24 * j ≡ 24 * j = omega arith in entry_is table j e (rw start at f)) refl

-- ---- program headers
-- the header of a segment whose bytes stand at an offset
abbrev pub program_of : ℕ → Segment → ProgramHeader
program_of offset s = record { kind = s.kind; flags = s.flags; offset = offset; vaddr = s.address; filesz = length s.bytes; memsz = s.memory }

-- the headers of segments whose bytes are sought from an offset on
abbrev pub programs_from : ℕ → List Segment → List ProgramHeader
programs_from at [] = []
programs_from at (s ∷ segments) = program_of (offset_from at s.address) s ∷ programs_from (offset_from at s.address + length s.bytes) segments

abbrev pub fields_of_program : ProgramHeader → List (ℕ × ℕ)
fields_of_program p = (4, p.kind) ∷ (4, p.flags) ∷ (8, p.offset) ∷ (8, p.vaddr) ∷ (8, p.vaddr) ∷ (8, p.filesz) ∷ (8, p.memsz) ∷ (8, 4096) ∷ []

unfoldable program_bytes : ProgramHeader → List ℕ
program_bytes p = fields_bytes (fields_of_program p)

same_bytes : (at : ℕ) (segments : List Segment) → program_headers at segments ≡ flat_map program_bytes (programs_from at segments)
unfolding program_bytes
same_bytes at [] = refl
same_bytes at (s ∷ segments) = ap (λ (t : List ℕ). fields_bytes (program_fields s (offset_from at s.address)) ++ t) (same_bytes (offset_from at s.address + length s.bytes) segments)

program_is : (file : List ℕ) (i : ℕ) (p : ProgramHeader) → AllRead file (e_phoff file + 56 * i) 0 (fields_of_program p) → program_header file i ≡ p
unfolding program_header
program_is file i p f =
    let at = e_phoff file + 56 * i in
    let none : at + 0 ≡ at = omega arith in
    let kind : field at 4 file ≡ p.kind = rw none at f.0 in
    λ j. record { kind = kind j; flags = f.1.0 j; offset = f.1.1.0 j; vaddr = f.1.1.1.0 j; filesz = f.1.1.1.1.1.0 j; memsz = f.1.1.1.1.1.1.0 j }

-- the program headers of a file are those that stand there
pub programs_read : (file : List ℕ) (at : ℕ) (segments : List Segment) → e_phnum file ≡ length (programs_from at segments) → All (λ p. AllFit (fields_of_program p)) (programs_from at segments)
    → Stands file (e_phoff file) (program_headers at segments) → each (e_phnum file) (program_header file) ≡ programs_from at segments
unfolding program_bytes
programs_read file at segments e fit s =
    table_read fields_of_program (flat_map program_bytes) 56 (λ p ps. refl) (λ p. length-fields_bytes (fields_of_program p)) (e_phoff file) (e_phnum file) (programs_from at segments) (program_header file) (program_is file) e fit (rw same_bytes at s)

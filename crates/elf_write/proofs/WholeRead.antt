-- The file that was written, read: no rule refuses it, and its parts are those that were given.
use Rattle.std.proofs.Common.{◌≡◌, ℕ, ◌+◌, ◌*◌, ◌^◌, ◌<◌, ◌≤◌, true, false, cond, ltb, eqb, suc, List, [], ◌∷◌, ◌++◌, length, map, Ok, refl, sym, ap, subst, ◌∙◌, arith, length-append}
use Rattle.std.specs.Prelude.{All}
use Rattle.std.proofs.Math.Bool.{and-false}
use Rattle.std.proofs.lemmas.Bool.{le-ltb}
use Rattle.std.proofs.lemmas.List.{map-append}
use Rattle.elf_types.specs.declared.file.Section.{Section}
use Rattle.elf_types.specs.declared.file.Symbol.{Symbol}
use Rattle.elf_types.specs.declared.output.OutFile.{OutFile}
use Rattle.elf_types.specs.declared.output.OutSection.{OutSection}
use Rattle.elf_types.specs.declared.records.SectionHeader.{SectionHeader}
use Rattle.machine.specs.Below.{sum_below, each}
use Rattle.tests.specs.Files.Header.{e_phoff, e_shoff, e_phnum, e_shnum}
use Rattle.tests.specs.Files.Fields.{program_header, section_header}
use Rattle.tests.specs.Files.Rules.{program_table_rule, section_table_rule, table_rules, part_rules, section_strings, section_name, symbol_table, file_size, counted_bytes, verdict}
use Rattle.tests.specs.Files.File.{section_of, IsReadAs}
use Rattle.tests.specs.Elf.Written.{program_headers}
use Rattle.tests.specs.Elf.Layout.{IsWritable, alignment, table_header, names_bytes, string_table, symbol_names, section_names, table_names, symtab_name, strtab_name, shstrtab_name, first_global, headers_bytes, headers_of, null_header, parts_start, own_place, headers_place, written}
use Rattle.tests.specs.Elf.FileRead.{null_section, section_read, table_read, tables_read, file_read}
use Rattle.tests.proofs.Lemmas.{length-program_headers, name_test}
use Rattle.elf_write.specs.Widths.{SegmentFits, SectionFits, SymbolFits}
use Rattle.elf_write.proofs.Sizes.{parts_stand, ends_within, laid_out, length-written, length-headers_of, length-section_names, names_bytes-append}
use Rattle.elf_write.proofs.Stands.{Stands, stands_right, stands_at, stands_within}
use Rattle.elf_write.proofs.Listing.{each_has, each_map, sum_each, total, total-map, total-append}
use Rattle.elf_write.proofs.NamesRead.{NameRead, empty_read, first_name, other_names, names_stand}
use Rattle.elf_write.proofs.RecordsRead.{headers_read}
use Rattle.elf_write.proofs.HeaderRead.{HeaderRead, header_read}
use Rattle.elf_write.proofs.SegmentsRead.{SegmentsPass, segments_pass}
use Rattle.elf_write.proofs.SectionsRead.{Passes, shown, given_read}
use Rattle.elf_write.proofs.TablesRead.{given_headers, front_headers, last_headers, headers_are, all_headers, Known, place_passes, shape_passes, section_strings-are, relas_pass, relas_are}
use Rattle.elf_write.proofs.SymbolsRead.{SymbolsRead, symbol_sum, symbols_read}

-- ---- the tables
tables_pass : (f : OutFile) (file : List ℕ) → HeaderRead f file → 64 + 56 * length f.segments ≤ length file
    → headers_place f + 64 * (length f.sections + 4) ≤ length file → table_rules file ≡ Ok tt
unfolding table_rules program_table_rule section_table_rule
tables_pass f file h programs sections =
    let a : ltb (length file) (64 + 56 * length f.segments) ≡ false = le-ltb _ _ programs in
    let b : ltb (length file) (headers_place f + 64 * (length f.sections + 4)) ≡ false = le-ltb _ _ sections in
    rw (h.rules, h.phnum, h.phoff, h.shnum, h.shoff, a, b, and-false (ltb 0 (length f.segments)), and-false (ltb 0 (length f.sections + 4))) refl

-- ---- the section headers
global_below : (number : ℕ) (symbols : List Symbol) → first_global number symbols ≤ number + length symbols
global_below number [] = omega arith
global_below number (s ∷ symbols) =
    let rest = global_below (number + 1) symbols in
    elim (eqb s.binding 0) as (λ b. cond b (first_global (number + 1) symbols) number ≤ number + suc (length symbols)) [ true ↦ omega arith | false ↦ omega arith ]

small_alignment : (kind : ℕ) → alignment kind < 256 ^ 8
small_alignment kind = grind arith

-- the rules hold of the header of a table
table_passes : (table : List ℕ) (n name kind at size link info entsize : ℕ) (text : List ℕ) → NameRead table name text → n < 2 ^ 32 → name < 2 ^ 32 → kind < 2 ^ 32 → at + size ≤ n → link < 2 ^ 32 → info < 2 ^ 32 → entsize < 2 ^ 32
    → eqb kind 4 ≡ false → Passes table n (table_header name kind at size link info entsize)
table_passes table n name kind at size link info entsize text read small a b ends c d e other = record {
  fits = (omega arith, (omega arith, (omega arith, (omega arith, (omega arith, (omega arith, (omega arith, (omega arith, (small_alignment kind, (omega arith, tt))))))))));
  ends = ends;
  wraps_not = refl;
  ended = read.ended;
  no_rela = other;
}

-- what the headers describe
record HeadersRead (f : OutFile) (table : List ℕ) (n : ℕ) : Type 0 where
  shown_are : map (shown table) (headers_of f) ≡ null_section ∷ (map section_read f.sections ++ tables_read f)
  pass : All (Passes table n) (headers_of f)
  given : All (λ (h : SectionHeader). h.kind ≡ 1) (given_headers f)

headers_shown : (f : OutFile) → IsWritable f → All SectionFits f.sections → HeadersRead f (string_table (section_names f.sections)) (length (written f))
headers_shown f w fits =
    let n : ℕ = length (written f) in
    let table : List ℕ = string_table (section_names f.sections) in
    let s = names_stand (section_names f.sections) in
    let e = ends_within 1073741824 f w.size in
    let is = laid_out f in
    let long = length-written f in
    let named = length-section_names f.sections in
    let global = global_below 1 f.symbols in
    let none = empty_read table in
    let given = given_read table n (parts_start f) f.segments table_names (omega (arith, w.size)) (omega arith) (omega arith) w.segments 1 (own_place f) f.sections (omega arith) (omega arith) fits w.sections w.section_names s in
    let names : List (List ℕ) = map (λ (x : OutSection). x.name) f.sections in
    let at : ℕ = length (string_table names) in
    let one = stands_right at (names_bytes names) (names_bytes table_names) (omega arith) (subst (Stands table 1) (names_bytes-append names table_names) s) in
    let two : Stands table (at + 8) (names_bytes (strtab_name ∷ shstrtab_name ∷ [])) = stands_at (at + 8) (names_bytes (strtab_name ∷ shstrtab_name ∷ [])) (omega arith) (other_names table at symtab_name (strtab_name ∷ shstrtab_name ∷ []) one) in
    let three : Stands table (at + 16) (names_bytes (shstrtab_name ∷ [])) = stands_at (at + 16) (names_bytes (shstrtab_name ∷ [])) (omega arith) (other_names table (at + 8) strtab_name (shstrtab_name ∷ []) two) in
    let symtab = first_name table at symtab_name (strtab_name ∷ shstrtab_name ∷ []) (omega arith) (name_test symtab_name refl) one in
    let strtab = first_name table (at + 8) strtab_name (shstrtab_name ∷ []) (omega arith) (name_test strtab_name refl) two in
    let shstrtab = first_name table (at + 16) shstrtab_name [] (omega arith) (name_test shstrtab_name refl) three in
    let first : shown table null_header ≡ null_section = ap (λ (name : List ℕ). table_read name 0 0) none.is in
    let a = ap (λ (name : List ℕ). table_read name 2 (24 * (1 + length f.symbols))) symtab.is in
    let b = ap (λ (name : List ℕ). table_read name 3 (length (string_table (symbol_names f.symbols)))) strtab.is in
    let c = ap (λ (name : List ℕ). table_read name 3 (length (string_table (section_names f.sections)))) shstrtab.is in
    record {
      shown_are = ap (map (shown table)) (headers_are f) ∙ map-append (shown table) (front_headers f) (last_headers f) ∙ rw (first, given.shown_are, a, b, c) refl;
      pass =
          all_headers (Passes table n) f
          (table_passes table n 0 0 0 0 0 0 0 [] none (omega (arith, w.size)) (omega arith) (omega arith) (omega arith) (omega arith) (omega arith) (omega arith) refl)
          given.pass
          (table_passes table n _ 2 _ _ _ _ 24 symtab_name symtab (omega (arith, w.size)) (omega arith) (omega arith) (omega arith) (omega (arith, w.few_sections)) (omega arith) (omega arith) refl)
          (table_passes table n _ 3 _ _ 0 0 0 strtab_name strtab (omega (arith, w.size)) (omega arith) (omega arith) (omega arith) (omega arith) (omega arith) (omega arith) refl)
          (table_passes table n _ 3 _ _ 0 0 0 shstrtab_name shstrtab (omega (arith, w.size)) (omega arith) (omega arith) (omega arith) (omega arith) (omega arith) (omega arith) refl);
      given = given.given;
    }

-- ---- the bytes of names
names_total : {X : Type 0} (name : X → List ℕ) (xs : List X) → total (λ x. length (name x)) xs ≤ length (names_bytes (map name xs))
names_total name [] = omega arith
names_total name (x ∷ xs) = omega (arith, names_total name xs, length-append (name x ++ 0 ∷ []) (names_bytes (map name xs)), length-append (name x) (0 ∷ []))

section_name_bytes : (f : OutFile) → total (λ s. length s.name) (null_section ∷ (map section_read f.sections ++ tables_read f)) ≤ length (string_table (section_names f.sections))
section_name_bytes f =
    omega (arith, names_total (λ (x : OutSection). x.name) f.sections, total-map section_read (λ (s : Section). length s.name) f.sections, total-append (λ (s : Section). length s.name) (map section_read f.sections) (tables_read f), length-section_names f.sections)

-- ---- the sections
sections_are : (f : OutFile) (file : List ℕ) → Known f file → HeadersRead f (string_table (section_names f.sections)) (length file) → each (e_shnum file) (section_of file) ≡ null_section ∷ (map section_read f.sections ++ tables_read f)
unfolding section_of section_name
sections_are f file known read =
    each_map (shown (section_strings file)) (e_shnum file) (section_header file)
    ∙ ap (λ (t : List ℕ). map (shown t) (each (e_shnum file) (section_header file))) (section_strings-are f file known)
    ∙ ap (map (shown (string_table (section_names f.sections)))) known.headers ∙ read.shown_are

section_sum : (file : List ℕ) → sum_below (e_shnum file) (λ i. length (section_name file i)) ≡ total (λ s. length s.name) (each (e_shnum file) (section_of file))
unfolding section_of
section_sum file = sum_each (λ (s : Section). length s.name) (e_shnum file) (section_of file)

-- ---- the counted bytes
few_bytes : (f : OutFile) (file : List ℕ) → each (e_shnum file) (section_of file) ≡ null_section ∷ (map section_read f.sections ++ tables_read f) → SegmentsPass file (parts_start f) f.segments → SymbolsRead f file
    → headers_place f ≤ 1073741824 → counted_bytes file ≤ 1073741824
unfolding counted_bytes
few_bytes f file sections segments symbols small =
    let is = laid_out f in
    let one : sum_below (e_phnum file) (λ i. file_size (program_header file i)) ≤ own_place f = omega (arith, segments.bytes) in
    let two = section_sum file ∙ ap (total (λ (s : Section). length s.name)) sections in
    let three = symbol_sum file (symbol_table file) ∙ ap (total (λ (s : Symbol). length s.name)) symbols.are in
    let names = section_name_bytes f in
    let strings = names_total (λ (s : Symbol). s.name) f.symbols in
    omega (arith, one, two, three, names, strings)

-- ---- the whole
header_of_written : (f : OutFile) → IsWritable f → f.entry < 2 ^ 64 → f.flags < 2 ^ 32 → HeaderRead f (written f)
unfolding written
header_of_written f w he hf =
    let e = ends_within 1073741824 f w.size in
    header_read f _ _ refl he hf w.few_segments w.few_sections (omega (arith, e.headers))

known_of : (f : OutFile) → IsWritable f → f.entry < 2 ^ 64 → f.flags < 2 ^ 32 → HeadersRead f (string_table (section_names f.sections)) (length (written f)) → Known f (written f)
known_of f w he hf read =
    let file : List ℕ = written f in
    let header = header_of_written f w he hf in
    let parts = parts_stand f in
    let headers = headers_read file (headers_of f) (header.shnum ∙ sym (length-headers_of f)) (λ i d lt. (read.pass i d lt).fits) (stands_at (e_shoff file) (headers_bytes (headers_of f)) (sym header.shoff) parts.headers) in
    record {
      header = header;
      parts = parts;
      headers = headers;
      pass = each_has (Passes (string_table (section_names f.sections)) (length file)) (e_shnum file) (section_header file) (headers_of f) headers read.pass;
      given = read.given;
    }

-- the file that was written is read as the one that was given
pub reads_back : (f : OutFile) → IsWritable f → f.entry < 2 ^ 64 → f.flags < 2 ^ 32 → All SegmentFits f.segments → All SectionFits f.sections → All SymbolFits f.symbols
    → IsReadAs (written f) (file_read f)
unfolding verdict part_rules
reads_back f w he hf segments_fit sections_fit symbols_fit =
    let file : List ℕ = written f in
    let e = ends_within 1073741824 f w.size in
    let is = laid_out f in
    let long = length-written f in
    let read = headers_shown f w sections_fit in
    let known = known_of f w he hf read in
    let programs = stands_within (program_headers (parts_start f) f.segments) known.parts.programs in
    let tables = tables_pass f file known.header (omega (arith, programs, length-program_headers (parts_start f) f.segments)) (omega (arith, long)) in
    let segments = segments_pass file (parts_start f) f.segments known.header.phnum (omega (arith, w.size)) w.segments segments_fit w.apart
    (stands_at (e_phoff file) (program_headers (parts_start f) f.segments) (sym known.header.phoff) known.parts.programs) known.parts.segments in
    let sections = sections_are f file known read in
    let symbols = symbols_read f file known (omega arith) w.symbols symbols_fit w.symbol_names in
    record {
      file = record {
        accepted = rw (tables, segments.place, place_passes f file known, segments.shape, segments.overlap, shape_passes f file known, symbols.shape, relas_pass f file known) refl;
        entry = sym known.header.entry;
        flags = sym known.header.flags;
        segments = sym segments.are;
        sections = sym sections;
        symbols = sym symbols.are;
        relas = sym (relas_are f file known);
      };
      within = record { sections = omega (arith, known.header.shnum, w.few_sections); bytes = few_bytes f file sections segments symbols e.headers };
    }

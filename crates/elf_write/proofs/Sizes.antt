-- How long the parts of the file are, and where they stand.
use Rattle.std.proofs.Common.{◌≡◌, ℕ, ◌+◌, ◌-◌, ◌*◌, ◌≤◌, List, [], ◌∷◌, ◌++◌, length, map, replicate, refl, sym, ◌∙◌, ap, arith, append_assoc, length-append}
use Rattle.std.proofs.lemmas.List.{length-replicate}
use Rattle.elf_types.specs.declared.file.Segment.{Segment}
use Rattle.elf_types.specs.declared.file.Symbol.{Symbol}
use Rattle.elf_types.specs.declared.output.OutFile.{OutFile}
use Rattle.elf_types.specs.declared.output.OutSection.{OutSection}
use Rattle.elf_types.specs.declared.records.SectionHeader.{SectionHeader}
use Rattle.elf_types.specs.declared.records.SymbolEntry.{SymbolEntry}
use Rattle.tests.specs.Elf.Written.{fields_bytes, program_headers, segments_bytes, end_from}
use Rattle.tests.specs.Elf.Layout.{names_bytes, string_table, symbol_names, section_names, table_names, symbol_fields, symbol_bytes, symbols_bytes, entries_from, symbol_entries, own_bytes, section_fields, header_bytes, headers_bytes, headers_from, headers_of, table_headers, file_fields, file_header, parts_start, own_place, symbols_place, strings_place, names_place, headers_place, tables_bytes, written}
use Rattle.elf_write.specs.Places.{PartsEndWithin}
use Rattle.tests.proofs.Lemmas.{length-fields_bytes, length-program_headers, length-segments_bytes}
use Rattle.elf_write.proofs.Stands.{Stands, Ends, ends_left, ends_right, ends_whole}

-- ---- records
pub length-file_fields : (entry flags segments headers sections : ℕ) → length (fields_bytes (file_fields entry flags segments headers sections)) ≡ 64
length-file_fields entry flags segments headers sections = length-fields_bytes (file_fields entry flags segments headers sections)

-- ---- tables
pub length-symbols_bytes : (entries : List SymbolEntry) → length (symbols_bytes entries) ≡ 24 * length entries
unfolding symbol_bytes
length-symbols_bytes [] = refl
length-symbols_bytes (e ∷ entries) = omega (arith, length-append (symbol_bytes e) (symbols_bytes entries), length-fields_bytes (symbol_fields e), length-symbols_bytes entries)

pub length-headers_bytes : (headers : List SectionHeader) → length (headers_bytes headers) ≡ 64 * length headers
unfolding header_bytes
length-headers_bytes [] = refl
length-headers_bytes (h ∷ headers) = omega (arith, length-append (header_bytes h) (headers_bytes headers), length-fields_bytes (section_fields h), length-headers_bytes headers)

pub length-entries_from : (name : ℕ) (symbols : List Symbol) → length (entries_from name symbols) ≡ length symbols
length-entries_from name [] = refl
length-entries_from name (s ∷ symbols) = omega (arith, length-entries_from (name + length s.name + 1) symbols)

pub length-headers_from : (start : ℕ) (segments : List Segment) (name own : ℕ) (sections : List OutSection) → length (headers_from start segments name own sections) ≡ length sections
length-headers_from start segments name own [] = refl
length-headers_from start segments name own (x ∷ sections) =
    omega (arith, length-headers_from start segments (name + length x.name + 1) (own + length x.bytes) sections)

-- the null section, the given ones and three tables
pub length-headers_of : (f : OutFile) → length (headers_of f) ≡ length f.sections + 4
unfolding headers_of table_headers
length-headers_of f =
    let given : List SectionHeader = headers_from (parts_start f) f.segments 1 (own_place f) f.sections in
    omega (arith, length-append given (table_headers f), length-headers_from (parts_start f) f.segments 1 (own_place f) f.sections)

-- headers in two lists
pub headers_bytes-append : (xs ys : List SectionHeader) → headers_bytes (xs ++ ys) ≡ headers_bytes xs ++ headers_bytes ys
headers_bytes-append [] ys = refl
headers_bytes-append (x ∷ xs) ys = ap (λ (t : List ℕ). header_bytes x ++ t) (headers_bytes-append xs ys) ∙ sym (append_assoc (header_bytes x) (headers_bytes xs) (headers_bytes ys))

-- ---- names
-- names in two lists
pub names_bytes-append : (xs ys : List (List ℕ)) → names_bytes (xs ++ ys) ≡ names_bytes xs ++ names_bytes ys
names_bytes-append [] ys = refl
names_bytes-append (x ∷ xs) ys = ap (λ (t : List ℕ). (x ++ 0 ∷ []) ++ t) (names_bytes-append xs ys) ∙ sym (append_assoc (x ++ 0 ∷ []) (names_bytes xs) (names_bytes ys))

-- the names of the three tables have 26 bytes, and a zero byte stands before all names
pub length-section_names : (sections : List OutSection) → length (string_table (section_names sections)) ≡ length (names_bytes (map (λ x. x.name) sections)) + 27
length-section_names sections =
    let given : List ℕ = names_bytes (map (λ x. x.name) sections) in
    let tables : List ℕ = names_bytes table_names in
    omega (arith, ap length (names_bytes-append (map (λ x. x.name) sections) table_names), length-append given tables)

-- ---- places
-- each part stands behind the ones before it
pub record IsLaidOut (f : OutFile) : Type 0 where
  pub own : end_from (parts_start f) f.segments ≡ own_place f
  pub symbols : own_place f + length (own_bytes f.sections) ≤ symbols_place f
  pub strings : symbols_place f + 24 * (1 + length f.symbols) ≡ strings_place f
  pub names : strings_place f + length (string_table (symbol_names f.symbols)) ≡ names_place f
  pub headers : names_place f + length (string_table (section_names f.sections)) ≤ headers_place f

pub laid_out : (f : OutFile) → IsLaidOut f
unfolding own_place symbols_place strings_place names_place headers_place
laid_out f = record { own = refl; symbols = omega arith; strings = refl; names = refl; headers = omega arith }

-- ---- where they stand in a file
pub record PartsStand (f : OutFile) (file : List ℕ) : Type 0 where
  pub programs : Stands file 64 (program_headers (parts_start f) f.segments)
  pub segments : Stands file (parts_start f) (segments_bytes (parts_start f) f.segments)
  pub symbols : Stands file (symbols_place f) (symbols_bytes (symbol_entries f.symbols))
  pub strings : Stands file (strings_place f) (string_table (symbol_names f.symbols))
  pub names : Stands file (names_place f) (string_table (section_names f.sections))
  pub headers : Stands file (headers_place f) (headers_bytes (headers_of f))
  pub size : length file ≡ headers_place f + length (headers_bytes (headers_of f))

pub parts_stand : (f : OutFile) → PartsStand f (written f)
unfolding written tables_bytes
parts_stand f =
    let is = laid_out f in
    let header : List ℕ = file_header f in
    let programs : List ℕ = program_headers (parts_start f) f.segments in
    let segments : List ℕ = segments_bytes (parts_start f) f.segments in
    let own : List ℕ = own_bytes f.sections in
    let entries : List ℕ = symbols_bytes (symbol_entries f.symbols) in
    let strings : List ℕ = string_table (symbol_names f.symbols) in
    let names : List ℕ = string_table (section_names f.sections) in
    let headers : List ℕ = headers_bytes (headers_of f) in
    let before : List ℕ = replicate (symbols_place f - (own_place f + length own)) 0 in
    let behind : List ℕ = replicate (headers_place f - (names_place f + length names)) 0 in
    let long = length-replicate {A = ℕ} (symbols_place f - (own_place f + length own)) 0 in
    let after = length-replicate {A = ℕ} (headers_place f - (names_place f + length names)) 0 in
    let tables : List ℕ = own ++ (before ++ (entries ++ (strings ++ (names ++ (behind ++ headers))))) in
    let whole : Ends (header ++ (programs ++ (segments ++ tables))) 0 (header ++ (programs ++ (segments ++ tables))) = record { front = []; parts = refl; before = refl } in
    let s1 = ends_right 64 header (programs ++ (segments ++ tables)) (omega (arith, length-file_fields f.entry f.flags (length f.segments) (headers_place f) (length f.sections))) whole in
    let s2 = ends_right (parts_start f) programs (segments ++ tables) (omega (arith, length-program_headers (parts_start f) f.segments)) s1 in
    let s3 = ends_right (own_place f) segments tables (length-segments_bytes (parts_start f) f.segments ∙ is.own) s2 in
    let s4 = ends_right (own_place f + length own) own (before ++ (entries ++ (strings ++ (names ++ (behind ++ headers))))) refl s3 in
    let s5 = ends_right (symbols_place f) before (entries ++ (strings ++ (names ++ (behind ++ headers)))) (omega (arith, long)) s4 in
    let s6 = ends_right (strings_place f) entries (strings ++ (names ++ (behind ++ headers))) (omega (arith, length-symbols_bytes (symbol_entries f.symbols), length-entries_from 1 f.symbols)) s5 in
    let s7 = ends_right (names_place f) strings (names ++ (behind ++ headers)) is.names s6 in
    let s8 = ends_right (names_place f + length names) names (behind ++ headers) refl s7 in
    let s9 = ends_right (headers_place f) behind headers (omega (arith, after)) s8 in
    record {
      programs = ends_left programs (segments ++ tables) s1;
      segments = ends_left segments tables s2;
      symbols = ends_left entries (strings ++ (names ++ (behind ++ headers))) s5;
      strings = ends_left strings (names ++ (behind ++ headers)) s6;
      names = ends_left names (behind ++ headers) s7;
      headers = ends_whole headers s9;
      size = omega (arith, ap length s9.parts, length-append s9.front headers, s9.before);
    }

-- a file ends behind its section headers
pub length-written : (f : OutFile) → length (written f) ≡ headers_place f + 64 * (length f.sections + 4)
length-written f = let p = parts_stand f in omega (arith, p.size, length-headers_bytes (headers_of f), length-headers_of f)

-- the parts of a file that is not too long lie within that bound
pub ends_within : (n : ℕ) (f : OutFile) → length (written f) ≤ n → PartsEndWithin n f
ends_within n f h =
    let is = laid_out f in
    let long = length-written f in
    let named = length-section_names f.sections in
    record {
      segments = omega arith;
      own = is.symbols;
      symbols = omega arith;
      strings = omega arith;
      strings_size = omega arith;
      names = omega arith;
      names_size = omega arith;
      names_end = is.headers;
      headers = omega arith;
    }

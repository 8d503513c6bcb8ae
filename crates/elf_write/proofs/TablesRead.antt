-- The section headers of a written file as a whole: the added tables, and what the rules ask of sections.
use Rattle.std.proofs.Common.{◌≡◌, ℕ, ◌+◌, ◌*◌, ◌<◌, ◌&&◌, not, Bool, true, false, ltb, eqb, List, [], ◌∷◌, ◌++◌, length, get_or, Some, Ok, refl, sym, ap, subst, ◌∙◌, arith}
use Rattle.std.specs.Prelude.{All}
use Rattle.std.specs.Option.{is_some}
use Rattle.std.proofs.Math.Bool.{and-false}
use Rattle.std.proofs.lemmas.Bool.{le-ltb, eqb-true}
use Rattle.std.proofs.lemmas.Bool.Decides.{nat_tests}
use Rattle.std.proofs.lemmas.List.{get_or-append-add, get_or_append_left}
use Rattle.std.proofs.lemmas.List.Elements.{All-cons, All-append, All-from_recursion}
use Rattle.elf_types.specs.declared.output.OutFile.{OutFile}
use Rattle.elf_types.specs.declared.records.SectionHeader.{SectionHeader}
use Rattle.elf_types.specs.Abi.{is_string_table}
use Rattle.machine.specs.Below.{each, gather}
use Rattle.tests.specs.Files.Header.{e_shnum}
use Rattle.tests.specs.Files.Fields.{e_shstrndx, section_header}
use Rattle.tests.specs.Files.Rules.{names_header, is_unended, is_section_outside, section_place_rule, section_bytes, is_section_misshapen, section_shape_rule, section_strings, symbol_table, rela_fault, rela_shape_rule}
use Rattle.tests.specs.Files.File.{relas_of}
use Rattle.tests.specs.Elf.Layout.{string_table, symbol_names, section_names, symbols_bytes, symbol_entries, parts_start, own_place, symbols_place, strings_place, names_place, table_header, null_header, headers_from, symtab_header, strtab_header, shstrtab_header, table_headers, headers_of}
use Rattle.machine.proofs.Lemmas.{first_found, first_none, gather_nothing}
use Rattle.elf_write.proofs.Sizes.{PartsStand, length-headers_from, length-symbols_bytes, length-entries_from}
use Rattle.elf_write.proofs.Stands.{Stands, stands_slice}
use Rattle.elf_write.proofs.Listing.{get_each}
use Rattle.elf_write.proofs.HeaderRead.{HeaderRead}
use Rattle.elf_write.proofs.SegmentsRead.{third_fails}
use Rattle.elf_write.proofs.SectionsRead.{Passes}

-- ---- the headers in order
abbrev pub given_headers : OutFile → List SectionHeader
given_headers f = headers_from (parts_start f) f.segments 1 (own_place f) f.sections

-- the null section and the given ones
abbrev pub front_headers : OutFile → List SectionHeader
front_headers f = null_header ∷ given_headers f

abbrev pub last_headers : OutFile → List SectionHeader
last_headers f = symtab_header f ∷ strtab_header f ∷ shstrtab_header f ∷ []

pub headers_are : (f : OutFile) → headers_of f ≡ front_headers f ++ last_headers f
unfolding headers_of table_headers
headers_are f = refl

-- what holds of each of them
pub all_headers : (P : SectionHeader → Type 0) (f : OutFile) → P null_header → All P (given_headers f) → P (symtab_header f) → P (strtab_header f) → P (shstrtab_header f) → All P (headers_of f)
all_headers P f null given symtab strtab shstrtab =
    let last = All-from_recursion P (last_headers f) (symtab, (strtab, (shstrtab, tt))) in
    subst (All P) (sym (headers_are f)) (All-append P (front_headers f) (last_headers f) (All-cons P null_header (given_headers f) null given) last)

-- ---- what is known of a file
pub record Known (f : OutFile) (file : List ℕ) : Type 0 where
  pub header : HeaderRead f file
  pub parts : PartsStand f file
  pub headers : each (e_shnum file) (section_header file) ≡ headers_of f
  pub pass : (i : ℕ) → i < e_shnum file → Passes (string_table (section_names f.sections)) (length file) (section_header file i)
  pub given : All (λ (h : SectionHeader). h.kind ≡ 1) (given_headers f)

-- header i, by the list of all
header_at : (f : OutFile) (file : List ℕ) → Known f file → (i : ℕ) (d : SectionHeader) → i < length f.sections + 4 → section_header file i ≡ get_or (front_headers f ++ last_headers f) i d
header_at f file known i d lt = sym (get_each (e_shnum file) (section_header file) i d (omega (arith, known.header.shnum))) ∙ ap (λ (xs : List SectionHeader). get_or xs i d) (known.headers ∙ headers_are f)

-- header k behind the null section and the given ones
behind : (f : OutFile) (file : List ℕ) → Known f file → (k : ℕ) → k < 3 → section_header file (length f.sections + 1 + k) ≡ get_or (last_headers f) k null_header
behind f file known k lt =
    let e : length (front_headers f) + k ≡ length f.sections + 1 + k = omega (arith, length-headers_from (parts_start f) f.segments 1 (own_place f) f.sections) in
    header_at f file known (length f.sections + 1 + k) null_header (omega arith) ∙ ap (λ (j : ℕ). get_or (front_headers f ++ last_headers f) j null_header) (sym e) ∙ get_or-append-add (front_headers f) (last_headers f) k null_header

pub symtab_at : (f : OutFile) (file : List ℕ) → Known f file → section_header file (length f.sections + 1) ≡ symtab_header f
symtab_at f file known = ap (section_header file) (omega arith) ∙ behind f file known 0 (omega arith)

pub strtab_at : (f : OutFile) (file : List ℕ) → Known f file → section_header file (length f.sections + 2) ≡ strtab_header f
strtab_at f file known = ap (section_header file) (omega arith) ∙ behind f file known 1 (omega arith)

pub shstrtab_at : (f : OutFile) (file : List ℕ) → Known f file → section_header file (length f.sections + 3) ≡ shstrtab_header f
shstrtab_at f file known = ap (section_header file) (omega arith) ∙ behind f file known 2 (omega arith)

-- ---- the bytes of the tables
table_bytes : (file : List ℕ) (name kind at size : ℕ) (xs : List ℕ) (link info entsize : ℕ) → eqb kind 0 ≡ false → eqb kind 8 ≡ false → size ≡ length xs → 0 < length xs → Stands file at xs
    → section_bytes file (table_header name kind at size link info entsize) ≡ xs
unfolding section_bytes
table_bytes file name kind at size xs link info entsize a b e some s =
    let test : ltb 0 (length xs) ≡ true = grind (arith, nat_tests) in
    rw (a, b, e, test) (stands_slice xs s)

pub entries_are : (f : OutFile) (file : List ℕ) → Known f file → section_bytes file (symtab_header f) ≡ symbols_bytes (symbol_entries f.symbols)
entries_are f file known =
    let long : 24 * (1 + length f.symbols) ≡ length (symbols_bytes (symbol_entries f.symbols)) = omega (arith, length-symbols_bytes (symbol_entries f.symbols), length-entries_from 1 f.symbols) in
    table_bytes file _ 2 (symbols_place f) (24 * (1 + length f.symbols)) (symbols_bytes (symbol_entries f.symbols)) _ _ 24 refl refl long (omega (arith, long)) known.parts.symbols

pub strings_are : (f : OutFile) (file : List ℕ) → Known f file → section_bytes file (strtab_header f) ≡ string_table (symbol_names f.symbols)
strings_are f file known = table_bytes file _ 3 (strings_place f) _ (string_table (symbol_names f.symbols)) 0 0 0 refl refl refl (omega arith) known.parts.strings

pub names_are : (f : OutFile) (file : List ℕ) → Known f file → section_bytes file (shstrtab_header f) ≡ string_table (section_names f.sections)
names_are f file known = table_bytes file _ 3 (names_place f) _ (string_table (section_names f.sections)) 0 0 0 refl refl refl (omega arith) known.parts.names

-- the section with the names is the last
pub last_names : (f : OutFile) (file : List ℕ) → Known f file → section_header file (e_shstrndx file) ≡ shstrtab_header f
last_names f file known = ap (section_header file) known.header.shstrndx ∙ shstrtab_at f file known

pub section_strings-are : (f : OutFile) (file : List ℕ) → Known f file → section_strings file ≡ string_table (section_names f.sections)
unfolding section_strings
section_strings-are f file known =
    let some : eqb (e_shstrndx file) 0 ≡ false = rw known.header.shstrndx (grind (arith, nat_tests)) in
    rw (some, last_names f file known) (names_are f file known)

-- ---- the rules on sections
pub place_passes : (f : OutFile) (file : List ℕ) → Known f file → section_place_rule file ≡ Ok tt
unfolding section_place_rule is_section_outside
place_passes f file known =
    rw (first_none (e_shnum file) (λ i. is_section_outside file (section_header file i)) (λ i lt.
    let short : ltb (length file) ((section_header file i).offset + (section_header file i).size) ≡ false = le-ltb _ _ (known.pass i lt).ends in
    rw short (and-false _))) refl

-- the last test fails where the one before it passes
last_fails : (a b c : Bool) → (b ≡ true → c ≡ false) → (a && b && c) ≡ false
last_fails a true c h = rw (h refl) (and-false (a && true))
last_fails a false c h = rw (and-false a) refl

shaped : (f : OutFile) (file : List ℕ) → Known f file → (i : ℕ) → i < e_shnum file → is_section_misshapen file i ≡ false
unfolding is_section_misshapen
shaped f file known i lt =
    let h : SectionHeader = section_header file i in
    let pass = known.pass i lt in
    let table = ap (section_bytes file) (last_names f file known) ∙ names_are f file known in
    let named = last_fails (not (eqb (e_shstrndx file) 0)) (eqb i (e_shstrndx file)) (not (is_string_table h.kind)) (λ t.
    let here : h ≡ shstrtab_header f = ap (section_header file) (eqb-true i (e_shstrndx file) t) ∙ last_names f file known in
    rw here refl) in
    let ended = third_fails (not (eqb (e_shstrndx file) 0)) (is_string_table (names_header file).kind) _ (ap (λ (t : List ℕ). is_unended t h.name) table ∙ pass.ended) in
    rw (pass.wraps_not, named, ended) refl

pub shape_passes : (f : OutFile) (file : List ℕ) → Known f file → section_shape_rule file ≡ Ok tt
unfolding section_shape_rule
shape_passes f file known = rw (first_none (e_shnum file) (is_section_misshapen file) (shaped f file known)) refl

-- ---- the symbol table
pub symbol_table-is : (f : OutFile) (file : List ℕ) → Known f file → symbol_table file ≡ Some (length f.sections + 1)
unfolding symbol_table
symbol_table-is f file known =
    let long = length-headers_from (parts_start f) f.segments 1 (own_place f) f.sections in
    let others = All-cons (λ (h : SectionHeader). eqb h.kind 2 ≡ false) null_header (given_headers f) refl (λ k d lt. rw (known.given k d lt) refl) in
    first_found (e_shnum file) (λ i. eqb (section_header file i).kind 2) (length f.sections + 1) (omega (arith, known.header.shnum)) (rw (symtab_at f file known) refl)
    (λ j lt.
    let front : j < length (front_headers f) = omega (arith, long) in
    let here = header_at f file known j null_header (omega arith) ∙ get_or_append_left (front_headers f) (last_headers f) null_header j front in
    ap (λ (h : SectionHeader). eqb h.kind 2) here ∙ others j null_header front)

-- ---- no relocation
pub relas_pass : (f : OutFile) (file : List ℕ) → Known f file → rela_shape_rule file ≡ Ok tt
unfolding rela_shape_rule rela_fault
relas_pass f file known = rw (first_none (e_shnum file) (λ i. is_some (rela_fault file (section_header file i))) (λ i lt. rw (known.pass i lt).no_rela refl)) refl

pub relas_are : (f : OutFile) (file : List ℕ) → Known f file → gather (e_shnum file) (λ i. relas_of file (section_header file i)) ≡ []
unfolding relas_of
relas_are f file known = gather_nothing (e_shnum file) (λ i. relas_of file (section_header file i)) (λ i lt. rw (known.pass i lt).no_rela refl)

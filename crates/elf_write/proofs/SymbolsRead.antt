-- The symbols that were written, read.
use Rattle.std.proofs.Common.{◌≡◌, ℕ, zero, suc, ◌+◌, ◌*◌, ◌/◌, ◌%◌, ◌^◌, ◌<◌, true, false, ltb, eqb, List, [], ◌∷◌, length, map, get_or, Option, Some, None, Ok, refl, sym, ap, ◌∙◌, arith}
use Rattle.std.specs.Prelude.{All}
use Rattle.std.proofs.lemmas.Bool.Decides.{nat_tests}
use Rattle.std.proofs.lemmas.List.Elements.{All-cons, All-nil, All-head, All-tail}
use Rattle.elf_types.specs.declared.file.Symbol.{Symbol}
use Rattle.elf_types.specs.declared.output.OutFile.{OutFile}
use Rattle.elf_types.specs.declared.records.SymbolEntry.{SymbolEntry}
use Rattle.machine.specs.Below.{each}
use Rattle.tests.specs.Files.Header.{e_shnum}
use Rattle.tests.specs.Files.Fields.{section_header, symbol_entry}
use Rattle.tests.specs.Files.Rules.{is_unended, name_at, section_bytes, strings_of, is_misnamed, symbols_rule, symbol_shape_rule, symbol_table, symbol_name, symbol_name_bytes}
use Rattle.tests.specs.Files.File.{symbol_of, symbols_at}
use Rattle.tests.specs.Elf.Layout.{string_table, symbol_names, names_bytes, symbol_fields, symbols_bytes, entry_with, entries_from, null_entry, symbol_entries, symtab_header, null_symbol, IsName, IsSymbol}
use Rattle.machine.proofs.Lemmas.{first_none}
use Rattle.elf_write.specs.Widths.{SymbolFits}
use Rattle.elf_write.proofs.Sizes.{length-entries_from}
use Rattle.elf_write.proofs.Stands.{Stands, stands_whole, stands_within, AllFit}
use Rattle.elf_write.proofs.Listing.{get_each, each_has, each_same, each_map, sum_each, total}
use Rattle.elf_write.proofs.NamesRead.{first_name, other_names, empty_read, names_stand}
use Rattle.elf_write.proofs.RecordsRead.{entries_read}
use Rattle.elf_write.proofs.TablesRead.{Known, symtab_at, strtab_at, symbol_table-is, strings_are, entries_are}
use Rattle.std.proofs.Math.Bool.{and-false}

-- ---- their entries
-- what an entry describes, with a table of names
abbrev symbol_shown : List ℕ → SymbolEntry → Symbol
symbol_shown table e = record { name = name_at table e.name; value = e.value; size = e.size; kind = e.info % 16; binding = e.info / 16; other = e.other; index = e.index }

-- an entry fits its fields, and its name has an end
record Passes (table : List ℕ) (e : SymbolEntry) : Type 0 where
  fits : AllFit (symbol_fields e)
  ended : is_unended table e.name ≡ false

record EntriesRead (table : List ℕ) (entries : List SymbolEntry) (symbols : List Symbol) : Type 0 where
  shown_are : map (symbol_shown table) entries ≡ symbols
  pass : All (Passes table) entries

one_shown : (table : List ℕ) (name : ℕ) (s : Symbol) → IsSymbol s → name_at table name ≡ s.name → symbol_shown table (entry_with name s) ≡ s
one_shown table name s is e =
    let kind : (16 * s.binding + s.kind) % 16 ≡ s.kind = omega (arith, is.kind) in
    let binding : (16 * s.binding + s.kind) / 16 ≡ s.binding = omega (arith, is.kind) in
    rw (e, kind, binding) refl

entries_shown : (table : List ℕ) (name : ℕ) (symbols : List Symbol) → length table < 2 ^ 32 → 0 < name → All IsSymbol symbols → All SymbolFits symbols → All (λ s. IsName s.name) symbols
    → Stands table name (names_bytes (symbol_names symbols)) → EntriesRead table (entries_from name symbols) symbols
entries_shown table name [] small above are fits names s = record { shown_are = refl; pass = All-nil (Passes table) }
entries_shown table name (x ∷ symbols) small above are fits names s =
    let others : List (List ℕ) = symbol_names symbols in
    let is = All-head IsSymbol x symbols are in
    let w = All-head SymbolFits x symbols fits in
    let within = stands_within (names_bytes (x.name ∷ others)) s in
    let one = first_name table name x.name others above (All-head (λ s. IsName s.name) x symbols names) s in
    let rest = entries_shown table (name + length x.name + 1) symbols small (omega arith) (All-tail IsSymbol x symbols are) (All-tail SymbolFits x symbols fits) (All-tail (λ s. IsName s.name) x symbols names)
    (other_names table name x.name others s) in
    let head = one_shown table name x is one.is in
    let fit : AllFit (symbol_fields (entry_with name x)) = (omega arith, (omega arith, (omega arith, (omega arith, (omega arith, (omega arith, tt)))))) in
    record {
      shown_are = rw (head, rest.shown_are) refl;
      pass = All-cons (Passes table) (entry_with name x) (entries_from (name + length x.name + 1) symbols) (record { fits = fit; ended = one.ended }) rest.pass;
    }

-- the null symbol and the given ones
all_shown : (symbols : List Symbol) → length (string_table (symbol_names symbols)) < 2 ^ 32 → All IsSymbol symbols → All SymbolFits symbols → All (λ s. IsName s.name) symbols
    → EntriesRead (string_table (symbol_names symbols)) (symbol_entries symbols) (null_symbol ∷ symbols)
all_shown symbols small are fits names =
    let table : List ℕ = string_table (symbol_names symbols) in
    let rest = entries_shown table 1 symbols small (omega arith) are fits names (names_stand (symbol_names symbols)) in
    let none = empty_read table in
    let head : symbol_shown table null_entry ≡ null_symbol = rw none.is refl in
    let fit : AllFit (symbol_fields null_entry) = (omega arith, (omega arith, (omega arith, (omega arith, (omega arith, (omega arith, tt)))))) in
    record {
      shown_are = rw (head, rest.shown_are) refl;
      pass = All-cons (Passes table) null_entry (entries_from 1 symbols) (record { fits = fit; ended = none.ended }) rest.pass;
    }

-- ---- of a file
pub record SymbolsRead (f : OutFile) (file : List ℕ) : Type 0 where
  pub shape : symbol_shape_rule file ≡ Ok tt
  pub are : symbols_at file (symbol_table file) ≡ null_symbol ∷ f.symbols

-- the bytes of the names of symbols that are read
pub symbol_sum : (file : List ℕ) (o : Option ℕ) → symbol_name_bytes file o ≡ total (λ (s : Symbol). length s.name) (symbols_at file o)
unfolding symbol_of
symbol_sum file None = refl
symbol_sum file (Some i) = sum_each (λ (s : Symbol). length s.name) ((section_header file i).size / 24) (symbol_of file (section_header file i))

module _ (f : OutFile) (file : List ℕ) (known : Known f file) (read : EntriesRead (string_table (symbol_names f.symbols)) (symbol_entries f.symbols) (null_symbol ∷ f.symbols)) where
  abbrev names : List ℕ
  names = string_table (symbol_names f.symbols)

  abbrev table : List ℕ
  table = symbols_bytes (symbol_entries f.symbols)

  abbrev n : ℕ
  n = length (symbol_entries f.symbols)

  strings : strings_of file (symtab_header f) ≡ names
  unfolding strings_of
  strings = ap (section_bytes file) (strtab_at f file known) ∙ strings_are f file known

  entries : each n (symbol_entry table) ≡ symbol_entries f.symbols
  entries = entries_read table (symbol_entries f.symbols) (λ j d lt. (read.pass j d lt).fits) (stands_whole table)

  count : 24 * (1 + length f.symbols) / 24 ≡ n
  count = omega (arith, length-entries_from 1 f.symbols)

  named : (j : ℕ) → j < n → is_misnamed file (symtab_header f) j ≡ false
  unfolding is_misnamed
  named j lt =
      let pass = each_has (Passes names) n (symbol_entry table) (symbol_entries f.symbols) entries read.pass j lt in
      let same : is_unended (strings_of file (symtab_header f)) (symbol_entry (section_bytes file (symtab_header f)) j).name ≡ false = rw (strings, entries_are f file known) pass.ended in
      rw same (and-false (ltb 0 j))

  shape : symbols_rule file (symtab_header f) ≡ Ok tt
  unfolding symbols_rule
  shape =
      let none = first_none n (is_misnamed file (symtab_header f)) named in
      let rest : 24 * (1 + length f.symbols) % 24 ≡ 0 = omega arith in
      let whole : eqb (24 * (1 + length f.symbols) % 24) 0 ≡ true = ap (λ k. eqb k 0) rest in
      let inside : ltb (length f.sections + 2) (e_shnum file) ≡ true = rw known.header.shnum (grind (arith, nat_tests)) in
      rw (whole, inside, strtab_at f file known, count, none) refl

  -- symbol j is what entry j describes
  one_symbol : (j : ℕ) → j < n → symbol_of file (symtab_header f) j ≡ symbol_shown names (symbol_entry table j)
  unfolding symbol_of symbol_name
  one_symbol zero lt =
      let null : symbol_entry table 0 ≡ null_entry = sym (get_each n (symbol_entry table) 0 null_entry lt) ∙ ap (λ (es : List SymbolEntry). get_or es 0 null_entry) entries in
      let none = empty_read names in
      rw (entries_are f file known, null, none.is) refl
  one_symbol (suc j) lt =
      let some : eqb (suc j) 0 ≡ false = grind (arith, nat_tests) in
      rw (strings, entries_are f file known, some) refl

  same_symbols : each n (symbol_of file (symtab_header f)) ≡ null_symbol ∷ f.symbols
  same_symbols =
      each_same n (symbol_of file (symtab_header f)) (λ j. symbol_shown names (symbol_entry table j)) one_symbol
      ∙ each_map (symbol_shown names) n (symbol_entry table) ∙ ap (map (symbol_shown names)) entries ∙ read.shown_are

  all_read : SymbolsRead f file
  unfolding symbol_shape_rule
  all_read = let found = symbol_table-is f file known in let at = symtab_at f file known in record { shape = rw (found, at) shape; are = rw (found, at, count) same_symbols }

pub symbols_read : (f : OutFile) (file : List ℕ) → Known f file → length (string_table (symbol_names f.symbols)) < 2 ^ 32 → All IsSymbol f.symbols → All SymbolFits f.symbols → All (λ s. IsName s.name) f.symbols → SymbolsRead f file
symbols_read f file known small are fits names = all_read f file known (all_shown f.symbols small are fits names)

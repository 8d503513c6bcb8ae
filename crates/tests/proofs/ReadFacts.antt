-- What holds of a file that was read: no segment has more bytes in the file than in memory, names have no zero byte,
-- and the types and bindings of symbols have four bits.
use Rattle.std.proofs.Common.{◌≡◌, ◌≢◌, ℕ, ◌+◌, ◌-◌, ◌*◌, ◌/◌, ◌<◌, ◌≤◌, Bool, true, false, cond, ◌&&◌, ◌||◌, ◌==◌, List, [], length, take, drop, get_or, Option, Some, None, refl, sym, ◌∙◌, subst, arith, ⊎_elim, length-take, get_or-take, get_or-drop}
use Rattle.std.specs.Prelude.{All, slice_index, nat_lt}
use Rattle.std.specs.Option.{unwrap_or}
use Rattle.std.proofs.lemmas.Bool.{ltb-false, eq-eqb, false≢true, cases_lt}
use Rattle.std.proofs.lemmas.List.{get_or_default, get_or_past}
use Rattle.std.proofs.lemmas.List.Elements.{All-nil}
use Rattle.elf_types.specs.declared.file.ElfFile.{ElfFile}
use Rattle.elf_types.specs.declared.file.Symbol.{Symbol}
use Rattle.elf_types.specs.declared.records.SectionHeader.{SectionHeader}
use Rattle.elf_types.specs.Abi.{is_load}
use Rattle.tests.specs.Files.Header.{e_phnum}
use Rattle.tests.specs.Files.Fields.{program_header, section_header, symbol_entry}
use Rattle.tests.specs.Files.Rules.{is_misshapen, name_length, name_at, has_bytes, section_bytes, strings_of, symbol_name, symbol_table}
use Rattle.tests.specs.Files.File.{File, load_bytes, segment_of, symbol_of, symbols_at}
use Rattle.tests.specs.Elf.Layout.{IsName, IsSymbol}
use Rattle.tests.specs.Elf.Sound.{AreBytes, IsReadFile}
use Rattle.machine.proofs.Lemmas.{first_least, All-each}
use Rattle.tests.proofs.AcceptanceLaws.{accepted}

-- ---- segments
-- a segment has no more bytes than memory
few_bytes :
    (load more wraps : Bool) (memory size : ℕ) (bytes : List ℕ) → nat_lt memory size ≡ more → (load && (more || wraps)) ≡ false
    → length (cond load (take size bytes) []) ≤ memory
few_bytes false more wraps memory size bytes e h = omega arith
few_bytes true true wraps memory size bytes e h = absurd cc
few_bytes true false wraps memory size bytes e h = omega (arith, ltb-false memory size e, length-take size bytes)

pub sized_segment : (file : List ℕ) (i : ℕ) → is_misshapen (program_header file i) ≡ false → length (segment_of file i).bytes ≤ (segment_of file i).memory
unfolding is_misshapen segment_of load_bytes
sized_segment file i h = let p = program_header file i in few_bytes (is_load p.kind) (nat_lt p.memsz p.filesz) _ p.memsz p.filesz (drop p.offset file) refl h

-- ---- names
-- a zero byte is not before the first one
before_zero : (strings : List ℕ) (place : ℕ) (o : Option ℕ) → name_length strings place ≡ o → IsName (take (unwrap_or o 0) (drop place strings))
unfolding name_length
before_zero strings place None e = All-nil (λ byte. byte ≢ 0)
before_zero strings place (Some n) e = λ k d lt zero_byte.
    let found = first_least (length strings - place) (λ k. slice_index strings (place + k) == 0) n e in
    let within : k < n = omega (arith, lt, length-take n (drop place strings)) in
    let same : get_or (take n (drop place strings)) k d ≡ get_or strings (place + k) d = get_or-take n (drop place strings) k d within ∙ get_or-drop place strings k d in
    false≢true (sym (found.least k within) ∙ eq-eqb (slice_index strings (place + k)) 0 (get_or_default strings (place + k) 0 d (omega (arith, within, found.below)) ∙ sym same ∙ zero_byte))

no_zero : (b : Bool) (name : List ℕ) → IsName name → IsName (cond b [] name)
no_zero true name h = All-nil (λ byte. byte ≢ 0)
no_zero false name h = h

name_is : (strings : List ℕ) (place : ℕ) → IsName (name_at strings place)
unfolding name_at
name_is strings place = no_zero (place == 0) _ (before_zero strings place (name_length strings place) refl)

symbol_name_is : (file : List ℕ) (s : SectionHeader) (j : ℕ) → IsName (symbol_of file s j).name
unfolding symbol_of symbol_name
symbol_name_is file s j = no_zero (j == 0) _ (name_is (strings_of file s) (symbol_entry (section_bytes file s) j).name)

-- ---- types and bindings
taken_bytes : (b : Bool) (n k : ℕ) (file : List ℕ) → AreBytes file → AreBytes (cond b (take n (drop k file)) [])
taken_bytes false n k file h = record { fit = λ i. omega arith }
taken_bytes true n k file h = record {
  fit = λ i.
      ⊎_elim
      (λ lt. subst (λ x. x < 256) (sym (get_or-take n (drop k file) i 0 lt ∙ get_or-drop k file i 0)) (h.fit (k + i)))
      (λ le. subst (λ x. x < 256) (sym (get_or_past (take n (drop k file)) i 0 (omega (arith, le, length-take n (drop k file))))) (omega arith))
      (cases_lt i n);
}

symbol_is : (file : List ℕ) (s : SectionHeader) (j : ℕ) → AreBytes file → IsSymbol (symbol_of file s j)
unfolding symbol_of symbol_entry section_bytes
symbol_is file s j h =
    let bytes = taken_bytes (has_bytes s) s.size s.offset file h in
    let low = bytes.fit (24 * j + 4) in
    record { kind = omega arith; binding = omega (arith, low) }

-- the bytes of a segment are bytes
segment_bytes : (file : List ℕ) (i : ℕ) → AreBytes file → AreBytes (segment_of file i).bytes
unfolding segment_of load_bytes
segment_bytes file i h = let p = program_header file i in taken_bytes (is_load p.kind) p.filesz p.offset file h

-- ---- the file
all_symbols : (P : Symbol → Type 0) (file : List ℕ) → ((s : SectionHeader) (j : ℕ) → P (symbol_of file s j)) → (o : Option ℕ) → All P (symbols_at file o)
all_symbols P file h None = All-nil P
all_symbols P file h (Some i) = All-each P ((section_header file i).size / 24) (symbol_of file (section_header file i)) (λ j l. h (section_header file i) j)

pub read_facts : (file : List ℕ) (f : ElfFile) → AreBytes file → File file f → IsReadFile f
read_facts file f bytes r = record {
  sized = subst (All (λ s. length s.bytes ≤ s.memory)) (sym r.segments) (All-each (λ s. length s.bytes ≤ s.memory) (e_phnum file) (segment_of file) (λ j l. sized_segment file j ((accepted file r.accepted).segment_shapes j l)));
  bytes = subst (All (λ s. AreBytes s.bytes)) (sym r.segments) (All-each (λ s. AreBytes s.bytes) (e_phnum file) (segment_of file) (λ j l. segment_bytes file j bytes));
  symbols = subst (All IsSymbol) (sym r.symbols) (all_symbols IsSymbol file (λ s j. symbol_is file s j bytes) (symbol_table file));
  names = subst (All (λ s. IsName s.name)) (sym r.symbols) (all_symbols (λ s. IsName s.name) file (symbol_name_is file) (symbol_table file));
}

-- the bytes determine what is read
pub one_file : (file : List ℕ) (f g : ElfFile) → File file f → File file g → f ≡ g
one_file file f g a b = λ i. record { entry = (a.entry ∙ sym b.entry) i; flags = (a.flags ∙ sym b.flags) i; segments = (a.segments ∙ sym b.segments) i; sections = (a.sections ∙ sym b.sections) i; symbols = (a.symbols ∙ sym b.symbols) i; relas = (a.relas ∙ sym b.relas) i }

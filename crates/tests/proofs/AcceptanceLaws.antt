-- What is known of a file that no rule refuses.
use Rattle.std.proofs.Common.{◌≡◌, ℕ, ◌/◌, ◌<◌, ◌≤◌, ◌&&◌, ◌||◌, not, Bool, true, false, cond, ltb, leb, eqb, length, List, [], ◌∷◌, Option, Some, None, Ok, Err, refl, sym, ap, ◌∙◌, subst, arith}
use Rattle.std.specs.Option.{is_some}
use Rattle.std.proofs.lemmas.Bool.Decides.{nat_tests}
use Rattle.elf_types.specs.declared.error.ElfError.{ElfError}
use Rattle.elf_types.specs.declared.error.ElfError.TheVariants as error
use Rattle.elf_types.specs.declared.records.SectionHeader.{SectionHeader}
use Rattle.machine.specs.Below.{first_below}
use Rattle.machine.specs.Numbers.{field}
use Rattle.tests.specs.Files.Header.{e_type, e_machine, e_version, e_phnum, e_shnum}
use Rattle.tests.specs.Files.Fields.{e_class, e_encoding, e_ident_version, program_header, section_header, rela_entry}
use Rattle.tests.specs.Files.Rules.{Check, refuse, refuse_found, refuse_found_at, first_refusal, is_segment_outside, is_section_outside, segment_place_rule, section_place_rule, magic_rule, header_rule, class_rule, encoding_rule, version_rule, file_type_rule, machine_rule, has_header_shape, header_shape_rule, header_rules, program_table_rule, section_table_rule, is_misshapen, segment_shape_rule, do_overlap, overlapped, segment_overlap_rule, is_section_misshapen, section_shape_rule, has_entries, has_strings, is_misnamed, symbol_table, symbols_rule, rule_at, symbol_shape_rule, is_counted_section, symbol_count, section_bytes, rela_fault, rela_shape_rule, counted_bytes, section_count_rule, byte_count_rule, table_rules, part_rules, verdict, read_verdict}
use Rattle.tests.specs.Files.Refusals.{HasHeaderShape, AreSymbols, AreRelas, IsAccepted, IsFileRefused}
use Rattle.tests.specs.Files.File.{File, WithinReadLimits, IsReadAs}
use Rattle.elf_types.specs.declared.file.ElfFile.{ElfFile}
use Rattle.std.proofs.lemmas.Bool.{le-ltb, ltb-false, leb-false, false≢true}
use Rattle.machine.proofs.Lemmas.{each_fails, first_least}
use Rattle.tests.proofs.AdmissionLaws.{by_some}
use Rattle.tests.proofs.RefusalLaws.{none_found}

-- ---- rules that refuse nothing
abbrev AllPass : List Check → Type 0
AllPass [] = Unit {0}
AllPass (rule ∷ rules) = (rule ≡ Ok tt) × AllPass rules

all_pass : (rules : List Check) → first_refusal rules ≡ Ok tt → AllPass rules
all_pass [] h = tt
all_pass (Ok x ∷ rules) h = (refl, all_pass rules h)
all_pass (Err e ∷ rules) h = absurd cc

fails : (e : ElfError) (test : Bool) → refuse e test ≡ Ok tt → test ≡ false
fails e true h = absurd cc
fails e false h = refl

pairs_none : (e : ℕ → ℕ → ElfError) (place : ℕ → Option ℕ) (n : ℕ) (o : Option ℕ) → first_below n (λ i. is_some (place i)) ≡ o → refuse_found_at e place o ≡ Ok tt
    → (i : ℕ) → i < n → place i ≡ None
pairs_none e place n None found h i lt = by_some (place i) (each_fails n (λ k. is_some (place k)) found i lt)
pairs_none e place n (Some j) found h i lt = absurd (false≢true (sym (ap is_some (none_found (e j) (place j) h)) ∙ (first_least n (λ k. is_some (place k)) j found).passes))

is_equal : (a b : ℕ) → not (eqb a b) ≡ false → a ≡ b
is_equal a b t = grind (arith, nat_tests)

-- ---- the header
has_magic : (size number : ℕ) → (ltb size 4 || not (eqb number 0x464c_457f)) ≡ false → (4 ≤ size) × (number ≡ 0x464c_457f)
has_magic size number t = grind (arith, nat_tests)

header_shape_is : (file : List ℕ) → not (has_header_shape file) ≡ false → HasHeaderShape file
header_shape_is file t = record {
  size = grind (arith, nat_tests);
  program_size = λ h. grind (arith, nat_tests);
  section_size = λ h. grind (arith, nat_tests);
  few_programs = λ h. grind (arith, nat_tests);
  no_sections = λ h. grind (arith, nat_tests);
  names = λ h. grind (arith, nat_tests);
}

version_is :
    (ident version : ℕ) (b : Bool) → eqb ident 1 ≡ b
    → cond b (refuse (error.Version version) (not (eqb version 1))) (Err (error.Version ident)) ≡ Ok tt → (ident ≡ 1) × (version ≡ 1)
version_is ident version true t h = (grind (arith, nat_tests), is_equal version 1 (fails (error.Version version) _ h))
version_is ident version false t h = absurd cc

-- ---- symbols and relocations
symbols_cases : (file : List ℕ) (s : SectionHeader) (b : Bool) → has_entries s && has_strings file s ≡ b
    → cond b (refuse_found error.SymbolShape (first_below (s.size / 24) (is_misnamed file s))) (Err (error.SymbolShape 0)) ≡ Ok tt → AreSymbols file s
symbols_cases file s true shape h = record { shape = shape; names = each_fails (s.size / 24) (is_misnamed file s) (none_found error.SymbolShape _ h) }
symbols_cases file s false shape h = absurd cc

are_symbols : (file : List ℕ) (s : SectionHeader) → symbols_rule file s ≡ Ok tt → AreSymbols file s
unfolding symbols_rule
are_symbols file s h = symbols_cases file s _ refl h

symbols_at :
    (file : List ℕ) (o : Option ℕ) → rule_at (λ i. symbols_rule file (section_header file i)) o ≡ Ok tt → (i : ℕ) → o ≡ Some i
    → AreSymbols file (section_header file i)
symbols_at file None h i found = absurd cc
symbols_at file (Some j) h i found = let same : j ≡ i = cc in subst (λ (k : ℕ). AreSymbols file (section_header file k)) same (are_symbols file (section_header file j) h)

relas_cases : (file : List ℕ) (s : SectionHeader) (b : Bool) → has_entries s ≡ b
    → cond b (first_below (s.size / 24) (λ k. leb (symbol_count file) (rela_entry (section_bytes file s) k).symbol)) (Some 0) ≡ None → AreRelas file s
relas_cases file s true shape h =
    record { shape = shape; symbols = λ k lt. leb-false _ _ (each_fails (s.size / 24) (λ q. leb (symbol_count file) (rela_entry (section_bytes file s) q).symbol) h k lt) }
relas_cases file s false shape h = absurd cc

are_relas : (file : List ℕ) (s : SectionHeader) → rela_fault file s ≡ None → is_counted_section file s ≡ true → AreRelas file s
unfolding rela_fault
are_relas file s none counted = relas_cases file s _ refl (rw counted at none)

-- ---- all of it
pub accepted : (file : List ℕ) → verdict file ≡ Ok tt → IsAccepted file
unfolding verdict part_rules table_rules header_rules magic_rule header_rule class_rule encoding_rule version_rule file_type_rule machine_rule header_shape_rule program_table_rule section_table_rule segment_place_rule section_place_rule segment_shape_rule segment_overlap_rule overlapped section_shape_rule symbol_shape_rule rela_shape_rule
accepted file h =
    let all = all_pass (part_rules file ∷ segment_shape_rule file ∷ segment_overlap_rule file ∷ section_shape_rule file ∷ symbol_shape_rule file ∷ rela_shape_rule file ∷ []) h in
    let parts = all_pass (table_rules file ∷ segment_place_rule file ∷ section_place_rule file ∷ []) all.0 in
    let tables = all_pass (header_rules file ∷ program_table_rule file ∷ section_table_rule file ∷ []) parts.0 in
    let header = all_pass (magic_rule file ∷ header_rule file ∷ class_rule file ∷ encoding_rule file ∷ version_rule file ∷ file_type_rule file ∷ machine_rule file ∷ header_shape_rule file ∷ []) tables.0 in
    let magic = has_magic (length file) (field 0 4 file) (fails error.Magic _ header.0) in
    let versions = version_is (e_ident_version file) (e_version file) _ refl header.1.1.1.1.0 in
    record {
      magic = record { room = magic.0; magic = magic.1 };
      room = ltb-false (length file) 64 (fails _ _ header.1.0);
      class = is_equal (e_class file) 2 (fails _ _ header.1.1.0);
      encoding = is_equal (e_encoding file) 1 (fails _ _ header.1.1.1.0);
      ident_version = versions.0;
      version = versions.1;
      type = is_equal (e_type file) 2 (fails _ _ header.1.1.1.1.1.0);
      machine = is_equal (e_machine file) 243 (fails _ _ header.1.1.1.1.1.1.0);
      shape = header_shape_is file (fails error.HeaderShape _ header.1.1.1.1.1.1.1.0);
      program_table = λ some. let t = fails _ _ tables.1.0 in grind (arith, nat_tests);
      section_table = λ some. let t = fails _ _ tables.1.1.0 in grind (arith, nat_tests);
      segments_inside = each_fails (e_phnum file) (λ i. is_segment_outside file (program_header file i)) (none_found _ _ parts.1.0);
      sections_inside = each_fails (e_shnum file) (λ i. is_section_outside file (section_header file i)) (none_found _ _ parts.1.1.0);
      segment_shapes = each_fails (e_phnum file) (λ i. is_misshapen (program_header file i)) (none_found _ _ all.1.0);
      apart = λ i j lt below.
          let none = pairs_none error.SegmentOverlap (overlapped file) (e_phnum file) _ refl all.1.1.0 i (omega (arith, lt, below)) in
          let both = each_fails (e_phnum file) (λ q. ltb i q && do_overlap (program_header file i) (program_header file q)) none j below in
          let so : ltb i j ≡ true = grind (arith, nat_tests) in
          rw so at both;
      section_shapes = each_fails (e_shnum file) (is_section_misshapen file) (none_found _ _ all.1.1.1.0);
      symbols = symbols_at file (symbol_table file) all.1.1.1.1.0;
      relas = λ i lt. are_relas file (section_header file i) (pairs_none error.RelaShape (λ k. rela_fault file (section_header file k)) (e_shnum file) _ refl all.1.1.1.1.1.0 i lt);
    }

-- ---- the limits of the reader
-- a file that passes the rules and the limits is read
pub read_as : (bytes : List ℕ) (f : ElfFile) → read_verdict bytes ≡ Ok tt → File bytes f → IsReadAs bytes f
unfolding read_verdict section_count_rule byte_count_rule
read_as bytes f h file =
    let all = all_pass (verdict bytes ∷ section_count_rule bytes ∷ byte_count_rule bytes ∷ []) h in
    record {
      file = file;
      within = record { sections = ltb-false 4096 (e_shnum bytes) (fails _ _ all.1.0); bytes = ltb-false 1_073_741_824 (counted_bytes bytes) (fails _ _ all.1.1.0) };
    }

-- what passes both is not refused
no_refusal : (file : List ℕ) → verdict file ≡ Ok tt → WithinReadLimits file → read_verdict file ≡ Ok tt
unfolding read_verdict section_count_rule byte_count_rule
no_refusal file h w =
    let sections : ltb 4096 (e_shnum file) ≡ false = le-ltb 4096 (e_shnum file) w.sections in
    let bytes : ltb 1_073_741_824 (counted_bytes file) ≡ false = le-ltb 1_073_741_824 (counted_bytes file) w.bytes in
    rw (h, sections, bytes) refl

-- bytes that are read are not refused
pub read_or_refused : (bytes : List ℕ) (f : ElfFile) (e : ElfError) → IsReadAs bytes f → IsFileRefused bytes e → ⊥
read_or_refused bytes f e r x = let p = no_refusal bytes r.file.accepted r.within in let q = x.first in absurd (cc)

-- What a refusal says of a file: the fault that it names is there.
use Rattle.std.proofs.Common.{◌≡◌, ◌≢◌, ◌⊎◌, ℕ, ◌-◌, ◌/◌, ◌^◌, ◌&&◌, not, min, Bool, true, false, cond, ltb, leb, eqb, List, [], ◌∷◌, Option, Some, None, Ok, Err, refl, sym, subst, inl, inr, arith}
use Rattle.std.specs.Option.{is_some}
use Rattle.std.proofs.lemmas.Bool.Decides.{nat_tests}
use Rattle.std.proofs.lemmas.Bool.{eqb-true, eqb-false, ltb-true, and_parts}
use Rattle.std.proofs.lemmas.Option.{same_Some}
use Rattle.elf_types.specs.declared.error.ElfError.{ElfError}
use Rattle.elf_types.specs.declared.error.ElfError.TheVariants as error
use Rattle.elf_types.specs.declared.error.Part.TheVariants as part
use Rattle.elf_types.specs.declared.records.SectionHeader.{SectionHeader}
use Rattle.machine.specs.Below.{first_below, IsFirstBelow}
use Rattle.tests.specs.Files.Header.{e_type, e_machine, e_version, e_phnum, e_shnum}
use Rattle.tests.specs.Files.Fields.{HasTables, e_class, e_encoding, e_ident_version, program_header, section_header, rela_entry}
use Rattle.tests.specs.Files.Rules.{Check, refuse, refuse_found, refuse_found_at, first_refusal, HasParts, is_segment_outside, is_section_outside, segment_place_rule, section_place_rule, magic_rule, header_rule, class_rule, encoding_rule, version_rule, file_type_rule, machine_rule, header_shape_rule, header_rules, program_table_rule, section_table_rule, is_misshapen, segment_shape_rule, do_overlap, overlapped, segment_overlap_rule, is_section_misshapen, section_shape_rule, has_entries, has_strings, is_misnamed, symbol_table, symbols_rule, rule_at, symbol_shape_rule, is_counted_section, symbol_count, section_bytes, rela_fault, rela_shape_rule, counted_bytes, section_count_rule, byte_count_rule, table_rules, part_rules, verdict, read_verdict}
use Rattle.tests.specs.Files.Refusals.{HasFault, IsFileRefused}
use Rattle.machine.proofs.Lemmas.{each_fails, first_least}
use Rattle.tests.proofs.AdmissionLaws.{by_some}

pub none_found : (e : ℕ → ElfError) (o : Option ℕ) → refuse_found e o ≡ Ok tt → o ≡ None
none_found e None h = refl
none_found e (Some i) h = absurd cc

-- the parts of a file that passed lie in it
pub are_inside : (file : List ℕ) → HasTables file → segment_place_rule file ≡ Ok tt → section_place_rule file ≡ Ok tt → HasParts file
unfolding segment_place_rule section_place_rule
are_inside file tables segments sections = record {
  tables = tables;
  segments = each_fails (e_phnum file) (λ i. is_segment_outside file (program_header file i)) (none_found _ _ segments);
  sections = each_fails (e_shnum file) (λ i. is_section_outside file (section_header file i)) (none_found _ _ sections);
}

-- ---- one rule
-- the fault that a rule names is in the file
record Says (file : List ℕ) (rule : Check) : Type 0 where
  says : (e : ElfError) → rule ≡ Err e → HasFault file e

error_says : (file : List ℕ) (e : ElfError) → HasFault file e → Says file (Err e)
error_says file e fault = record { says = λ d h. let same : e ≡ d = cc in subst (HasFault file) same fault }

ok_says : (file : List ℕ) → Says file (Ok tt)
ok_says file = record { says = λ e h. absurd cc }

refuse_says : (file : List ℕ) (e : ElfError) (test : Bool) → (test ≡ true → HasFault file e) → Says file (refuse e test)
refuse_says file e true fault = error_says file e (fault refl)
refuse_says file e false fault = ok_says file

found_says : (file : List ℕ) (e : ℕ → ElfError) (o : Option ℕ) → ((i : ℕ) → o ≡ Some i → HasFault file (e i)) → Says file (refuse_found e o)
found_says file e None fault = ok_says file
found_says file e (Some i) fault = error_says file (e i) (fault i refl)

found_at_says : (file : List ℕ) (e : ℕ → ℕ → ElfError) (place : ℕ → Option ℕ) (o : Option ℕ) → ((i j : ℕ) → o ≡ Some i → place i ≡ Some j → HasFault file (e i j))
    → Says file (refuse_found_at e place o)
found_at_says file e place None fault = ok_says file
found_at_says file e place (Some i) fault = found_says file (e i) (place i) (λ j h. fault i j refl h)

abbrev AllSay : List ℕ → List Check → Type 0
AllSay file [] = Unit {0}
AllSay file (rule ∷ rules) = Says file rule × AllSay file rules

-- the first of rules that refuses
first_says : (file : List ℕ) (rules : List Check) → AllSay file rules → Says file (first_refusal rules)
first_says file [] all = ok_says file
first_says file (Ok x ∷ rules) all = first_says file rules all.1
first_says file (Err e ∷ rules) all = all.0

-- ---- tests on numbers
differs : (a b : ℕ) → not (eqb a b) ≡ true → a ≢ b
differs a b t e = absurd grind (arith, nat_tests)

-- ---- the rules
version_cases : (file : List ℕ) (b : Bool) → eqb (e_ident_version file) 1 ≡ b
    → Says file (cond b (refuse (error.Version (e_version file)) (not (eqb (e_version file) 1))) (Err (error.Version (e_ident_version file))))
version_cases file true ident =
    refuse_says file (error.Version (e_version file)) _ (λ t. inr (eqb-true (e_ident_version file) 1 ident, differs (e_version file) 1 t, refl))
version_cases file false ident = error_says file (error.Version (e_ident_version file)) (inl (eqb-false (e_ident_version file) 1 ident, refl))

symbols_cases : (file : List ℕ) (i : ℕ) (b : Bool) → symbol_table file ≡ Some i → has_entries (section_header file i) && has_strings file (section_header file i) ≡ b
    → Says file (cond b (refuse_found error.SymbolShape (first_below ((section_header file i).size / 24) (is_misnamed file (section_header file i)))) (Err (error.SymbolShape 0)))
symbols_cases file i true found shape =
    found_says file error.SymbolShape _ (λ j h. record { table = i; found = found; fault = inr (shape, first_least ((section_header file i).size / 24) (is_misnamed file (section_header file i)) j h) })
symbols_cases file i false found shape = error_says file (error.SymbolShape 0) (record { table = i; found = found; fault = inl (refl, shape) })

symbols_say : (file : List ℕ) (i : ℕ) → symbol_table file ≡ Some i → Says file (symbols_rule file (section_header file i))
unfolding symbols_rule
symbols_say file i found = symbols_cases file i _ found refl

rule_at_says : (file : List ℕ) (rule : ℕ → Check) (o : Option ℕ) → ((i : ℕ) → o ≡ Some i → Says file (rule i)) → Says file (rule_at rule o)
rule_at_says file rule None says = ok_says file
rule_at_says file rule (Some i) says = says i refl

-- what a fault of a counted section is
abbrev RelaFault : List ℕ → SectionHeader → ℕ → Type 0
RelaFault file s k =
    (is_counted_section file s ≡ true)
    × (((k ≡ 0) × (has_entries s ≡ false))
    ⊎ ((has_entries s ≡ true) × IsFirstBelow (s.size / 24) (λ h. leb (symbol_count file) (rela_entry (section_bytes file s) h).symbol) k))

rela_entries : (file : List ℕ) (s : SectionHeader) (k : ℕ) (b : Bool) → has_entries s ≡ b
    → cond b (first_below (s.size / 24) (λ h. leb (symbol_count file) (rela_entry (section_bytes file s) h).symbol)) (Some 0) ≡ Some k
    → ((k ≡ 0) × (has_entries s ≡ false)) ⊎ ((has_entries s ≡ true) × IsFirstBelow (s.size / 24) (λ h. leb (symbol_count file) (rela_entry (section_bytes file s) h).symbol) k)
rela_entries file s k true shape h = inr (shape, first_least (s.size / 24) (λ h. leb (symbol_count file) (rela_entry (section_bytes file s) h).symbol) k h)
rela_entries file s k false shape h = inl (sym (same_Some 0 k h), shape)

rela_cases : (file : List ℕ) (s : SectionHeader) (k : ℕ) (b : Bool) → is_counted_section file s ≡ b
    → cond b (cond (has_entries s) (first_below (s.size / 24) (λ h. leb (symbol_count file) (rela_entry (section_bytes file s) h).symbol)) (Some 0)) None ≡ Some k → RelaFault file s k
rela_cases file s k true counted h = (counted, rela_entries file s k _ refl h)
rela_cases file s k false counted h = absurd cc

rela_fault_is : (file : List ℕ) (s : SectionHeader) (k : ℕ) → rela_fault file s ≡ Some k → RelaFault file s k
unfolding rela_fault
rela_fault_is file s k h = rela_cases file s k _ refl h

-- ---- all rules
header_rules_say : (file : List ℕ) → Says file (header_rules file)
unfolding header_rules magic_rule header_rule class_rule encoding_rule version_rule file_type_rule machine_rule header_shape_rule
header_rules_say file =
    let magic : Says file (magic_rule file) = refuse_says file error.Magic _ (λ t m. let room = m.room in let magic = m.magic in absurd grind (arith, nat_tests, room, magic)) in
    let room : Says file (header_rule file) = refuse_says file (error.OutOfFile part.Header) _ (λ t. grind (arith, nat_tests)) in
    let class : Says file (class_rule file) = refuse_says file (error.Class (e_class file)) _ (λ t. (refl, differs (e_class file) 2 t)) in
    let encoding : Says file (encoding_rule file) = refuse_says file (error.Encoding (e_encoding file)) _ (λ t. (refl, differs (e_encoding file) 1 t)) in
    let type : Says file (file_type_rule file) = refuse_says file (error.FileType (e_type file)) _ (λ t. (refl, differs (e_type file) 2 t)) in
    let machine : Says file (machine_rule file) = refuse_says file (error.Machine (e_machine file)) _ (λ t. (refl, differs (e_machine file) 243 t)) in
    let shape : Says file (header_shape_rule file) = refuse_says file error.HeaderShape _ (λ t h. absurd grind (arith, nat_tests, h.size, h.program_size, h.section_size, h.few_programs, h.no_sections, h.names)) in
    first_says file (magic_rule file ∷ header_rule file ∷ class_rule file ∷ encoding_rule file ∷ version_rule file ∷ file_type_rule file ∷ machine_rule file ∷ header_shape_rule file ∷ []) (magic, (room, (class, (encoding, (version_cases file _ refl, (type, (machine, (shape, tt))))))))

table_rules_say : (file : List ℕ) → Says file (table_rules file)
unfolding table_rules program_table_rule section_table_rule
table_rules_say file =
    let programs : Says file (program_table_rule file) = refuse_says file (error.OutOfFile part.ProgramTable) _ (λ t. let h = and_parts _ _ t in (ltb-true _ _ h.0, ltb-true _ _ h.1)) in
    let sections : Says file (section_table_rule file) = refuse_says file (error.OutOfFile part.SectionTable) _ (λ t. let h = and_parts _ _ t in (ltb-true _ _ h.0, ltb-true _ _ h.1)) in
    first_says file (header_rules file ∷ program_table_rule file ∷ section_table_rule file ∷ []) (header_rules_say file, (programs, (sections, tt)))

part_rules_say : (file : List ℕ) → Says file (part_rules file)
unfolding part_rules segment_place_rule section_place_rule
part_rules_say file =
    let segments : Says file (segment_place_rule file) = found_says file (λ i. error.OutOfFile (part.Segment i)) _ (first_least (e_phnum file) (λ i. is_segment_outside file (program_header file i))) in
    let sections : Says file (section_place_rule file) = found_says file (λ i. error.OutOfFile (part.Section i)) _ (first_least (e_shnum file) (λ i. is_section_outside file (section_header file i))) in
    first_says file (table_rules file ∷ segment_place_rule file ∷ section_place_rule file ∷ []) (table_rules_say file, (segments, (sections, tt)))

segment_overlap_says : (file : List ℕ) → Says file (segment_overlap_rule file)
unfolding segment_overlap_rule overlapped
segment_overlap_says file = found_at_says file error.SegmentOverlap (overlapped file) _ (λ i j one two.
    let least = first_least (e_phnum file) (λ k. is_some (overlapped file k)) i one in
    record {
      pair = first_least (e_phnum file) (λ k. ltb i k && do_overlap (program_header file i) (program_header file k)) j two;
      least = λ h k hi hk lt.
          let none = by_some (overlapped file h) (least.least h hi) in
          let both = each_fails (e_phnum file) (λ q. ltb h q && do_overlap (program_header file h) (program_header file q)) none k lt in
          let so : ltb h k ≡ true = grind (arith, nat_tests) in
          rw so at both;
    })

rela_shape_says : (file : List ℕ) → Says file (rela_shape_rule file)
unfolding rela_shape_rule
rela_shape_says file = found_at_says file error.RelaShape (λ i. rela_fault file (section_header file i)) _ (λ i k one two.
    let fault = rela_fault_is file (section_header file i) k two in
    record { section = first_least (e_shnum file) (λ h. is_some (rela_fault file (section_header file h))) i one; counted = fault.0; fault = fault.1 })

verdict_says : (file : List ℕ) → Says file (verdict file)
unfolding verdict segment_shape_rule section_shape_rule symbol_shape_rule
verdict_says file =
    let segments : Says file (segment_shape_rule file) = found_says file error.SegmentShape _ (first_least (e_phnum file) (λ i. is_misshapen (program_header file i))) in
    let sections : Says file (section_shape_rule file) = found_says file error.SectionShape _ (first_least (e_shnum file) (is_section_misshapen file)) in
    let symbols : Says file (symbol_shape_rule file) = rule_at_says file (λ i. symbols_rule file (section_header file i)) (symbol_table file) (symbols_say file) in
    first_says file (part_rules file ∷ segment_shape_rule file ∷ segment_overlap_rule file ∷ section_shape_rule file ∷ symbol_shape_rule file ∷ rela_shape_rule file ∷ []) (part_rules_say file, (segments, (segment_overlap_says file, (sections, (symbols, (rela_shape_says file, tt))))))

-- the rules, and then the limits
read_verdict_says : (file : List ℕ) → Says file (read_verdict file)
unfolding read_verdict section_count_rule byte_count_rule
read_verdict_says file =
    let sections : Says file (section_count_rule file) = refuse_says file (error.TooManySections (e_shnum file)) _ (λ t. (refl, ltb-true _ _ t)) in
    let bytes : Says file (byte_count_rule file) = refuse_says file (error.TooManyBytes (min (counted_bytes file) (2 ^ 64 - 1))) _ (λ t. (refl, ltb-true _ _ t)) in
    first_says file (verdict file ∷ section_count_rule file ∷ byte_count_rule file ∷ []) (verdict_says file, (sections, (bytes, tt)))

-- a file that is refused has the fault that the error names
pub refused : (file : List ℕ) (e : ElfError) → read_verdict file ≡ Err e → IsFileRefused file e
refused file e h = record { first = h; fault = (read_verdict_says file).says e h }

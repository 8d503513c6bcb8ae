-- That known bytes are a known file, by computing: what is read of them, and that no rule refuses them.
use Rattle.std.proofs.Common.{◌≡◌, ℕ, List, Ok, refl, subst}
use Rattle.elf_types.specs.declared.file.ElfFile.{ElfFile}
use Rattle.machine.specs.Numbers.{field}
use Rattle.machine.specs.Below.{first_below, each, gather}
use Rattle.tests.specs.Files.Header.{e_entry, e_flags, e_phnum, e_shnum}
use Rattle.tests.specs.Files.Fields.{program_header, section_header, symbol_entry, rela_entry}
use Rattle.tests.specs.Files.Rules.{Check, magic_rule, header_rule, class_rule, encoding_rule, version_rule, file_type_rule, machine_rule, header_shape_rule, header_rules, program_table_rule, section_table_rule, is_segment_outside, segment_place_rule, is_section_outside, section_place_rule, section_bytes, is_misshapen, segment_shape_rule, do_overlap, overlapped, segment_overlap_rule, name_length, name_at, is_section_misshapen, section_shape_rule, section_strings, section_name, symbol_table, strings_of, is_misnamed, symbols_rule, symbol_shape_rule, symbol_count, symbol_name, rela_fault, rela_shape_rule, section_count_rule, counted_bytes, byte_count_rule, table_rules, part_rules, verdict}
use Rattle.tests.specs.Files.File.{load_bytes, segment_of, section_of, symbol_of, symbols_at, relas_of, File}

-- the verdict, with all rules opened
unfoldable pub opened_verdict : List ℕ → Check
unfolding verdict part_rules table_rules header_rules magic_rule header_rule class_rule encoding_rule version_rule file_type_rule machine_rule header_shape_rule program_table_rule section_table_rule segment_place_rule is_segment_outside section_place_rule is_section_outside segment_shape_rule is_misshapen segment_overlap_rule do_overlap overlapped section_shape_rule is_section_misshapen symbol_shape_rule symbols_rule symbol_table is_misnamed strings_of rela_shape_rule rela_fault symbol_count section_count_rule byte_count_rule counted_bytes section_name section_strings symbol_name section_bytes name_length name_at program_header section_header symbol_entry rela_entry field first_below
opened_verdict file = verdict file

-- what is read, with all fields opened
unfoldable pub read_of : List ℕ → ElfFile
unfolding segment_of load_bytes section_of section_name section_strings symbol_of symbol_name symbol_table strings_of relas_of section_bytes name_at name_length program_header section_header symbol_entry rela_entry field first_below each gather
read_of file = record {
  entry = e_entry file;
  flags = e_flags file;
  segments = each (e_phnum file) (segment_of file);
  sections = each (e_shnum file) (section_of file);
  symbols = symbols_at file (symbol_table file);
  relas = gather (e_shnum file) (λ i. relas_of file (section_header file i));
}

-- the file that bytes are
pub is_file : (file : List ℕ) (f : ElfFile) → opened_verdict file ≡ Ok tt → read_of file ≡ f → File file f
unfolding opened_verdict read_of
is_file file f accepted read = subst (File file) read (record { accepted = accepted; entry = refl; flags = refl; segments = refl; sections = refl; symbols = refl; relas = refl })

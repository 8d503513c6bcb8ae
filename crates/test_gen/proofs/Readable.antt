-- The bytes of a generated file are read as that file, and no rule refuses them.
use Rattle.std.proofs.Common.{ℕ, ◌^◌, ◌<◌, ◌≤◌, List, [], ◌∷◌, length, arith}
use Rattle.std.specs.Prelude.{All, codes}
use Rattle.elf_types.specs.declared.error.ElfError.{ElfError}
use Rattle.elf_types.specs.declared.file.ElfFile.{ElfFile}
use Rattle.tests.specs.declared.admit.AdmitError.{AdmitError}
use Rattle.tests.specs.Options.{default_options}
use Rattle.tests.specs.Admission.Refusals.{IsAdmitted, IsRefusedBy}
use Rattle.tests.specs.Files.File.{IsReadAs}
use Rattle.tests.specs.Elf.FileRead.{file_read}
use Rattle.tests.specs.Elf.Layout.{written}
use Rattle.tests.specs.Files.Refusals.{IsFileRefused}
use Rattle.tests.proofs.Lemmas.{read_or_refused, no_fault}
use Rattle.machine.proofs.Lemmas.{every_all}
use Rattle.elf_write.specs.Widths.{SegmentFits, SectionFits, SymbolFits}
use Rattle.elf_write.proofs.WholeRead.{reads_back}
use Rattle.elf_write.specs.Plain.{segment, section}
use Rattle.elf_types.specs.declared.file.Segment.{Segment}
use Rattle.test_gen.specs.Code.{function_count}
use Rattle.test_gen.specs.Generated.{code_bytes, generated_table_bytes, data_bytes, generated_code, generated_table, generated_data, generated_sections, function_symbol, symbols, generated_file_of, generated}
use Rattle.test_gen.proofs.Admitted.{admitted, few_functions}
use Rattle.test_gen.proofs.Sizes.{length-code_bytes, length-table_bytes, length-data_bytes}
use Rattle.test_gen.proofs.Writable.{all_symbols, writable}

-- ---- each number has room in its field
segment_fits : (flags at : ℕ) (bytes : List ℕ) → flags < 2 ^ 32 → at < 2 ^ 64 → length bytes < 2 ^ 64 → SegmentFits (segment flags at bytes)
segment_fits flags at bytes f a s = record { flags = f; address = a; memory = s }

section_fits : (name : List ℕ) (flags : ℕ) (s : Segment) → flags < 2 ^ 64 → SegmentFits s → SectionFits (section name flags s)
section_fits name flags s f h = record { flags = f; address = h.address; size = h.memory }

function_fits : (i : ℕ) → i < 1875 → SymbolFits (function_symbol i)
unfolding function_symbol
function_fits i h = record { value = omega (arith, h); size = omega arith; other = omega arith; index = omega arith }

symbols_fit : (n : ℕ) → n ≤ 1875 → All SymbolFits (symbols n)
symbols_fit n few =
    all_symbols SymbolFits n few (record { value = omega arith; size = omega arith; other = omega arith; index = omega arith })
    (λ i l. function_fits i l)

-- ---- files of n functions
read_with : (seed n : ℕ) → n ≤ 1875 → IsReadAs (written (generated_file_of seed n)) (file_read (generated_file_of seed n))
unfolding generated_file_of
read_with seed n few =
    let code = generated_code seed n in
    let table = generated_table n in
    let words = generated_data in
    let code_size = length-code_bytes seed n in
    let table_size = length-table_bytes n in
    let data_size = length-data_bytes in
    let first : SegmentFits code = segment_fits 5 0x10000 (code_bytes seed n) (omega arith) (omega arith) (omega (arith, code_size, few)) in
    let second : SegmentFits table = segment_fits 4 0x80000 (generated_table_bytes n) (omega arith) (omega arith) (omega (arith, table_size, few)) in
    let third : SegmentFits words = segment_fits 6 0x90000 data_bytes (omega arith) (omega arith) (omega (arith, data_size)) in
    reads_back (generated_file_of seed n) (writable seed n few) (omega arith) (omega arith)
    (every_all SegmentFits (code ∷ table ∷ words ∷ []) (first, (second, (third, tt))))
    (every_all SectionFits (generated_sections code table words) (section_fits (codes ".text") 6 code (omega arith) first, (section_fits (codes ".rodata") 2 table (omega arith) second, (section_fits (codes ".data") 3 words (omega arith) third, tt))))
    (symbols_fit n few)

-- ---- the test of a seed and a size
module _ (seed size : ℕ) (some : 1 ≤ size) (most : size ≤ 60000) where
  pub test_read : IsReadAs (written (generated seed size)) (file_read (generated seed size))
  unfolding generated
  test_read = let n = few_functions size some most in read_with seed (function_count size) n.1

  -- the file that its bytes are read as is admitted
  pub test_admitted : (f : ElfFile) → IsReadAs (written (generated seed size)) f → IsAdmitted f default_options
  test_admitted f read = admitted seed size (written (generated seed size)) some most test_read f read

  -- no rule of the reader refuses it, and none of the reader's limits is exceeded
  pub test_not_refused : (e : ElfError) → IsFileRefused (written (generated seed size)) e → ⊥
  test_not_refused e refused = read_or_refused (written (generated seed size)) (file_read (generated seed size)) e test_read refused

  -- no rule of admission refuses it, and none of the limits of admission is exceeded
  pub test_not_denied : (f : ElfFile) → IsReadAs (written (generated seed size)) f → (e : AdmitError) → IsRefusedBy f default_options e → ⊥
  test_not_denied f read e refused = no_fault f default_options (test_admitted f read) e refused.fault

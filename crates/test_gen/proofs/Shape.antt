-- The segments and sections of a generated file, when it is read: no rule of admission on them holds.
use Rattle.std.proofs.Common.{◌≡◌, ℕ, ◌+◌, ◌-◌, ◌*◌, ◌/◌, ◌%◌, ◌≤◌, true, false, List, [], ◌∷◌, ◌++◌, length, map, refl, ap, ◌∙◌, arith}
use Rattle.std.specs.Prelude.{nat_lt, nat_le, ◌==◌}
use Rattle.std.specs.List.{list_any}
use Rattle.std.proofs.lemmas.Bool.{lt-ltb, le-ltb, le-leb, eq-eqb}
use Rattle.elf_types.specs.declared.file.Symbol.{Symbol}
use Rattle.elf_types.specs.declared.abi.TheConstants.{SHT_SYMTAB, SHT_STRTAB}
use Rattle.tests.specs.Elf.Layout.{symtab_name, strtab_name, shstrtab_name}
use Rattle.tests.specs.Elf.FileRead.{null_section, section_read, table_read}
use Rattle.machine.specs.Loading.{load_segment, load_segments, ElfFile, Segment}
use Rattle.tests.specs.Admission.DataRanges.{is_data, data_ranges}
use Rattle.tests.specs.Admission.CodeWords.{loads_of, ranges_of}
use Rattle.tests.specs.Admission.Rules.{is_writable_code, is_misshapen_section, is_misshapen_segment, is_mixed}
use Rattle.tests.specs.Admission.Places.{base_of, high_of, distance_of, image_of}
use Rattle.elf_write.specs.Plain.{segment}
use Rattle.test_gen.specs.Generated.{generated_sections}
use Rattle.test_gen.proofs.Stands.{IsImage, field_first}

-- the file that is read, by the bytes of its three segments; tables may have any size
abbrev pub file_of : List ℕ → List ℕ → List ℕ → List Symbol → ℕ → ℕ → ℕ → ElfFile
file_of code table words symbols x y z = record {
  entry = 0x10000;
  flags = 0;
  segments = segment 5 0x10000 code ∷ segment 4 0x80000 table ∷ segment 6 0x90000 words ∷ [];
  sections =
      null_section
      ∷ (map section_read (generated_sections (segment 5 0x10000 code) (segment 4 0x80000 table) (segment 6 0x90000 words))
      ++ (table_read symtab_name SHT_SYMTAB x ∷ table_read strtab_name SHT_STRTAB y ∷ table_read shstrtab_name SHT_STRTAB z ∷ []));
  symbols = symbols;
  relas = [];
}

-- how long the segments of n functions are
pub record AreSized (n : ℕ) (code table words : List ℕ) : Type 0 where
  pub some : 1 ≤ n
  pub few : n ≤ 1875
  pub code_size : length code ≡ 48 + 132 * n
  pub table_size : length table ≡ 8 * n
  pub words_size : length words ≡ 2048

module _ (n : ℕ) (code table words : List ℕ) (symbols : List Symbol) (x y z : ℕ) (sized : AreSized n code table words) where
  abbrev f : ElfFile
  f = file_of code table words symbols x y z

  abbrev pub image : List Segment
  image = segment 5 0x10000 code ∷ segment 4 0x80000 table ∷ segment 6 0x90000 words ∷ []

  -- ---- each has bytes
  some_code : nat_lt 0 (length code) ≡ true
  some_code = let s = sized.code_size in lt-ltb 0 (length code) (omega (arith, s))

  some_table : nat_lt 0 (length table) ≡ true
  some_table = let s = sized.table_size in let k = sized.some in lt-ltb 0 (length table) (omega (arith, s, k))

  some_words : nat_lt 0 (length words) ≡ true
  some_words = let s = sized.words_size in lt-ltb 0 (length words) (omega (arith, s))

  pub image_is : image_of f ≡ image
  image_is = rw (some_code, some_table, some_words) refl

  -- ---- the code
  to_end : nat_le (0x10000 + length code) (0x10000 + length code) ≡ true
  to_end = le-leb (0x10000 + length code) (0x10000 + length code) (omega arith)

  pub range_is : ranges_of f ≡ (0x10000, 0x10000 + length code) ∷ []
  range_is = rw (some_code, to_end) refl

  pub code_image : IsImage f 0x10000 code
  code_image = record {
    range = range_is;
    grain = refl;
    words = λ k h. field_first (load_segment (segment 5 0x10000 code)) (load_segments (segment 4 0x80000 table ∷ segment 6 0x90000 words ∷ [])) k 4 h;
  }

  -- ---- the rules on segments and sections
  pub separate : list_any is_writable_code f.segments ≡ false
  separate = rw (some_code, some_table, some_words) refl

  pub sections_pass : list_any (is_misshapen_section (loads_of f)) f.sections ≡ false
  sections_pass =
      let s = sized.code_size in
      let begins : nat_lt 0x10000 (0x10000 + length code) ≡ true = lt-ltb 0x10000 (0x10000 + length code) (omega (arith, s)) in
      let even : ((0x10000 + length code - 0x10000) % 4 == 0) ≡ true = eq-eqb ((0x10000 + length code - 0x10000) % 4) 0 (omega (arith, s)) in
      rw (some_code, to_end, begins, even) refl

  pub segments_pass : list_any (is_misshapen_segment f) f.segments ≡ false
  segments_pass = rw (some_code, to_end) refl

  -- ---- the data
  abbrev pub table_end : ℕ
  table_end = (0x80000 + length table + 7) / 8 * 8

  abbrev code_end : ℕ
  code_end = (0x10000 + length code + 7) / 8 * 8

  abbrev pub words_end : ℕ
  words_end = (0x90000 + length words + 7) / 8 * 8

  code_before : nat_lt 0x80000 code_end ≡ false
  code_before = let s = sized.code_size in let k = sized.few in le-ltb 0x80000 code_end (omega (arith, s, k))

  table_before : nat_lt table_end 0x90000 ≡ true
  table_before = let s = sized.table_size in let k = sized.few in lt-ltb table_end 0x90000 (omega (arith, s, k))

  pub table_data : is_data image (segment 4 0x80000 table) ≡ true
  table_data = rw code_before refl

  pub data_is : data_ranges image ≡ (0x80000, table_end) ∷ (0x90000, words_end) ∷ []
  data_is = rw (table_data, table_before) refl

  pub unmixed : list_any (is_mixed (image_of f)) f.segments ≡ false
  unmixed =
      let s = sized.code_size in
      let k = sized.few in
      let off_table : nat_lt 0x80000 (0x10000 + length code) ≡ false = le-ltb 0x80000 (0x10000 + length code) (omega (arith, s, k)) in
      let off_words : nat_lt 0x90000 (0x10000 + length code) ≡ false = le-ltb 0x90000 (0x10000 + length code) (omega (arith, s, k)) in
      let over_table : nat_lt 0x10000 table_end ≡ true = lt-ltb 0x10000 table_end (omega arith) in
      let over_words : nat_lt 0x10000 words_end ≡ true = lt-ltb 0x10000 words_end (omega arith) in
      ap (λ i. list_any (is_mixed i) image) image_is ∙ rw (data_is, table_data, some_code, some_table, some_words, off_table, off_words, over_table, over_words) refl

  -- ---- the place
  pub base_is : base_of (image_of f) ≡ 0x10000
  base_is = ap base_of image_is

  pub high_is : high_of (image_of f) ≡ 0x90800
  high_is =
      let a = sized.code_size in
      let b = sized.table_size in
      let c = sized.words_size in
      let k = sized.few in
      ap high_of image_is ∙ omega (arith, a, b, c, k)

  pub distance_is : distance_of (image_of f) ≡ 0x81000
  distance_is = omega (arith, base_is, high_is)

-- The file of a generated test. Names and numbers are those of the ELF gABI.
use Rattle.std.specs.Prelude.{ℕ, ◌+◌, ◌*◌, unwrap_or, List, [], ◌∷◌, ◌++◌, map, codes}
use Rattle.std.specs.Fmt.{decimal}
use Rattle.elf_types.specs.declared.file.Segment.{Segment}
use Rattle.elf_types.specs.declared.file.Symbol.{Symbol}
use Rattle.elf_types.specs.declared.output.OutFile.{OutFile}
use Rattle.elf_types.specs.declared.output.OutSection.{OutSection}
use Rattle.elf_types.specs.declared.abi.TheConstants.{PF_R, PF_W, PF_X, SHF_WRITE, SHF_ALLOC, SHF_EXECINSTR, STT_FUNC, STB_GLOBAL, SHN_ABS}
use Rattle.machine.specs.Table.{encode_of, Ins}
use Rattle.machine.specs.Below.{each, gather}
use Rattle.machine.specs.Numbers.{number_bytes, bytes_of}
use Rattle.elf_write.specs.Plain.{segment, section}
use Rattle.test_gen.specs.Code.{function_count, code}

-- ---- segments
-- the word of an instruction; each of a generated test has one
unfoldable pub generated_word : Ins → ℕ
generated_word i = unwrap_or (encode_of i) 0

unfoldable pub code_bytes : ℕ → ℕ → List ℕ
code_bytes seed n = bytes_of (map generated_word (code seed n))

-- the address of function i, behind the 12 words of `main` and 33 words for each function before it
abbrev pub function_at : ℕ → ℕ
function_at i = 0x10000 + 48 + 132 * i

-- the addresses of n functions, 8 bytes each
unfoldable pub generated_table_bytes : ℕ → List ℕ
generated_table_bytes n = gather n (λ i. number_bytes 8 (function_at i))

-- 256 words of 8 bytes; word i is i
unfoldable pub data_bytes : List ℕ
data_bytes = gather 256 (λ i. number_bytes 8 i)

abbrev pub generated_code : ℕ → ℕ → Segment
generated_code seed n = segment (PF_R + PF_X) 0x10000 (code_bytes seed n)

abbrev pub generated_table : ℕ → Segment
generated_table n = segment PF_R 0x80000 (generated_table_bytes n)

abbrev pub generated_data : Segment
generated_data = segment (PF_R + PF_W) 0x90000 data_bytes

-- ---- sections
-- the sections over the code, the table and the data
abbrev pub generated_sections : Segment → Segment → Segment → List OutSection
generated_sections code table words =
    section (codes ".text") (SHF_ALLOC + SHF_EXECINSTR) code
    ∷ section (codes ".rodata") SHF_ALLOC table
    ∷ section (codes ".data") (SHF_ALLOC + SHF_WRITE) words
    ∷ []

-- ---- symbols
-- the symbol of a function, without a size
abbrev pub named_function : List ℕ → ℕ → Symbol
named_function name address = record { name = name; value = address; size = 0; kind = STT_FUNC; binding = STB_GLOBAL; other = 0; index = SHN_ABS }

-- `f` and the number of the function
unfoldable pub function_symbol : ℕ → Symbol
function_symbol i = named_function (codes "f" ++ decimal i) (function_at i)

abbrev pub symbols : ℕ → List Symbol
symbols n = named_function (codes "main") 0x10000 ∷ each n function_symbol

-- ---- the file
-- the file with n functions
unfoldable pub generated_file_of : ℕ → ℕ → OutFile
generated_file_of seed n = record {
  entry = 0x10000;
  flags = 0;
  segments = generated_code seed n ∷ generated_table n ∷ generated_data ∷ [];
  sections = generated_sections (generated_code seed n) (generated_table n) generated_data;
  symbols = symbols n;
}

-- the test of a seed and a size
unfoldable pub generated : ℕ → ℕ → OutFile
generated seed size = generated_file_of seed (function_count size)

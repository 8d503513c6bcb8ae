-- What a text assembles to: the words, data and labels of its lines, each line on its own but for the labels.
use Rattle.std.specs.Prelude.{◌≡◌, ℕ, ◌+◌, ◌-◌, ◌<◌, ◌≤◌, ◌==◌, ◌++◌, Bool, true, false, is_ok, if◌then◌else◌, Option, Some, None, option_map, unwrap_or}
use Rattle.std.specs.Prelude.{Result, Ok, Err, List, [], ◌∷◌, length, take, slice_index_or, count_by, codes}
use Rattle.std.specs.Str.{bytes_eq}
use Rattle.std.specs.List.{position_from}
use Rattle.elf_types.specs.declared.file.Segment.{Segment}
use Rattle.elf_types.specs.declared.file.Symbol.{Symbol}
use Rattle.elf_types.specs.declared.output.OutFile.{OutFile}
use Rattle.elf_types.specs.declared.output.OutSection.{OutSection}
use Rattle.elf_types.specs.declared.abi.TheConstants.{PF_R, PF_W, PF_X, SHF_WRITE, SHF_ALLOC, SHF_EXECINSTR, STT_NOTYPE, STB_LOCAL, SHN_ABS}
use Rattle.elf_write.specs.Plain.{segment, section}
use Rattle.machine.specs.Below.{gather}
use Rattle.machine.specs.Numbers.{number_bytes, bytes_of}
use Rattle.tests.specs.Elf.Layout.{written}
use Rattle.rv_asm.specs.declared.error.AsmError.{AsmError}
use Rattle.rv_asm.specs.declared.error.AsmError.TheVariants.{Line, NoCode, Memory}
use Rattle.rv_asm.specs.declared.error.Fault.{Fault}
use Rattle.rv_asm.specs.declared.given.Given.{Given}
use Rattle.rv_asm.specs.declared.given.Given.TheVariants as given
use Rattle.rv_asm.specs.declared.heads.Head.{Head}
use Rattle.rv_asm.specs.declared.heads.Head.TheVariants as head
use Rattle.rv_asm.specs.declared.labels.Label.{Label}
use Rattle.rv_asm.specs.declared.place.Place.{Place}
use Rattle.rv_asm.specs.Lines.{lines_of, leading_word, rest_in, label_in}
use Rattle.rv_asm.specs.Heads.{head_of}
use Rattle.rv_asm.specs.Given.{address_at, given_by}

-- ---- places, by first words alone
abbrev pub head_in : List ℕ → Head
head_in line = head_of (leading_word line)

abbrev pub is_data_start : Head → Bool
is_data_start head.DataStart = true
is_data_start _ = false

abbrev pub gives_code : Head → Bool
gives_code (head.Instruction kind) = true
gives_code head.Word = true
gives_code _ = false

abbrev pub gives_data : Head → Bool
gives_data head.DataWord = true
gives_data _ = false

-- one of the lines begins the data
abbrev pub has_data_start : List (List ℕ) → Bool
has_data_start [] = false
has_data_start (line ∷ lines) = if is_data_start (head_in line) then true else has_data_start lines

-- how many lines before `.data` count as code words
abbrev pub code_count : List (List ℕ) → ℕ
code_count [] = 0
code_count (line ∷ lines) = if is_data_start (head_in line) then 0 else (if gives_code (head_in line) then 1 else 0) + code_count lines

-- how many lines behind it count as data words
abbrev pub data_count : List (List ℕ) → ℕ
data_count [] = 0
data_count (line ∷ lines) = if is_data_start (head_in line) then count_by (λ l. gives_data (head_in l)) lines else data_count lines

-- the place behind lines
unfoldable pub place_behind : List (List ℕ) → Place
place_behind lines = record { in_data = has_data_start lines; code_words = code_count lines; data_words = data_count lines }

-- ---- labels
abbrev pub is_same_label : List ℕ → Option (List ℕ) → Bool
is_same_label name None = false
is_same_label name (Some other) = bytes_eq name other

-- the line's first word defines the label
abbrev pub defines : List ℕ → List ℕ → Bool
defines name line = is_same_label name (label_in (leading_word line))

-- a label that line n defines: its address is that of the place of the line
unfoldable pub label_at : List (List ℕ) → ℕ → Label
label_at lines n = record { address = address_at (place_behind (take n lines)); line = n }

-- the label of a name: the first line that defines it does
unfoldable pub label_of : List (List ℕ) → List ℕ → Option Label
label_of lines name = option_map (label_at lines) (position_from (defines name) 0 lines)

-- ---- what lines give
abbrev pub line_at : List (List ℕ) → ℕ → List ℕ
line_at lines n = slice_index_or lines n []

-- what a line gives that is line n, from 0
abbrev pub given_in : List (List ℕ) → ℕ → List ℕ → Result Given Fault
given_in lines n line = given_by (label_of lines) (place_behind (take n lines)) n (head_in line) (leading_word line) (rest_in line)

unfoldable pub given_at : List (List ℕ) → ℕ → Result Given Fault
given_at lines n = given_in lines n (line_at lines n)

abbrev pub code_given : Result Given Fault → List ℕ
code_given (Ok (given.Code word)) = word ∷ []
code_given _ = []

abbrev pub data_given : Result Given Fault → List ℕ
data_given (Ok (given.Data value)) = value ∷ []
data_given _ = []

-- LOCAL, of type NOTYPE, with an absolute value
abbrev pub symbol : List ℕ → ℕ → Symbol
symbol name address = record { name = name; value = address; size = 0; kind = STT_NOTYPE; binding = STB_LOCAL; other = 0; index = SHN_ABS }

-- of a line that is a label
abbrev pub symbol_in : List ℕ → ℕ → Result Given Fault → List Symbol
symbol_in word address (Ok given.Label) = symbol (unwrap_or (label_in word) []) address ∷ []
symbol_in word address _ = []

abbrev pub symbol_at : List (List ℕ) → ℕ → List Symbol
symbol_at lines n = symbol_in (leading_word (line_at lines n)) (address_at (place_behind (take n lines))) (given_at lines n)

-- the code words, the data words and the labels of the first n lines
unfoldable pub code_of_lines : List (List ℕ) → ℕ → List ℕ
code_of_lines lines n = gather n (λ i. code_given (given_at lines i))

unfoldable pub data_of : List (List ℕ) → ℕ → List ℕ
data_of lines n = gather n (λ i. data_given (given_at lines i))

unfoldable pub symbols_of : List (List ℕ) → ℕ → List Symbol
symbols_of lines n = gather n (λ i. symbol_at lines i)

-- ---- the file
abbrev pub text_segment : List ℕ → Segment
text_segment code = segment (PF_R + PF_X) 0x10000 (bytes_of code)

-- data words have 8 bytes
abbrev pub values_bytes : List ℕ → List ℕ
values_bytes [] = []
values_bytes (value ∷ values) = number_bytes 8 value ++ values_bytes values

abbrev pub text_data_segment : List ℕ → Segment
text_data_segment values = segment (PF_R + PF_W) 0x20000 (values_bytes values)

-- the data have one where there is data
abbrev pub segments : List ℕ → List ℕ → List Segment
segments code values = if length values == 0 then text_segment code ∷ [] else text_segment code ∷ text_data_segment values ∷ []

abbrev pub code_section : List ℕ → OutSection
code_section code = section (codes ".text") (SHF_ALLOC + SHF_EXECINSTR) (text_segment code)

abbrev pub data_section : List ℕ → OutSection
data_section values = section (codes ".data") (SHF_ALLOC + SHF_WRITE) (text_data_segment values)

abbrev pub sections : List ℕ → List ℕ → List OutSection
sections code values = if length values == 0 then code_section code ∷ [] else code_section code ∷ data_section values ∷ []

-- the entry is the first code word
abbrev pub file_from : List Segment → List OutSection → List Symbol → OutFile
file_from segments sections symbols = record { entry = 0x10000; flags = 0; segments = segments; sections = sections; symbols = symbols }

-- the file of code words, data words and labels
unfoldable pub file_of_given : List ℕ → List ℕ → List Symbol → OutFile
file_of_given code values symbols = file_from (segments code values) (sections code values) symbols

-- ---- the whole
-- no line is at fault
abbrev pub AreFaultless : List (List ℕ) → ℕ → Type 0
AreFaultless lines n = (i : ℕ) → i < n → is_ok (given_at lines i) ≡ true

-- the file that lines describe
unfoldable pub file_of_lines : List (List ℕ) → OutFile
file_of_lines lines = file_of_given (code_of_lines lines (length lines)) (data_of lines (length lines)) (symbols_of lines (length lines))

-- no line is at fault, a line gives a code word, and the bytes are the file's
pub record Assembled (text bytes : List ℕ) : Type 0 where
  pub faultless : AreFaultless (lines_of text) (length (lines_of text))
  pub code : 0 < length (code_of_lines (lines_of text) (length (lines_of text)))
  pub file : bytes ≡ written (file_of_lines (lines_of text))

-- the first line at fault is line n, from 1, and this is the first fault on it
pub record IsFirstFault (text : List ℕ) (fault : Fault) (n : ℕ) : Type 0 where
  pub least : 1 ≤ n
  pub inside : n ≤ length (lines_of text)
  pub before : AreFaultless (lines_of text) (n - 1)
  pub found : given_at (lines_of text) (n - 1) ≡ Err fault

-- no line is at fault, and none gives a code word
pub record HasNoCode (text : List ℕ) : Type 0 where
  pub faultless : AreFaultless (lines_of text) (length (lines_of text))
  pub none : code_of_lines (lines_of text) (length (lines_of text)) ≡ []

-- why a text is not assembled; want of memory says nothing
abbrev pub IsTextRefused : List ℕ → AsmError → Type 0
IsTextRefused text (Line fault n) = IsFirstFault text fault n
IsTextRefused text NoCode = HasNoCode text
IsTextRefused text Memory = Unit {0}

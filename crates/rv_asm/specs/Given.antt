-- What a line gives, in its place.
use Rattle.std.specs.Prelude.{ℕ, ◌+◌, ◌*◌, ◌==◌, nat_lt, Bool, true, false, if◌then◌else◌, Option, Some, None, unwrap_or, Result, Ok, Err, List, [], length}
use Rattle.std.specs.Option.{ok_or}
use Rattle.texts.specs.Read.{parsed_number}
use Rattle.rv_asm.specs.declared.error.Fault.{Fault}
use Rattle.rv_asm.specs.declared.error.Fault.TheVariants.{Unrecognized, IllegalOperands, RedefinedLabel, SectionFull}
use Rattle.rv_asm.specs.declared.given.Given.{Given}
use Rattle.rv_asm.specs.declared.given.Given.TheVariants as given
use Rattle.rv_asm.specs.declared.heads.Head.{Head}
use Rattle.rv_asm.specs.declared.heads.Head.TheVariants.{Blank, Instruction, Word, DataStart, DataWord, Label, Unknown}
use Rattle.rv_asm.specs.declared.labels.Label.{Label as LabelAt}
use Rattle.rv_asm.specs.declared.place.Place.{Place}
use Rattle.rv_asm.specs.Lines.{label_in}
use Rattle.rv_asm.specs.Operands.{raw_word_in, assembled_word}

-- ---- limits
abbrev pub max_code : ℕ
max_code = 16384

abbrev pub max_data : ℕ
max_data = 131072

-- ---- places
-- the address of the next code word, or of the next data word behind `.data`
abbrev pub address_at : Place → ℕ
address_at p = if p.in_data then 0x20000 + 8 * p.data_words else 0x10000 + 4 * p.code_words

-- ---- lines
-- a code word stands before `.data`, and there are at most 16,384
abbrev pub code_given : Place → Result ℕ Fault → Result Given Fault
code_given p (Err fault) = Err fault
code_given p (Ok word) = if nat_lt p.code_words max_code then Ok (given.Code word) else Err SectionFull

abbrev pub in_code : Place → Result ℕ Fault → Result Given Fault
in_code p word = if p.in_data then Err Unrecognized else code_given p word

-- a data word stands behind `.data`, and there are at most 131,072
abbrev pub data_given : Place → Option ℕ → Result Given Fault
data_given p None = Err IllegalOperands
data_given p (Some value) = if nat_lt p.data_words max_data then Ok (given.Data value) else Err SectionFull

abbrev pub in_data : Place → Option ℕ → Result Given Fault
in_data p value = if p.in_data then data_given p value else Err Unrecognized

-- a label's first definition is on a line before line n
abbrev pub is_defined_before : ℕ → Option LabelAt → Bool
is_defined_before n None = false
is_defined_before n (Some label) = nat_lt label.line n

-- nothing may follow
abbrev pub alone : List ℕ → Result Given Fault → Result Given Fault
alone rest result = if length rest == 0 then result else Err IllegalOperands

abbrev pub label_given : Bool → Result Given Fault
label_given true = Err RedefinedLabel
label_given false = Ok given.Label

-- what line n (from 0) at a place gives, by its words, or its first fault; `labels` has each label's first definition
unfoldable pub given_by : (List ℕ → Option LabelAt) → Place → ℕ → Head → List ℕ → List ℕ → Result Given Fault
given_by labels p n Blank word rest = Ok given.Nothing
given_by labels p n (Instruction kind) word rest = in_code p (assembled_word labels (address_at p) kind rest)
given_by labels p n Word word rest = in_code p (ok_or (raw_word_in rest) IllegalOperands)
given_by labels p n DataStart word rest = alone rest (Ok given.Nothing)
given_by labels p n DataWord word rest = in_data p (parsed_number rest)
given_by labels p n Label word rest = alone rest (label_given (is_defined_before n (labels (unwrap_or (label_in word) []))))
given_by labels p n Unknown word rest = Err Unrecognized

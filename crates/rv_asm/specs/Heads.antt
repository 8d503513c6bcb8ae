-- What the first word of a line says.
use Rattle.std.specs.Prelude.{ℕ, ◌==◌, if◌then◌else◌, Option, Some, None, is_some, List, length, find, codes}
use Rattle.std.specs.Str.{bytes_eq}
use Rattle.machine.specs.Table.{kinds, Kind}
use Rattle.rv_text.specs.Names.{name_of}
use Rattle.rv_asm.specs.declared.heads.Head.{Head}
use Rattle.rv_asm.specs.declared.heads.Head.TheVariants.{Blank, Instruction, Word, DataStart, DataWord, Label, Unknown}
use Rattle.rv_asm.specs.Lines.{label_in}

-- the kind of instruction of a name; `zero` is the name of the zero word
unfoldable pub kind_named : List ℕ → Option Kind
kind_named word = find (λ k. bytes_eq (name_of k) word) kinds

abbrev pub named_head : Option Kind → Head
named_head None = Unknown
named_head (Some kind) = Instruction kind

unfoldable pub head_of : List ℕ → Head
head_of word =
    if length word == 0 then Blank
    else if is_some (label_in word) then Label
    else if bytes_eq word (codes "word") then Word
    else if bytes_eq word (codes ".data") then DataStart
    else if bytes_eq word (codes ".word64") then DataWord
    else named_head (kind_named word)

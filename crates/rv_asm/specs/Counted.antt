-- The numbers of words of a text that was assembled.
use Rattle.std.specs.Prelude.{◌≡◌, ℕ, List, length}
use Rattle.rv_asm.specs.declared.assembly.Assembly.{Assembly}
use Rattle.rv_asm.specs.Assembled.{Assembled, code_of_lines, data_of}
use Rattle.rv_asm.specs.Lines.{lines_of}

-- the words of code, and of data, that the lines of a text give
abbrev pub code_words : List ℕ → List ℕ
code_words text = code_of_lines (lines_of text) (length (lines_of text))

abbrev pub data_words : List ℕ → List ℕ
data_words text = data_of (lines_of text) (length (lines_of text))

-- the file, and the numbers of its words
pub record IsAssembly (text : List ℕ) (made : Assembly) : Type 0 where
  pub file : Assembled text made.file
  pub code_count : made.code_words ≡ length (code_words text)
  pub data_count : made.data_words ≡ length (data_words text)

-- The texts of words, one a line, and what they assemble to.
use Rattle.std.specs.Prelude.{◌≡◌, ◌⊎◌, ℕ, ◌^◌, ◌<◌, ◌≤◌, ◌==◌, not, Bool, Result, Ok, List, [], ◌∷◌, ◌++◌, length, map, All}
use Rattle.std.specs.List.{filter, join_with_byte}
use Rattle.tests.specs.Admission.CodeWords.{word_at, ElfFile}
use Rattle.tests.specs.Elf.Layout.{written}
use Rattle.listing.specs.Listing.{IsListing}
use Rattle.rv_text.specs.Text.{text_of}
use Rattle.rv_asm.specs.declared.error.AsmError.{AsmError}
use Rattle.rv_asm.specs.Assembled.{Assembled, file_of_given}
use Rattle.rv_asm.specs.Exact.{IsExact, IsOrMemory}
use Rattle.rv_asm.specs.Lines.{newline, lines_of, statement}

-- 1 to 16,384 words of 32 bits
pub record AreTextWords (words : List ℕ) : Type 0 where
  pub some : 1 ≤ length words
  pub few : length words ≤ 16384
  pub each : All (λ word. word < 2 ^ 32) words

-- the file with these words as its code, no data and no labels
abbrev pub words_file : List ℕ → List ℕ
words_file words = written (file_of_given words [] [])

-- ---- one line for each word
-- the text of each word, with a newline between two
unfoldable pub words_text : List ℕ → List ℕ
words_text words = join_with_byte newline (map text_of words)

-- the text of the words, with or without a newline at the end
abbrev pub IsTextOf : List ℕ → List ℕ → Type 0
IsTextOf words text = (text ≡ words_text words) ⊎ (text ≡ words_text words ++ newline ∷ [])

-- the text of the words assembles to their file
abbrev pub WordsAssemble : Type 0
WordsAssemble = (words text : List ℕ) → AreTextWords words → IsTextOf words text → Assembled text (words_file words)

-- the text of the words is within the limit of assemblies
abbrev pub TextsAreShort : Type 0
TextsAreShort = (words text : List ℕ) → AreTextWords words → IsTextOf words text → length text ≤ 67108864

-- the file of the words is the only answer but Memory
abbrev pub WordsAreAnswered : Type 0
WordsAreAnswered =
    (words text : List ℕ) (answer : Result (List ℕ) AsmError) → AreTextWords words → IsTextOf words text
    → IsExact text answer → IsOrMemory (Ok (words_file words)) answer

-- ---- with comments, blanks and empty lines
abbrev pub has_some : List ℕ → Bool
has_some text = not (length text == 0)

-- what the non-empty lines say, without comments and the blanks around them
abbrev pub said_in : List (List ℕ) → List (List ℕ)
said_in lines = filter has_some (map statement lines)

-- the lines say the texts of the words
pub record SaysWords (text words : List ℕ) : Type 0 where
  pub said : said_in (lines_of text) ≡ map text_of words

-- a text that says these texts assembles to the file of the words
abbrev pub SayingsAssemble : Type 0
SayingsAssemble = (words text : List ℕ) → AreTextWords words → SaysWords text words → Assembled text (words_file words)

-- the listing of a file assembles to the file of the words that it lists
abbrev pub ListingsAssemble : Type 0
ListingsAssemble =
    (f : ElfFile) (text : List ℕ) (listing : IsListing f text) → AreTextWords (map (word_at f) listing.addresses)
    → Assembled text (words_file (map (word_at f) listing.addresses))

-- The listing of a file: the text of each code word with its address, in ascending order.
use Rattle.std.specs.Prelude.{◌≡◌, ℕ, ◌<◌, ◌%◌, ◌==◌, ◌&&◌, Bool, true, List, [], ◌∷◌, ◌++◌, codes, AllPairs, Contains, ◌↔◌}
use Rattle.tests.specs.Admission.CodeWords.{ranges_of, word_at, ElfFile}
use Rattle.machine.specs.Step.{in_range}
use Rattle.texts.specs.Printed.{hex_text, word_text}
use Rattle.rv_text.specs.Text.{text_of}

-- a code word stands at an address: a multiple of 4 whose four bytes lie in one code range
abbrev pub has_code_word : ElfFile → ℕ → Bool
has_code_word f a = (a % 4 == 0) && in_range a (ranges_of f)

-- all addresses of code words, in ascending order
pub record AreWordAddresses (f : ElfFile) (addresses : List ℕ) : Type 0 where
  pub ascend : AllPairs (λ a b. a < b) addresses
  pub all : (a : ℕ) → Contains addresses a ↔ (has_code_word f a ≡ true)

-- the line of a word: its text, its address and the word
unfoldable pub line : ℕ → ℕ → List ℕ
line a w = text_of w ++ (codes " # " ++ (hex_text a ++ (codes " " ++ (word_text w ++ codes "\n"))))

-- the lines of the words at some addresses
abbrev pub lines : (ℕ → ℕ) → List ℕ → List ℕ
lines word [] = []
lines word (a ∷ rest) = line a (word a) ++ lines word rest

-- the lines of all code words, as the loaded image has them
pub record IsListing (f : ElfFile) (text : List ℕ) : Type 0 where
  pub addresses : List ℕ
  pub all : AreWordAddresses f addresses
  pub is : text ≡ lines (word_at f) addresses

-- The words of parts of code, each with its address.
use Rattle.std.specs.Prelude.{◌≡◌, ℕ, zero, suc, ◌+◌, ◌/◌, Some, List, [], ◌∷◌, ◌++◌, map}
use Rattle.tests.specs.declared.test.CodeWord.{CodeWord}
use Rattle.machine.specs.Table.{decode_of}
use Rattle.test_admission.specs.Stretches.{Part}
use Rattle.test_admission.specs.Faults.{placed_word}

-- n words of a part, from number k on
abbrev pub words_from : Part → ℕ → ℕ → List (ℕ × ℕ)
words_from p k zero = []
words_from p k (suc n) = placed_word p k ∷ words_from p (k + 1) n

-- all words of a part, and of parts
abbrev pub part_words : Part → List (ℕ × ℕ)
part_words p = words_from p 0 (p.size / 4)

abbrev pub words_among : List Part → List (ℕ × ℕ)
words_among [] = []
words_among (p ∷ ps) = part_words p ++ words_among ps

-- how many they are
abbrev pub word_total : List Part → ℕ
word_total [] = 0
word_total (p ∷ ps) = p.size / 4 + word_total ps

-- a word of the code by its address and the word, and whether its instruction is that of the word
abbrev pub pair_of : CodeWord → ℕ × ℕ
pair_of c = (c.at, c.word)

abbrev pub pairs_of : List CodeWord → List (ℕ × ℕ)
pairs_of cs = map pair_of cs

pub record IsDecoded (c : CodeWord) : Type 0 where
  pub instruction : decode_of c.word ≡ Some c.ins

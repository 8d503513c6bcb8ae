-- Lists of words.
use Rattle.std.proofs.Common.{ℕ, zero, suc, ◌^◌, ◌<◌, List, [], ◌∷◌, ◌++◌, refl, arith}
use Rattle.std.specs.Prelude.{◌≡◌, true, pos}
use Rattle.machine.specs.Table.{ins, encode_of, word_of, Illegal}
use Rattle.relinker.specs.Link.{AreWords, is_encoded}

-- one more word
pub push_word : (words : List ℕ) (w : ℕ) → AreWords words → w < 2 ^ 32 → AreWords (words ++ w ∷ [])
push_word [] w all h zero = h
push_word [] w all h (suc k) = omega arith
push_word (x ∷ xs) w all h zero = all 0
push_word (x ∷ xs) w all h (suc k) = push_word xs w (λ j. all (suc j)) h k

-- the stub has a word
pub stub_word : is_encoded (ins Illegal 0 0 0 (pos 0)) ≡ true
unfolding encode_of word_of
stub_word = refl

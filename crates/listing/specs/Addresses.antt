-- The addresses of the whole words of ranges. A range is a pair: its first address and the one behind its last.
use Rattle.std.specs.Prelude.{ℕ, zero, suc, ◌+◌, ◌-◌, ◌*◌, ◌/◌, max, List, [], ◌∷◌, ◌++◌}

-- n addresses of words, one behind the other, from a on
abbrev pub addresses_from : ℕ → ℕ → List ℕ
addresses_from a zero = []
addresses_from a (suc n) = a ∷ addresses_from (a + 4) n

-- the least multiple of 4 from a number on, and the greatest up to it
abbrev pub up : ℕ → ℕ
up a = (a + 3) / 4 * 4

abbrev pub down : ℕ → ℕ
down a = a / 4 * 4

-- the words of a range that are not before an address
abbrev pub range_words : ℕ → ℕ × ℕ → List ℕ
range_words done r = addresses_from (max (up r.0) done) ((down r.1 - max (up r.0) done) / 4)

-- the words of ranges in the order of their starts, from an address on, each once
abbrev pub addresses : ℕ → List (ℕ × ℕ) → List ℕ
addresses done [] = []
addresses done (r ∷ rs) = range_words done r ++ addresses (max done (down r.1)) rs

-- Code ranges in which a word is found by a search.
use Rattle.std.specs.Prelude.{◌≡◌, ℕ, ◌+◌, ◌-◌, ◌<◌, ◌≤◌, ◌&&◌, Bool, true, nat_le, List, length, max, All, slice_index_or}
use Rattle.std.specs.List.Sorted.{IsNonDecreasingBy}
use Rattle.machine.specs.Step.{in_range}

-- the four bytes from an address on lie in a range, given by its first address and the one behind its last
abbrev pub spans_word : ℕ → ℕ × ℕ → Bool
spans_word a r = nat_le r.0 a && nat_le (a + 4) r.1

-- neither their first addresses nor their ends fall
pub record AreRising (rs : List (ℕ × ℕ)) : Type 0 where
  pub starts : IsNonDecreasingBy (λ r. r.0) rs
  pub ends : IsNonDecreasingBy (λ r. r.1) rs

-- each begins at an address or before it
abbrev pub BeginBy : ℕ → List (ℕ × ℕ) → Type 0
BeginBy a rs = All (λ r. r.0 ≤ a) rs

-- the words of a range are words of the ranges
abbrev pub HasWordsAmong : List (ℕ × ℕ) → ℕ × ℕ → Type 0
HasWordsAmong rs r = (a : ℕ) → spans_word a r ≡ true → in_range a rs ≡ true

-- f is the greater of e and the end of the last range
abbrev pub IsFarthest : List (ℕ × ℕ) → ℕ → ℕ → Type 0
IsFarthest rs e f = (length rs ≡ 0 → f ≡ e) × ((d : ℕ × ℕ) → 0 < length rs → f ≡ max e (slice_index_or rs (length rs - 1) d).1)

-- rising ranges have the words of the others
pub record HaveTheWords (rs xs : List (ℕ × ℕ)) : Type 0 where
  pub rising : AreRising xs
  pub words : (a : ℕ) → in_range a xs ≡ in_range a rs

-- each address from the first to the last begins a word of a range
abbrev pub IsRunOfWords : List (ℕ × ℕ) → ℕ → ℕ → Type 0
IsRunOfWords rs first last = (a : ℕ) → first ≤ a → a ≤ last → in_range a rs ≡ true

-- Sets of addresses.
use Rattle.std.specs.Prelude.{◌≡◌, ℕ, ◌==◌, ◌||◌, Bool, true, false, if◌then◌else◌, nat_lt, List, [], ◌∷◌, map}
use Rattle.std.specs.List.{list_any}
use Rattle.std.specs.BTreeSet.{BTreeSet}
use Rattle.machine.specs.Sets.{has_address}
use Rattle.tests.specs.declared.test.CodeWord.{CodeWord}

-- the list holds the address
abbrev pub lists : List ℕ → ℕ → Bool
lists addresses a = list_any (λ b. b == a) addresses

-- the new list holds what the old one does and what passes the test
pub record Adds (old new : List ℕ) (test : ℕ → Bool) : Type 0 where
  pub each : (a : ℕ) → lists new a ≡ (lists old a || test a)

-- a word stands at the address
abbrev pub has_word_at : List CodeWord → ℕ → Bool
has_word_at words a = lists (map (λ c. c.at) words) a

-- at the addresses of words: the new list holds what the old one does and what passes the test
pub record AddsAt (words : List CodeWord) (old new : List ℕ) (test : ℕ → Bool) : Type 0 where
  pub each : (a : ℕ) → has_word_at words a ≡ true → lists new a ≡ (lists old a || test a)

-- the new set holds what the old one does and what passes the test
pub record Gains (old new : BTreeSet ℕ) (test : ℕ → Bool) : Type 0 where
  pub each : (a : ℕ) → has_address new a ≡ (has_address old a || test a)

-- with `rest`, the new list holds what the old one does and what passes the test
pub record AddsBut (old new : List ℕ) (test rest : ℕ → Bool) : Type 0 where
  pub each : (a : ℕ) → (lists new a || rest a) ≡ (lists old a || test a)

-- of ascending addresses, those that are not below a
abbrev pub not_below : ℕ → List ℕ → List ℕ
not_below a [] = []
not_below a (b ∷ bs) = if nat_lt b a then not_below a bs else b ∷ bs

-- the first of the addresses is a
abbrev pub is_first : ℕ → List ℕ → Bool
is_first a [] = false
is_first a (b ∷ bs) = b == a

-- with `rest`, the new set holds what the old one does and what passes the test
pub record GainsBut (old new : BTreeSet ℕ) (test rest : ℕ → Bool) : Type 0 where
  pub each : (a : ℕ) → (has_address new a || rest a) ≡ (has_address old a || test a)

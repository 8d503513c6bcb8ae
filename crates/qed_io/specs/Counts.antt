-- Counts of faults.
use Rattle.std.specs.Prelude.{◌≡◌, ℕ, ◌+◌, ◌-◌, ◌^◌, ◌≤◌, min, List}

-- one more, up to the last value of a counter
abbrev pub counted_up : ℕ → ℕ
counted_up n = min (n + 1) (2 ^ 64 - 1)

-- the count of a counter rose in the call, or stands at the counter's last value
abbrev pub Rose : ℕ → ℕ → Type 0
Rose before now = counted_up before ≤ now

-- no name's count fell
abbrev pub NoneFell : (List ℕ → ℕ) → (List ℕ → ℕ) → Type 0
NoneFell before now = (name : List ℕ) → before name ≤ now name

-- each name's count stays as it was
abbrev pub NoneChanged : (List ℕ → ℕ) → (List ℕ → ℕ) → Type 0
NoneChanged before now = (name : List ℕ) → now name ≡ before name

-- the count of a name rose
abbrev pub RoseAt : (List ℕ → ℕ) → (List ℕ → ℕ) → List ℕ → Type 0
RoseAt before now name = Rose (before name) (now name)

-- what a call does to the counts of one kind: none falls, and all stay as they were where it did not fail
pub record CountsFaults (Failed : Type 0) (before now : List ℕ → ℕ) : Type 0 where
  pub none_fell : NoneFell before now
  pub steady : (Failed → ⊥) → NoneChanged before now

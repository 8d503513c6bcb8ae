-- The least pair of numbers with a relation, as a loop within a loop finds it.
use Rattle.std.proofs.Common.{◌≡◌, ◌⊎◌, inl, inr, ⊎_elim, ℕ, ◌+◌, ◌<◌, ◌≤◌, arith}
use Rattle.std.proofs.lemmas.Bool.{cases_lt}

module _ (R : ℕ → ℕ → Type 0) where
  -- numbers behind i, one more
  pub next_more : (i j : ℕ) → ((k : ℕ) → k < j → R i k → ⊥) → (R i j → ⊥) → (k : ℕ) → k < j + 1 → R i k → ⊥
  next_more i j before here k h o = ⊎_elim (λ l. before k l o) (λ l. let is : k ≡ j = omega arith in here (rw is at o)) (cases_lt k j)

  -- the least number behind i
  pub next_least : (i j : ℕ) → ((k : ℕ) → k < j → R i k → ⊥) → (k : ℕ) → R i k → j ≤ k
  next_least i j before k o = ⊎_elim (λ l. absurd (before k l o)) (λ l. l) (cases_lt k j)

  -- numbers before i, one more
  pub first_more : (i : ℕ) → ((h k : ℕ) → h < i → R h k → ⊥) → ((k : ℕ) → R i k → ⊥) → (h k : ℕ) → h < i + 1 → R h k → ⊥
  first_more i before here h k l o = ⊎_elim (λ m. before h k m o) (λ m. let is : h ≡ i = omega arith in here k (rw is at o)) (cases_lt h i)

  -- the first number that has a later one, and the first such later one
  pub pair_least : (i j : ℕ) → ((h k : ℕ) → h < i → R h k → ⊥) → ((k : ℕ) → R i k → j ≤ k) → (h k : ℕ) → R h k → (i < h) ⊎ ((i ≡ h) × (j ≤ k))
  pair_least i j before next h k o = ⊎_elim (λ l. absurd (before h k l o)) (λ l. ⊎_elim (λ m. inl m) (λ m. let is : i ≡ h = omega arith in let o2 : R i k = rw is o in inr (is, next k o2)) (cases_lt i h)) (cases_lt h i)

-- Ranges by their first address and the one behind their last.
use Rattle.std.specs.Prelude.{ℕ, ◌<◌, List, map, All, AllPairs}
use Rattle.tests.specs.declared.range.Span.{Span}

abbrev pub span : Span → ℕ × ℕ
span s = (s.start, s.end)

abbrev pub spans : List Span → List (ℕ × ℕ)
spans ss = map span ss

-- the ranges of some things ascend, each has some address, and there is a gap between any two
pub record AreSpaced {A : Type 0} (range : A → ℕ × ℕ) (xs : List A) : Type 0 where
  pub some : All (λ x. (range x).0 < (range x).1) xs
  pub gaps : AllPairs (λ x y. (range x).1 < (range y).0) xs

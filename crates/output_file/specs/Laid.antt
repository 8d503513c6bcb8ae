-- Bytes at ascending places, with zeros between them.
use Rattle.std.specs.Prelude.{ℕ, ◌+◌, ◌-◌, List, [], ◌∷◌, ◌++◌, length, replicate}

-- the bytes from place `start` on, behind n that stand already; each list comes with the place of its first byte
abbrev pub laid : ℕ → ℕ → List (ℕ × List ℕ) → List ℕ
laid start n [] = []
laid start n (p ∷ ps) = replicate (p.0 - start - n) 0 ++ (p.1 ++ laid start (n + (p.0 - start - n) + length p.1) ps)

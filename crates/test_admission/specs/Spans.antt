-- Ranges of addresses that are sorted and joined.
use Rattle.std.specs.Prelude.{ℕ, ◌<◌, nat_le, cond, max, List, [], ◌∷◌, All}
use Rattle.tests.specs.declared.range.Span.{Span}

-- a range joined with those behind it, which begin no earlier, as long as they touch or overlap it
abbrev pub glue : ℕ × ℕ → List (ℕ × ℕ) → List (ℕ × ℕ)
glue r [] = r ∷ []
glue r (t ∷ ts) = cond (nat_le t.0 r.1) (glue (r.0, max r.1 t.1) ts) (r ∷ glue t ts)

abbrev pub glued : List (ℕ × ℕ) → List (ℕ × ℕ)
glued [] = []
glued (r ∷ rs) = glue r rs

-- each range has some address
abbrev pub HaveSome : List Span → Type 0
HaveSome ss = All (λ s. s.start < s.end) ss

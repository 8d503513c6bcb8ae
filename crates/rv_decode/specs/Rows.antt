-- The rows of the decoder's table that a word may fit.
use Rattle.std.specs.Prelude.{ℕ, Bool, cond, List, [], ◌∷◌, map, ◌==◌, bit_and, Option, Some, None, slice_index_or}
use Rattle.std.specs.Borrow.{Bor}
use Rattle.rv_isa.specs.Field.{bits}
use Rattle.rv_decode.specs.declared.table.Row.{Row}
use Rattle.rv_decode.specs.declared.table.TheConstants.{TABLE}

-- whether a word has the fixed bits of a row
abbrev pub matches : Row → ℕ → Bool
matches r w = bit_and w r.mask == r.fixed

-- the first of these rows that a word fits
abbrev pub first_fit : List Row → ℕ → Option Row
first_fit [] w = None
first_fit (r ∷ rs) w = cond (matches r w) (Some r) (first_fit rs w)

-- the rows at the place of a word: its bits 2 to 6, and its bits 12 to 14
abbrev pub listed_at : List (List (List Row)) → ℕ → List Row
listed_at t w = slice_index_or (slice_index_or t (bits w 2 5) []) (bits w 12 3) []

-- the lists that a table's references point to
abbrev pub lists_of : List (List (Bor (List Row))) → List (List (List Row))
lists_of t = map (map (λ (b : Bor (List Row)). b.now)) t

-- the lists of the table of all rows
abbrev pub listed : record { now : List Row } → List Row
listed l = l.now

unfoldable pub row_places : List (List (List Row))
row_places = map (map listed) TABLE

-- The table has 32 lines of eight places, so the bits of a word always lead to a place.
use Rattle.std.proofs.Common.{◌≡◌, ℕ, ◌/◌, ◌<◌, true, List, [], ◌∷◌, zero, suc, length, get_or, refl, arith}
use Rattle.std.specs.Prelude.{◌==◌}
use Rattle.std.specs.List.{list_all}
use Rattle.std.proofs.lemmas.Bool.{and_parts, eqb-true}
use Rattle.std.proofs.lemmas.Nat.{mod_below}
use Rattle.rv_isa.specs.Field.{bits}
use Rattle.rv_decode.specs.declared.table.Row.{Row}
use Rattle.rv_decode.specs.Rows.{row_places}

lines_are : length row_places ≡ 32
unfolding row_places
lines_are = refl

eights : list_all (λ t. length t == 8) row_places ≡ true
unfolding row_places
eights = refl

line_is : (ts : List (List (List Row))) (i : ℕ) → list_all (λ t. length t == 8) ts ≡ true → i < length ts → length (get_or ts i []) ≡ 8
line_is [] i e h = absurd (omega arith)
line_is (t ∷ ts) zero e h = eqb-true _ _ (and_parts _ _ e).0
line_is (t ∷ ts) (suc i) e h = line_is ts i (and_parts _ _ e).1 (omega arith)

eight_places : (i : ℕ) → i < 32 → length (get_or row_places i []) ≡ 8
eight_places i h = line_is row_places i eights (omega (arith, lines_are))

pub first_bound : (w : ℕ) → bits w 2 5 < length row_places
first_bound w = omega (arith, lines_are, mod_below (w / 4) 32 (omega arith))

pub second_bound : (w : ℕ) → bits w 12 3 < length (get_or row_places (bits w 2 5) [])
second_bound w = omega (arith, mod_below (w / 4096) 8 (omega arith), eight_places (bits w 2 5) (mod_below (w / 4) 32 (omega arith)))

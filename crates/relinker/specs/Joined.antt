-- Items that are counted part by part.
use Rattle.std.specs.Prelude.{◌≡◌, ℕ, ◌+◌, Bool, List, ◌++◌}
use Rattle.qed_model.specs.declared.item.Item.{Item}
use Rattle.qed_model.specs.Weave.Placed.{sum_of_sizes, rows_from, instructions_from}

-- two lists, counted and laid out one behind the other, give what both give together
pub record Join (far : Bool) (entry : ℕ → ℕ) (at : ℕ) (xs ys : List Item) : Type 0 where
  pub bytes : sum_of_sizes far (xs ++ ys) ≡ sum_of_sizes far xs + sum_of_sizes far ys
  pub marks : rows_from far at (xs ++ ys) ≡ rows_from far at xs ++ rows_from far (at + sum_of_sizes far xs) ys
  pub words : instructions_from far entry at (xs ++ ys) ≡ instructions_from far entry at xs ++ instructions_from far entry (at + sum_of_sizes far xs) ys

abbrev pub PartsJoin : Type 0
PartsJoin = (far : Bool) (entry : ℕ → ℕ) (at : ℕ) (xs ys : List Item) → Join far entry at xs ys

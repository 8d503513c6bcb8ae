-- Items that are counted part by part.
use Rattle.std.proofs.Common.{◌≡◌, ℕ, ◌+◌, Bool, List, [], ◌∷◌, ◌++◌, ap, ◌∙◌, arith}
use Rattle.qed_model.specs.declared.item.Item.{Item}
use Rattle.qed_model.specs.declared.item.Item.TheVariants.{Mark, Plain, Constant, Go}
use Rattle.qed_model.specs.declared.plan.EntryRow.{EntryRow}
use Rattle.qed_model.specs.Weave.Placed.{go_size, sum_of_sizes, rows_from}
use Rattle.qed_model.proofs.Lemmas.{instructions_from-append, size-append}
use Rattle.relinker.specs.Joined.{PartsJoin}

elsewhere : (far : Bool) (rows : List EntryRow) (a b : ℕ) (ys : List Item) → a ≡ b → rows ++ rows_from far a ys ≡ rows ++ rows_from far b ys
elsewhere far rows a b ys e = ap (λ n. rows ++ rows_from far n ys) e

rows_from-append : (far : Bool) (at : ℕ) (xs ys : List Item) → rows_from far at (xs ++ ys) ≡ rows_from far at xs ++ rows_from far (at + sum_of_sizes far xs) ys
rows_from-append far at [] ys = elsewhere far [] at (at + 0) ys (omega arith)
rows_from-append far at (Mark a ∷ xs) ys =
    ap (λ rs. record { input = a; output = at } ∷ rs) (rows_from-append far at xs ys ∙ elsewhere far (rows_from far at xs) (at + sum_of_sizes far xs) (at + (0 + sum_of_sizes far xs)) ys (omega arith))
rows_from-append far at (Plain i ∷ xs) ys = rows_from-append far (at + 4) xs ys ∙ elsewhere far (rows_from far (at + 4) xs) (at + 4 + sum_of_sizes far xs) (at + (4 + sum_of_sizes far xs)) ys (omega arith)
rows_from-append far at (Constant r c ∷ xs) ys = rows_from-append far (at + 8) xs ys ∙ elsewhere far (rows_from far (at + 8) xs) (at + 8 + sum_of_sizes far xs) (at + (8 + sum_of_sizes far xs)) ys (omega arith)
rows_from-append far at (Go t ∷ xs) ys =
    rows_from-append far (at + go_size far) xs ys ∙ elsewhere far (rows_from far (at + go_size far) xs) (at + go_size far + sum_of_sizes far xs) (at + (go_size far + sum_of_sizes far xs)) ys (omega arith)

pub parts_join : PartsJoin
parts_join far entry at xs ys = record { bytes = size-append far xs ys; marks = rows_from-append far at xs ys; words = instructions_from-append far entry at xs ys }

-- Sums capped at 2^64 - 1.
use Rattle.std.proofs.Common.{◌≡◌, ℕ, ◌+◌, ◌-◌, ◌^◌, ◌<◌, ◌≤◌, Bool, List, ◌++◌, length, drop, sym, ap, ◌∙◌, arith}
use Rattle.std.proofs.lemmas.List.{drop_all}
use Rattle.qed_model.specs.declared.item.Item.{Item}
use Rattle.qed_model.specs.declared.plan.EntryRow.{EntryRow}
use Rattle.qed_model.specs.Weave.Placed.{sum_of_sizes, rows_from}
use Rattle.relinker.specs.declared.count.Count.{Count}
use Rattle.relinker.specs.Joined.{Join}
use Rattle.relinker.specs.Counted.{capped, HasCounted}
use Rattle.relinker.proofs.Joining.{parts_join}

-- behind the last item the sum is that of all
pub sum_done :
    (far : Bool) (items : List Item) (total k all : ℕ) → total < 2 ^ 64 → length items ≤ k → capped (total + sum_of_sizes far (drop k items)) ≡ capped all
    → total ≡ capped all
sum_done far items total k all small end e =
    omega (arith, small, e, ap (λ is. sum_of_sizes far is) (drop_all k items end))

-- a count, and more items
pub more_counted :
    (old new : Count) (done items : List Item) (sum : ℕ) (more : List EntryRow) → new.far ≡ old.far → sum ≡ capped (sum_of_sizes old.far items) → new.bytes ≡ capped (old.bytes + sum)
    → (old.bytes + sum_of_sizes old.far items < 2 ^ 64 - 1 → more ≡ rows_from old.far old.bytes items) → new.marks.items ≡ old.marks.items ++ more → HasCounted old done → HasCounted new (done ++ items)
more_counted old new done items sum more far total bytes rows marks was =
    let join : Join old.far (λ a. a) 0 done items = parts_join old.far (λ a. a) 0 done items in
    let same_sum : sum_of_sizes new.far (done ++ items) ≡ sum_of_sizes old.far done + sum_of_sizes old.far items = ap (λ f. sum_of_sizes f (done ++ items)) far ∙ join.bytes in
    record {
      bytes = omega (arith, bytes, total, was.bytes, same_sum);
      marks = λ small.
          let begins : old.bytes ≡ 0 + sum_of_sizes old.far done = omega (arith, small, same_sum, was.bytes) in
          marks
          ∙ ap (λ rs. rs ++ more) (was.marks (omega (arith, small, same_sum)))
          ∙ ap (λ rs. rows_from old.far 0 done ++ rs) (rows (omega (arith, small, same_sum, begins)) ∙ ap (λ n. rows_from old.far n items) begins)
          ∙ sym join.marks
          ∙ ap (λ f. rows_from f 0 (done ++ items)) (sym far);
    }

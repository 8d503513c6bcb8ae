use Rattle.std.proofs.Common.{◌≡◌, ◌+◌, ◌-◌, ◌^◌, ◌<◌, ◌++◌, drop}
use Rattle.qed_model.specs.Weave.Placed.{sum_of_sizes, rows_from}
use Rattle.relinker.proofs.count.marks.Given as goal

-- while all places are exact, the marks so far and those of the rest are those of all
abbrev pub invariant-loop-item : goal.invariant-loop-item
invariant-loop-item l = record {
  place : l.base + sum_of_sizes l.far l.items < 2 ^ 64 - 1 → l.at + sum_of_sizes l.far (drop l.item-index l.items) ≡ l.base + sum_of_sizes l.far l.items;
  rest : l.base + sum_of_sizes l.far l.items < 2 ^ 64 - 1 → l.marks.items ++ rows_from l.far l.at (drop l.item-index l.items) ≡ rows_from l.far l.base l.items;
}

use Rattle.std.proofs.Common.{◌≡◌, ◌+◌, ◌^◌, ◌<◌, drop}
use Rattle.qed_model.specs.Weave.Placed.{sum_of_sizes}
use Rattle.relinker.specs.Counted.{capped}
use Rattle.relinker.proofs.count.size_of_all.Given as goal

-- the sum so far and that of the rest are that of all
abbrev pub invariant-loop-item : goal.invariant-loop-item
invariant-loop-item l = record {
  sum : capped (l.total + sum_of_sizes l.far (drop l.item-index l.items)) ≡ capped (sum_of_sizes l.far l.items);
  small : l.total < 2 ^ 64;
}

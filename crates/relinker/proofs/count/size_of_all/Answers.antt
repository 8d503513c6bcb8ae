use Rattle.std.proofs.Common.{arith}
use Rattle.qed_model.specs.Weave.Placed.{sum_of_sizes}
use Rattle.relinker.proofs.Counting.{sum_done}
use Rattle.relinker.proofs.count.size_of_all.Goals as goal

pub returns : goal.returns
returns c =
    sum_done c.args.far c.args.items.now c.loop-item.total c.loop-item.item-index (sum_of_sizes c.args.far c.args.items.now) c.loop-item.invariant.small
    (omega (arith, c.loop-item-test.false)) c.loop-item.invariant.sum

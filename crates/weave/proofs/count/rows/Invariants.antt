use Rattle.std.proofs.Common.{drop}
use Rattle.weave.proofs.RowLaws.{RowsUpTo}
use Rattle.weave.proofs.count.rows.Given as goal

-- the rows so far, and those of the other blocks
abbrev pub invariant-loop-block : goal.invariant-loop-block
invariant-loop-block l = RowsUpTo l.sizes l.first l.blocks (drop l.block-index l.blocks) l.at l.rows.items

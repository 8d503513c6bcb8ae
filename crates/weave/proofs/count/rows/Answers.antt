use Rattle.std.proofs.Common.{rules, ◌≡◌, ◌<◌, ◌≤◌, length, get_or}
use Rattle.weave.proofs.RowLaws.{rows_more, rows_end}
use Rattle.weave.proofs.count.rows.Goals as goal

pub loop-block-preserved : goal.loop-block-preserved
loop-block-preserved c =
    let less : c.loop-block.block-index < length c.args.blocks.now = search rules in
    let item : get_or c.args.blocks.now c.loop-block.block-index c.block-item.result ≡ c.block-item.result = search rules in
    rows_more c.args.sizes.now c.args.first c.args.blocks.now c.loop-block.block-index c.block-item.result _ _ _ _ _ less item c.loop-block.invariant c.block_size.ensures c.saturating_add-at.ensures c.in_ok-push.ensures.items

pub returns-clause-end : goal.returns-clause-end
returns-clause-end c =
    let done : length c.args.blocks.now ≤ c.loop-block.block-index = search rules in
    rows_end c.args.sizes.now c.args.first c.args.blocks.now c.loop-block.block-index c.loop-block.at c.loop-block.rows.items done c.loop-block.invariant

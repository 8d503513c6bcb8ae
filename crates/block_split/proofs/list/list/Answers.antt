use Rattle.std.proofs.Common.{get_or, ap, ◌∙◌}
use Rattle.std.proofs.lemmas.List.{take_rest}
use Rattle.machine.specs.Sets.{has_address}
use Rattle.flow_recovery.specs.Sets.{lists}
use Rattle.machine.specs.Numbers.{is_at}
use Rattle.block_split.proofs.BuiltLaws.{next_built}
use Rattle.block_split.proofs.list.list.Goals as goal

pub loop-at-preserved : goal.loop-at-preserved
loop-at-preserved c =
    let v = c.index-words-at.result in
    next_built (lists c.args.leaders.now) c.args.cutting.now.every (has_address c.args.cutting.now.reached.now) c.args.cutting.now.options.now.inst_max c.args.words.now _ c.loop-at.at c.loop-at.left.now c.behind-left.result.now v _ _ _ _
    c.loop-at-test.true (take_rest c.args.words.now c.loop-at.at) c.requires.along.ascend
    (c.is_at-leads.ensures ∙ ap (λ o. is_at o (get_or c.args.words.now c.loop-at.at v).at) c.first.ensures) c.behind-left.ensures c.first-in-loop-at.ensures c.in_ok-push_block.ensures c.loop-at.invariant

use Rattle.std.proofs.Common.{sym, subst, map}
use Rattle.std.specs.Prelude.{All}
use Rattle.machine.specs.Sets.{has_address}
use Rattle.flow_recovery.specs.Sets.{lists}
use Rattle.qed_model.specs.Weave.Blocks.{AreBlocks}
use Rattle.block_split.specs.Listed.{block_of, IsWithinTop}
use Rattle.block_split.proofs.BlockLaws.{are_blocks, same_built}
use Rattle.block_split.proofs.WithinLaws.{blocks_within}
use Rattle.block_split.proofs.list.blocks.Goals as goal

pub returns-clause-exact : goal.returns-clause-exact
returns-clause-exact c =
    let f = c.args.file.now in
    let most = c.args.options.now.inst_max in
    let leads = lists c.in_ok-leaders.leaders.items in
    let built = same_built c.has_every-every.result (has_address c.in_ok-reached.reached) most c.in_ok-list.list.items _ _ _ _ c.as_slice-2.ensures.value c.as_slice.ensures c.in_ok-list.ensures in
    let all = are_blocks f c.args.options.now leads c.in_ok-leaders.ensures.exact c.has_every-every.result (c.has_every-every.ensures f c.requires.test.code) (has_address c.in_ok-reached.reached) c.in_ok-reached.ensures c.args.test.now.code c.in_ok-list.list.items c.requires.test.code built in
    subst (λ bs. AreBlocks f c.args.options.now (map block_of bs)) (sym c.of.ensures) all

pub returns-clause-within : goal.returns-clause-within
returns-clause-within c =
    let f = c.args.file.now in
    let most = c.args.options.now.inst_max in
    let leads = lists c.in_ok-leaders.leaders.items in
    let built = same_built c.has_every-every.result (has_address c.in_ok-reached.reached) most c.in_ok-list.list.items _ _ _ _ c.as_slice-2.ensures.value c.as_slice.ensures c.in_ok-list.ensures in
    λ top small. subst (All (IsWithinTop top)) (sym c.of.ensures) (blocks_within f c.args.options.now leads c.in_ok-leaders.ensures.exact c.has_every-every.result (has_address c.in_ok-reached.reached) most c.args.test.now.code c.in_ok-list.list.items c.requires.test.code built top small)

use Rattle.std.proofs.Common.{◌<◌, map, arith}
use Rattle.qed_model.specs.Weave.Blocks.{begins_at}
use Rattle.qed_model.specs.Weave.LeanCode.{Counting, block_steps}
use Rattle.block_split.specs.Listed.{block_of}
use Rattle.lean.proofs.Weave.Ticks.{few_most}
use Rattle.lean.proofs.Counting.{among_all}
use Rattle.lean.proofs.Forms.{blocks_ascend, few_every, fit}
use Rattle.lean.proofs.Owned.{all_few}
use Rattle.lean.proofs.counts.counts_of.Goals as goal

pub room-requires : goal.room-requires
room-requires c = few_every c.requires.0 c.args.options.now c.args.every c.args.test.now c.args.blocks.now c.requires.1

pub counts_in-requires-clause-ascend : goal.counts_in-requires-clause-ascend
counts_in-requires-clause-ascend c = blocks_ascend c.requires.0 c.args.options.now c.args.every c.args.test.now c.args.blocks.now c.requires.1

pub counts_in-requires-clause-fit : goal.counts_in-requires-clause-fit
counts_in-requires-clause-fit c = fit c.requires.0 c.args.options.now c.args.every c.args.test.now c.args.blocks.now c.requires.1

pub counts_in-requires-clause-few : goal.counts_in-requires-clause-few
counts_in-requires-clause-few c = all_few c.requires.0 c.args.options.now c.args.every c.args.blocks.now c.requires.1.cut

pub returns-clause-bound : goal.returns-clause-bound
returns-clause-bound c = λ a.
    let bs = map block_of c.args.blocks.now in
    let k : Counting = record { diverse = c.args.options.now.diverse; land = c.args.options.now.land; leader = begins_at bs; entry = c.args.test.now.entry; room = c.room.result } in
    let short = all_few c.requires.0 c.args.options.now c.args.every c.args.blocks.now c.requires.1.cut in
    let few = few_most k 2047 bs (λ b m. let less = among_all (λ b. block_steps k.diverse k.land k.leader b < 2048) c.args.blocks.now short b m in omega (arith, less)) a in
    let is = c.in_ok-counts.ensures.most a in
    let room = c.room.ensures.bound in
    omega (arith, few, is, room)

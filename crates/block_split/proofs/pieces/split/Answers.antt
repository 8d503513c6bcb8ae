use Rattle.std.proofs.Common.{ℕ, ◌≤◌, ◌*◌, ◌+◌, arith}
use Rattle.std.proofs.lemmas.List.{take_rest}
use Rattle.block_split.proofs.PieceLengths.{made_lengths, more_made, all_made, is_some, within_body, rest_some, some_run, added}
use Rattle.block_split.proofs.pieces.split.Goals as goal

max_some : (min max : ℕ) → 1 ≤ min → 2 * min ≤ max + 1 → 1 ≤ max
max_some min max h k = omega (arith, h, k)

pub loop-at-preserved : goal.loop-at-preserved
loop-at-preserved c =
    let before = c.loop-at.invariant in
    let size = some_run _ _ (rest_some c.args.body.now c.loop-at.at c.loop-at-test.true) c.run_length-size.ensures in
    record {
      within = within_body c.args.body.now c.loop-at.at _ before.within c.run_length-size.ensures;
      made = added c.args.max _ _ _ _ (more_made c.args.max _ _ _ _ _ (take_rest c.args.body.now c.loop-at.at) size c.run_length-size.ensures before.made) c.in_ok-push_lengths.ensures;
    }

pub returns : goal.returns
returns c = made_lengths c.args.max c.args.body.now _ (max_some _ _ c.requires.least c.requires.room) (is_some _ c.if-is_empty.ensures) (all_made c.args.max _ c.loop-at.at _ c.loop-at-test.false c.loop-at.invariant.made)

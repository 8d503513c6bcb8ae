use Rattle.std.proofs.Common.{◌≡◌, ◌+◌, ◌*◌, length, map, ap, ◌∙◌, arith}
use Rattle.qed_model.specs.Weave.Blocks.{begins_at}
use Rattle.qed_model.specs.Weave.Costs.{cost_each}
use Rattle.qed_model.specs.Weave.Lean.{leave_cost}
use Rattle.qed_model.specs.Weave.LeanCode.{fall_to, both_steps}
use Rattle.block_split.specs.Listed.{block_of, end_of}
use Rattle.relinker.specs.Counted.{capped}
use Rattle.lean.proofs.BodySteps.{steps_are}
use Rattle.lean.proofs.steps.block_steps.Goals as goal

pub returns : goal.returns
returns c =
    let b = c.args.block.now in
    let leader = begins_at (map block_of c.args.blocks.now) in
    let body : c.body_steps.result ≡ capped (cost_each (both_steps c.args.diverse) b.body) = c.body_steps.ensures ∙ ap (λ is. capped (cost_each (both_steps c.args.diverse) is)) c.as_slice-body.ensures in
    let leave : c.leave_steps-leave.result ≡ leave_cost (fall_to leader) (end_of b.end) b.start (b.start + 4 * length b.body) = c.leave_steps-leave.ensures.value ∙ ap (λ is. leave_cost (fall_to leader) (end_of b.end) b.start (b.start + 4 * length is)) c.as_slice-body.ensures in
    let all = steps_are c.args.diverse c.args.land leader b c.requires.fits c.body_steps.result c.leave_steps-leave.result body leave c.requires.few in
    let sum = c.saturating_add.ensures in
    let few = c.requires.few in
    omega (arith, all, sum, few, c.entry_steps.ensures.value)

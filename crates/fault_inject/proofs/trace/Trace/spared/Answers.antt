use Rattle.std.proofs.Common.{◌+◌, refl, arith}
use Rattle.fault_inject.proofs.Tracing.{more_far, none_far}
use Rattle.fault_inject.proofs.trace.Trace.spared.Goals as goal

pub loop-made-init : goal.loop-made-init
loop-made-init c = none_far c.args.self.now c.args.address c.args.from

pub loop-made-preserved : goal.loop-made-preserved
loop-made-preserved c =
    let test = c.loop-made-test.true in
    let least = c.min-left.ensures in
    let left = c.saturating_sub.ensures in
    let count = c.len.ensures in
    more_far c.args.self.now c.args.address c.args.from c.loop-made.made (c.args.from + c.loop-made.made) c.index.result.now c.loop-made.invariant refl (omega (arith, test, least, left, count)) c.index.ensures
    (c.is_near.ensures c.if-is_near.false)

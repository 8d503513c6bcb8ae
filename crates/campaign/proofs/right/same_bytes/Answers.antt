use Rattle.std.proofs.Common.{sym, ◌∙◌}
use Rattle.campaign.specs.Right.{same_bytes, byte_at}
use Rattle.campaign.proofs.Comparing.{same_on, same_off, same_end}
use Rattle.campaign.proofs.right.same_bytes.Goals as goal

pub returns-then-byte : goal.returns-then-byte
unfolding same_bytes
returns-then-byte c =
    sym (same_off (byte_at c.args.a.now.state.memory) (byte_at c.args.b.now.state.memory) c.loop-address.address c.args.range.now.end c.byte.result c.byte-in-loop-address.result c.loop-address-test.true
    c.byte.ensures c.byte-in-loop-address.ensures c.if-byte.true) ∙ c.loop-address.invariant

pub loop-address-preserved : goal.loop-address-preserved
loop-address-preserved c =
    sym (same_on (byte_at c.args.a.now.state.memory) (byte_at c.args.b.now.state.memory) c.loop-address.address c.args.range.now.end c.byte.result c.byte-in-loop-address.result c.loop-address-test.true
    c.byte.ensures c.byte-in-loop-address.ensures c.if-byte.false) ∙ c.loop-address.invariant

pub returns : goal.returns
unfolding same_bytes
returns c =
    sym (same_end (byte_at c.args.a.now.state.memory) (byte_at c.args.b.now.state.memory) c.loop-address.address c.args.range.now.end c.loop-address-test.false) ∙ c.loop-address.invariant

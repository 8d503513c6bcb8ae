use Rattle.std.proofs.Common.{◌≡◌, ◌-◌}
use Rattle.campaign.specs.Right.{same_from, byte_at}
use Rattle.campaign.proofs.right.same_bytes.Given as goal

-- if all bytes agree, so do those of the rest
abbrev pub invariant-loop-address : goal.invariant-loop-address
invariant-loop-address l =
    same_from (byte_at l.a.state.memory) (byte_at l.b.state.memory) l.address (l.end - l.address)
    ≡ same_from (byte_at l.a.state.memory) (byte_at l.b.state.memory) l.start (l.end - l.start)

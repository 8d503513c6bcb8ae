use Rattle.std.proofs.Common.{◌≡◌, ◌-◌}
use Rattle.rv_isa.specs.declared.profile.TheConstants.{ORIGINALS}
use Rattle.machine.specs.Step.{reg}
use Rattle.campaign.specs.Right.{same_from}
use Rattle.campaign.proofs.right.same_regs.Given as goal

-- if all registers agree, so do those of the rest
abbrev pub invariant-loop-number : goal.invariant-loop-number
invariant-loop-number l = same_from (reg l.a.state) (reg l.b.state) l.number (14 - l.number) ≡ same_from (reg l.a.state) (reg l.b.state) 1 ORIGINALS

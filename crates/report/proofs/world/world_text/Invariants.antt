use Rattle.std.proofs.Common.{◌≡◌}
use Rattle.machine.specs.Below.{gather}
use Rattle.report.specs.World.{hart_text}
use Rattle.report.proofs.world.world_text.Given as goal

-- the harts so far
abbrev pub invariant-loop-number : goal.invariant-loop-number
invariant-loop-number l = l.text.items ≡ gather l.number (hart_text l.world)

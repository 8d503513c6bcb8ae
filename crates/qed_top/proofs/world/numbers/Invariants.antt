use Rattle.std.proofs.Common.{◌≡◌}
use Rattle.machine.specs.Below.{each}
use Rattle.qed_top.proofs.world.numbers.Given as goal

-- the numbers so far
abbrev pub invariant-loop-number : goal.invariant-loop-number
invariant-loop-number l = l.numbers.items ≡ each l.number (λ i. i)

use Rattle.std.proofs.Common.{◌≡◌}
use Rattle.machine.specs.Below.{gather}
use Rattle.machine.specs.Numbers.{number_bytes}
use Rattle.test_gen.proofs.tables.data_bytes.Given as goal

abbrev pub invariant-loop-number : goal.invariant-loop-number
invariant-loop-number l = l.bytes.items ≡ gather l.number (λ i. number_bytes 8 i)

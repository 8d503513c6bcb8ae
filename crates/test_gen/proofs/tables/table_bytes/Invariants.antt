use Rattle.std.proofs.Common.{◌≡◌}
use Rattle.machine.specs.Below.{gather}
use Rattle.machine.specs.Numbers.{number_bytes}
use Rattle.test_gen.specs.Generated.{function_at}
use Rattle.test_gen.proofs.tables.table_bytes.Given as goal

abbrev pub invariant-loop-number : goal.invariant-loop-number
invariant-loop-number l = l.bytes.items ≡ gather l.number (λ i. number_bytes 8 (function_at i))

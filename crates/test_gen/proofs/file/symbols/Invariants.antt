use Rattle.std.proofs.Common.{◌≡◌, ◌∷◌}
use Rattle.std.specs.Prelude.{codes}
use Rattle.machine.specs.Below.{each}
use Rattle.test_gen.specs.Generated.{named_function, function_symbol}
use Rattle.test_gen.proofs.file.symbols.Given as goal

-- `main`, and the functions so far
abbrev pub invariant-loop-number : goal.invariant-loop-number
invariant-loop-number l = l.symbols.items ≡ named_function (codes "main") 0x10000 ∷ each l.number function_symbol

use Rattle.std.proofs.Common.{◌≡◌, ◌++◌}
use Rattle.machine.specs.Below.{each}
use Rattle.test_gen.specs.Random.{drawn, after}
use Rattle.test_gen.specs.Code.{body_instruction}
use Rattle.test_gen.proofs.code.push_function.Given as goal

-- an instruction for each word so far
abbrev pub invariant-loop : goal.invariant-loop
invariant-loop l = record {
  code : l.code.items ≡ l.initial.code.items ++ each l.counter (λ k. body_instruction (drawn (after k l.initial.rng)));
  rng : l.rng ≡ after l.counter l.initial.rng;
}

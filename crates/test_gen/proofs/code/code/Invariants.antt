use Rattle.std.proofs.Common.{◌≡◌, ◌*◌, ◌++◌}
use Rattle.machine.specs.Below.{gather}
use Rattle.test_gen.specs.Random.{seeded, after}
use Rattle.test_gen.specs.Code.{main, function}
use Rattle.test_gen.proofs.code.code.Given as goal

-- the functions so far, each of 32 words
abbrev pub invariant-loop : goal.invariant-loop
invariant-loop l = record {
  code : l.code.items ≡ main l.functions ++ gather l.counter (function l.seed);
  rng : l.rng ≡ after (32 * l.counter) (seeded l.seed);
}

use Rattle.std.proofs.Common.{◌≡◌, ◌*◌, Bool}
use Rattle.qed_model.specs.Weave.Placed.{sum_of_sizes}
use Rattle.call_tests.proofs.too_large.constants.Given as goal

-- each constant so far has 8 bytes
abbrev pub invariant-loop : goal.invariant-loop
invariant-loop l = (far : Bool) → sum_of_sizes far l.items ≡ 8 * l.counter

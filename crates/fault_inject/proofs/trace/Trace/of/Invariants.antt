use Rattle.std.proofs.Common.{◌≡◌, length}
use Rattle.fault_inject.specs.Touched.{IsTrace, run}
use Rattle.fault_inject.proofs.trace.Trace.of.Given as goal

-- the steps so far were made, and are traced
abbrev pub invariant-loop-made : goal.invariant-loop-made
invariant-loop-made l = record {
  there : l.machine.state ≡ run l.initial.machine.state l.made;
  trace : IsTrace l.initial.machine.state l.trace;
  count : length l.trace.places.items ≡ l.made;
}

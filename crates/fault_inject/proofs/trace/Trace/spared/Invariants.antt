use Rattle.fault_inject.proofs.Tracing.{AreFar}
use Rattle.fault_inject.proofs.trace.Trace.spared.Given as goal

-- the steps so far touch no byte of the word
abbrev pub invariant-loop-made : goal.invariant-loop-made
invariant-loop-made l = AreFar l.self l.address l.from l.made

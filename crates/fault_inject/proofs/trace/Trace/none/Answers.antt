use Rattle.fault_inject.proofs.Tracing.{trace_none}
use Rattle.fault_inject.proofs.trace.Trace.none.Goals as goal

pub returns-clause-trace : goal.returns-clause-trace
returns-clause-trace c s = trace_none s _ c.new.ensures.items

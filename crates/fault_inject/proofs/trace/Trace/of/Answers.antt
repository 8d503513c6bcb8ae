use Rattle.std.proofs.Common.{◌≡◌, sym, rules}
use Rattle.machine.specs.declared.outcome.Outcome.TheVariants.{Going}
use Rattle.fault_inject.proofs.Tracing.{longer, steps_on, trace_more}
use Rattle.fault_inject.proofs.trace.Trace.of.Goals as goal
use Rattle.machine.proofs.Lemmas.{run-none}

pub loop-made-init : goal.loop-made-init
loop-made-init c = record { there = sym (run-none c.args.machine.now.state); trace = c.none-trace.ensures.trace c.args.machine.now.state; count = c.none-trace.ensures.count }

pub loop-made-preserved : goal.loop-made-preserved
loop-made-preserved c =
    let h = c.loop-made.invariant in
    let going : c.loop-made.machine.state.outcome ≡ Going = search rules in
    record {
      there = steps_on c.args.machine.now.state c.loop-made.machine c.step.new.self c.loop-made.made h.there c.in_ok-step.ensures.step;
      trace = trace_more c.args.machine.now.state c.loop-made.machine.state c.loop-made.trace c.add.new.self c.loop-made.made h.trace h.count h.there going c.in_ok-add.ensures;
      count = longer c.loop-made.trace c.add.new.self c.loop-made.machine.state c.loop-made.made h.count c.in_ok-add.ensures;
    }

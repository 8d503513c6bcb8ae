use Rattle.std.proofs.Common.{◌+◌, ◌-◌, ◌*◌, ◌∙◌, refl, sym, arith}
use Rattle.fault_inject.proofs.Changing.{any_err, further, part_further}
use Rattle.fault_inject.proofs.Straying.{stopped_all}
use Rattle.fault_inject.proofs.runs.run_on.Goals as goal
use Rattle.rv_step.proofs.Running.{none_made}

pub loop-parts-init : goal.loop-parts-init
loop-parts-init g c = record { made = none_made c.args.machine.now; told = (let told = c.requires.told in omega (arith, told)); all = refl }

pub loop-parts-preserved : goal.loop-parts-preserved
loop-parts-preserved g c =
    record {
      made = further c.args.machine.now c.loop-parts.machine c.run_part.new.machine (16777216 * c.loop-parts.parts) _ (16777216 * (c.loop-parts.parts + 1)) c.loop-parts.invariant.made c.in_ok-outcome.ensures.run (omega arith);
      told = let told = c.in_ok-outcome.ensures.told in omega (arith, told);
      all = c.in_ok-outcome.ensures.all ∙ c.loop-parts.invariant.all;
    }

pub returns-then-not-is_going-clause-run : goal.returns-then-not-is_going-clause-run
returns-then-not-is_going-clause-run g c =
    let made = 16777216 * (c.loop-parts.parts + 1) in
    let there = further c.args.machine.now c.loop-parts.machine c.run_part.new.machine (16777216 * c.loop-parts.parts) _ made c.loop-parts.invariant.made c.in_ok-outcome.ensures.run (omega arith) in
    stopped_all c.args.machine.now c.run_part.new.machine made (c.args.to - c.args.from) (omega arith) there (sym c.is_going.ensures ∙ c.if-not-is_going.true)

pub returns-in_err-outcome-clause-part : goal.returns-in_err-outcome-clause-part
returns-in_err-outcome-clause-part g c =
    any_err c.from_residual.result _ (part_further c.args.machine.now c.loop-parts.machine c.run_part.new.machine (16777216 * c.loop-parts.parts) _ (c.args.to - c.args.from) c.loop-parts.invariant.made c.in_err-outcome.ensures.part (omega arith))

pub returns-in_err-outcome-2-clause-part : goal.returns-in_err-outcome-2-clause-part
returns-in_err-outcome-2-clause-part g c =
    any_err c.from_residual-in_err-outcome-2.result _ (part_further c.args.machine.now c.loop-parts.machine c.run_part-2.new.machine (16777216 * c.loop-parts.parts) _ (c.args.to - c.args.from) c.loop-parts.invariant.made
    c.in_err-outcome-2.ensures.part (omega arith))

pub returns-clause-run : goal.returns-clause-run
returns-clause-run g c =
    further c.args.machine.now c.loop-parts.machine c.run_part-2.new.machine (16777216 * c.loop-parts.parts) _ (c.args.to - c.args.from) c.loop-parts.invariant.made c.in_ok-outcome-2.ensures.run (omega arith)

use Rattle.std.proofs.Common.{refl}
use Rattle.rv_alu.proofs.Executed.{computing_step}
use Rattle.rv_alu.proofs.step.ComputingOperation.act.Goals as goal

pub returns-clause-step : goal.returns-clause-step
returns-clause-step c = computing_step c.args.ins.now c.args.regs.now c.args.pc c.computed_value-value.result c.set.new.self _ c.requires c.computed_value-value.ensures c.set.ensures refl

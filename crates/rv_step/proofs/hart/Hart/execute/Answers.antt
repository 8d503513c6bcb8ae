use Rattle.std.proofs.Common.{ap}
use Rattle.rv_isa.specs.declared.class.Class.TheVariants.{End, Break, Illegal}
use Rattle.machine.specs.Step.{stopped, trapped, class_of}
use Rattle.machine.specs.declared.outcome.Cause.TheVariants.{Word}
use Rattle.machine.specs.declared.outcome.Outcome.TheVariants.{Ended, Fired}
use Rattle.rv_step.proofs.Accesses.{by_class, at_end, at_break, at_illegal}
use Rattle.rv_step.proofs.hart.Hart.execute.Goals as goal

pub returns-in-Ecall-clause-done : goal.returns-in-Ecall-clause-done
returns-in-Ecall-clause-done g c = by_class c.args.ins.now c.args.self.now c.stop.new.self c.args.image.now (class_of c.args.ins.now.kind) End (stopped Ended) (ap class_of c.in-Ecall.is) (at_end c.args.ins.now) (c.stop.ensures c.args.image.now)

pub returns-in-Ebreak-clause-done : goal.returns-in-Ebreak-clause-done
returns-in-Ebreak-clause-done g c = by_class c.args.ins.now c.args.self.now c.stop-in-Ebreak.new.self c.args.image.now (class_of c.args.ins.now.kind) Break (stopped Fired) (ap class_of c.in-Ebreak.is) (at_break c.args.ins.now) (c.stop-in-Ebreak.ensures c.args.image.now)

pub returns-in-Illegal-clause-done : goal.returns-in-Illegal-clause-done
returns-in-Illegal-clause-done g c = by_class c.args.ins.now c.args.self.now c.trap.new.self c.args.image.now (class_of c.args.ins.now.kind) Illegal (trapped (Word 0)) (ap class_of c.in-Illegal.is) (at_illegal c.args.ins.now) (c.trap.ensures c.args.image.now)

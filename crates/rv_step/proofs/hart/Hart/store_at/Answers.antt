use Rattle.std.proofs.Common.{sym, ap, ◌∙◌}
use Rattle.machine.specs.Values.{width_of}
use Rattle.rv_step.proofs.Accesses.{store_writes, store_traps}
use Rattle.rv_step.proofs.hart.Hart.store_at.Goals as goal

pub returns-then-branch-clause-done : goal.returns-then-branch-clause-done
returns-then-branch-clause-done c = λ i kind. store_writes i c.args.self.now c.go_on.new.self c.args.image.now c.write.new.self c.args.address c.width.result c.args.value c.in_ok-write.field-0 (c.width.ensures ∙ ap width_of (sym kind)) c.in_ok-write.ensures.granted c.in_ok-write.ensures.written c.if-branch.true (c.go_on.ensures.step c.write.new.self)

pub returns-clause-done : goal.returns-clause-done
returns-clause-done c = λ i kind. store_traps i c.args.self.now c.trap.new.self c.args.image.now c.write.new.self c.args.address c.width.result c.args.value c.in_ok-write.field-0 (c.width.ensures ∙ ap width_of (sym kind)) c.in_ok-write.ensures.granted c.in_ok-write.ensures.written c.if-branch.false (c.trap.ensures c.write.new.self)

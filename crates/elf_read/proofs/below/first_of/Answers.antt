use Rattle.std.proofs.Common.{arith}
use Rattle.machine.proofs.Lemmas.{some_is, none_is}
use Rattle.elf_read.proofs.below.first_of.Goals as goal

pub returns-then-test-clause-first : goal.returns-then-test-clause-first
returns-then-test-clause-first g c = some_is _ c.args.n c.loop-i.i c.loop-i-test.true c.if-test.ensures c.loop-i.invariant

pub returns-clause-first : goal.returns-clause-first
returns-clause-first g c = none_is _ c.args.n (λ k lt. c.loop-i.invariant k (omega arith))

use Rattle.std.proofs.Common.{sym, ◌∙◌, arith}
use Rattle.test_admission.specs.Stretches.{part_of}
use Rattle.test_admission.proofs.FirstFault.{found_word, passed_word, none_in}
use Rattle.test_admission.proofs.faults.first_in.Goals as goal

pub returns-then-is_at_fault : goal.returns-then-is_at_fault
returns-then-is_at_fault c = found_word c.args.rule (part_of c.args.stretch.now) c.loop-number.number c.filled-number-end.result c.word_in-word.result c.word_in-word.ensures c.loop-number-test.true c.filled-number-end.ensures (sym c.is_at_fault.ensures ∙ c.if-is_at_fault.true) c.loop-number.invariant

pub loop-number-preserved : goal.loop-number-preserved
loop-number-preserved c = passed_word c.args.rule (part_of c.args.stretch.now) c.loop-number.number c.word_in-word.result c.word_in-word.ensures (sym c.is_at_fault.ensures ∙ c.if-is_at_fault.false) c.loop-number.invariant

pub returns : goal.returns
returns c = none_in c.args.rule (part_of c.args.stretch.now) c.loop-number.number (omega (arith, c.filled-number-end.ensures, c.loop-number-test.false)) c.loop-number.invariant

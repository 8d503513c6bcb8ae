use Rattle.std.proofs.Common.{sym, arith}
use Rattle.rv_asm.proofs.RawWords.{raw_below}
use Rattle.rv_asm.proofs.operands.word_of_digits.Goals as goal

pub overflow_cast-result : goal.overflow_cast-result
overflow_cast-result c = let h = raw_below c.args.text.now c.in_ok-word.word c.requires (sym c.in_ok-word.ensures) in omega (arith, h)

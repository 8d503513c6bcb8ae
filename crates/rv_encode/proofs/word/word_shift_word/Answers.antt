use Rattle.std.proofs.Common.{arith}
use Rattle.rv_encode.proofs.FieldWords.{set_next, register_sum}
use Rattle.rv_encode.proofs.word.word_shift_word.Goals as goal

pub returns-clause-word : goal.returns-clause-word
returns-clause-word c =
    let set = set_next 20 5 _ _ _ _ c.set.ensures.value (set_next 15 5 _ _ _ _ c.set-with_rs1.ensures.value c.set-with_rd.ensures.value) in
    omega (arith, set, register_sum c.args.fixed c.number.result c.number-2.result c.args.amount c.ranges.fixed.fits c.requires.fixed_bits c.number.ensures.bound c.number-2.ensures.bound c.requires.fits)

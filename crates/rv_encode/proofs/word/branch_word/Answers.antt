use Rattle.std.proofs.Common.{arith}
use Rattle.rv_encode.proofs.FieldWords.{set_next, branch_sum}
use Rattle.rv_encode.proofs.word.branch_word.Goals as goal

pub returns-clause-word : goal.returns-clause-word
returns-clause-word c =
    let set = set_next 31 1 _ _ _ _ c.set.ensures.value (set_next 25 6 _ _ _ _ c.set-with_5_to_10.ensures.value (set_next 20 5 _ _ _ _ c.set-with_rs2.ensures.value (set_next 15 5 _ _ _ _ c.set-with_rs1.ensures.value (set_next 8 4 _ _ _ _ c.set-with_1_to_4.ensures.value c.set-with_11.ensures.value)))) in
    omega (arith, set, branch_sum c.args.fixed c.number.result c.number-2.result c.args.bits c.get.result c.get-2.result c.get-3.result c.get-4.result c.requires c.number.ensures.bound c.number-2.ensures.bound c.get.ensures c.get-2.ensures c.get-3.ensures c.get-4.ensures)

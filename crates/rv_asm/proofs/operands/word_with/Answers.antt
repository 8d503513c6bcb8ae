use Rattle.std.proofs.Common.{sym}
use Rattle.rv_asm.proofs.Far.{far, not_near}
use Rattle.rv_asm.proofs.operands.word_with.Goals as goal

pub returns-in-Err : goal.returns-in-Err
returns-in-Err c = sym (far c.args.kind c.args.operands.now.rd c.args.operands.now.rs1 c.args.operands.now.rs2 c.args.imm (not_near c.args.imm c.ranges.imm c.in-Err.ensures))

use Rattle.rv_asm.proofs.OneAnswer.{counted_exact}
use Rattle.rv_asm.proofs.assembly.assemble_counted.Goals as goal

pub returns-clause-exact : goal.returns-clause-exact
returns-clause-exact c = counted_exact c.args.text.now c.assembled.result c.assembled.ensures

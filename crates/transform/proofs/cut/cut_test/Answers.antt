use Rattle.std.proofs.Common.{rules}
use Rattle.transform.specs.Transform.{HasCause}
use Rattle.transform.proofs.cut.cut_test.Goals as goal

pub returns-in_err-file-clause-refused : goal.returns-in_err-file-clause-refused
returns-in_err-file-clause-refused c =
    let cause : HasCause c.args.bytes.now c.args.options.now c.in_err-file.field-0.0 = c.in_err-file.ensures.refused c.args.options.now in
    search rules

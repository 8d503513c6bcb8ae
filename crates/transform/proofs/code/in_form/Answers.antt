use Rattle.std.proofs.Common.{◌∙◌, subst}
use Rattle.std.specs.Prelude.{IfErr}
use Rattle.weave.specs.Code.{HasCodeCause}
use Rattle.transform.specs.Unwritten.{code_for}
use Rattle.transform.proofs.code.in_form.Goals as goal

pub returns-in-Err-clause-refused : goal.returns-in-Err-clause-refused
returns-in-Err-clause-refused g c input read =
    let new = code_for c.args.cut.now.file c.args.options.now c.args.cut.now.blocks in
    c.refused.ensures c.args.cut.now.file c.args.options.now c.args.cut.now.test c.args.cut.now.blocks input c.requires.cut (c.limit.ensures ∙ c.requires.most)
    (subst (λ r. IfErr r (HasCodeCause new)) c.in-Err.is c.requires.cause) read

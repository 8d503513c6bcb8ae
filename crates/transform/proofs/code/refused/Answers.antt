use Rattle.std.proofs.Common.{subst}
use Rattle.weave.specs.Code.{HasCodeCause}
use Rattle.transform.specs.Unwritten.{code_for}
use Rattle.transform.proofs.Making.{too_much}
use Rattle.transform.proofs.code.refused.Goals as goal

pub returns-in-TooLarge : goal.returns-in-TooLarge
returns-in-TooLarge c f o t blocks input cut same why read =
    too_much f o t blocks cut input c.args.limit c.in-TooLarge.size read same (subst (HasCodeCause (code_for f o blocks)) c.in-TooLarge.is why)

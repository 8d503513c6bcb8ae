use Rattle.transform.specs.Explained.{IsExplained}
use Rattle.transform.proofs.OneAnswer.{exact_where, complete_of, transformable_of}
use Rattle.transform.proofs.explained.explain.Goals as goal

pub returns-clause-exact : goal.returns-clause-exact
returns-clause-exact c =
    exact_where c.args.bytes.now c.args.options.now (IsExplained c.args.bytes.now c.args.options.now)
    (λ x is. transformable_of c.args.bytes.now c.args.options.now is.output is.plan is.made) c.explain_made.result c.explain_made.ensures.done c.explain_made.ensures.refused

pub returns-clause-complete : goal.returns-clause-complete
returns-clause-complete c = complete_of c.args.bytes.now c.args.options.now c.explain_made.result c.explain_made.ensures.refused

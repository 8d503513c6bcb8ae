use Rattle.weave.proofs.AdmittedFit.{blocks_fit}
use Rattle.weave.proofs.Forms.{few_ranges, form_is}
use Rattle.weave.proofs.code.is_far.Goals as goal

pub code_size-requires-clause-visits : goal.code_size-requires-clause-visits
code_size-requires-clause-visits c = c.requires.1.blocked.sound.few_visits

pub code_size-requires-clause-ranges : goal.code_size-requires-clause-ranges
code_size-requires-clause-ranges c = let r = c.requires in few_ranges r.0 c.args.options.now c.args.test.now c.args.blocks.now r.1

pub code_size-requires-clause-fit : goal.code_size-requires-clause-fit
code_size-requires-clause-fit c = let r = c.requires in blocks_fit r.0 c.args.options.now c.args.test.now.code c.args.blocks.now r.1.blocked

pub returns : goal.returns
returns c = λ f cut. form_is f c.args.options.now c.args.test.now c.args.blocks.now cut c.code_size.result c.code_size.ensures

use Rattle.weave.proofs.AdmittedFit.{blocks_fit}
use Rattle.weave.proofs.Forms.{few_ranges, links}
use Rattle.weave.proofs.Results.{code_result, code_error}
use Rattle.weave.proofs.code.woven_code.Goals as goal

pub code_in-requires-clause-fit : goal.code_in-requires-clause-fit
code_in-requires-clause-fit c = let r = c.requires in blocks_fit r.0 c.args.options.now c.args.test.now.code c.args.blocks.now r.1.blocked

pub code_in-requires-clause-visits : goal.code_in-requires-clause-visits
code_in-requires-clause-visits c = c.requires.1.blocked.sound.few_visits

pub code_in-requires-clause-ranges : goal.code_in-requires-clause-ranges
code_in-requires-clause-ranges c = let r = c.requires in few_ranges r.0 c.args.options.now c.args.test.now c.args.blocks.now r.1

pub code_in-requires-clause-links : goal.code_in-requires-clause-links
code_in-requires-clause-links c = let r = c.requires in links r.0 c.args.options.now c.args.test.now c.args.blocks.now r.1 c.is_far-far.result (c.is_far-far.ensures r.0 r.1)

pub returns-clause-code : goal.returns-clause-code
returns-clause-code c = code_result c.args.options.now c.args.test.now c.args.blocks.now c.is_far-far.result c.is_far-far.ensures c.code_in.result c.code_in.ensures.weaver c.code_in.ensures.fits c.code_in.ensures.linked

pub returns-clause-cause : goal.returns-clause-cause
returns-clause-cause c = code_error c.args.options.now c.args.test.now c.args.blocks.now c.is_far-far.result c.is_far-far.ensures c.code_in.result c.code_in.ensures.cause

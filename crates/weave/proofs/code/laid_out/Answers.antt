use Rattle.relinker.proofs.Laying.{within_form, all_laid, link_cause}
use Rattle.weave.specs.Code.{items_of, code_begin}
use Rattle.weave.proofs.code.laid_out.Goals as goal

pub lay-requires-clause-counted : goal.lay-requires-clause-counted
lay-requires-clause-counted c = (items_of c.args.test.now c.args.options.now c.args.far c.args.blocks.now, c.in_ok-count.ensures.counted)

pub returns-clause-laid : goal.returns-clause-laid
returns-clause-laid c =
    all_laid c.in_ok-count.count c.args.far (code_begin c.args.test.now) (items_of c.args.test.now c.args.options.now c.args.far c.args.blocks.now) c.lay.result
    c.in_ok-count.ensures.form c.in_ok-count.ensures.counted c.requires.links c.lay.ensures.limit c.lay.ensures.laid

pub returns-clause-fits : goal.returns-clause-fits
returns-clause-fits c =
    within_form c.in_ok-count.count c.args.far (items_of c.args.test.now c.args.options.now c.args.far c.args.blocks.now) c.lay.result
    c.in_ok-count.ensures.form c.in_ok-count.ensures.counted c.lay.ensures.limit

pub returns-clause-cause : goal.returns-clause-cause
returns-clause-cause c =
    link_cause c.in_ok-count.count c.args.far (items_of c.args.test.now c.args.options.now c.args.far c.args.blocks.now) c.lay.result
    c.in_ok-count.ensures.form c.in_ok-count.ensures.counted c.lay.ensures.cause

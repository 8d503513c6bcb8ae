use Rattle.std.proofs.Common.{[], ◌∙◌}
use Rattle.relinker.proofs.Laying.{within_form, all_laid, link_cause}
use Rattle.relinker.proofs.layout.laid.Goals as goal

pub lay-requires-clause-counted : goal.lay-requires-clause-counted
lay-requires-clause-counted c = (c.args.items.now, c.in_ok-add.ensures.more [] c.new-count.ensures.none)

pub returns-clause-laid : goal.returns-clause-laid
returns-clause-laid c =
    all_laid c.add.new.self c.args.far c.args.base c.args.items.now c.lay.result (c.in_ok-add.ensures.form ∙ c.new-count.ensures.form) (c.in_ok-add.ensures.more [] c.new-count.ensures.none)
    c.requires.linkable c.lay.ensures.limit c.lay.ensures.laid

pub returns-clause-limit : goal.returns-clause-limit
returns-clause-limit c =
    within_form c.add.new.self c.args.far c.args.items.now c.lay.result (c.in_ok-add.ensures.form ∙ c.new-count.ensures.form) (c.in_ok-add.ensures.more [] c.new-count.ensures.none) c.lay.ensures.limit

pub returns-clause-cause : goal.returns-clause-cause
returns-clause-cause c =
    link_cause c.add.new.self c.args.far c.args.items.now c.lay.result (c.in_ok-add.ensures.form ∙ c.new-count.ensures.form) (c.in_ok-add.ensures.more [] c.new-count.ensures.none) c.lay.ensures.cause

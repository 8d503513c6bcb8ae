use Rattle.campaign.proofs.Preparing.{has_words, never_error}
use Rattle.campaign.proofs.course.Course.prepare.Goals as goal

pub invariant_of-result : goal.invariant_of-result
invariant_of-result c =
    let made = c.in_ok-made.ensures.done in
    record { bounds = c.in_ok-runs.ensures.bounds; words = has_words made.woven.file.file c.args.options.now made.woven.file.blocks c.in_ok-made.made.plan made.told }

pub returns-clause-exact : goal.returns-clause-exact
returns-clause-exact c = λ e known cause. absurd (never_error c.in_ok-made.made e (c.in_ok-made.ensures.exact e known cause))

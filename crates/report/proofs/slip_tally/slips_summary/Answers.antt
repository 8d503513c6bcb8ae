use Rattle.std.proofs.Common.{ap, ◌∙◌}
use Rattle.std.proofs.lemmas.Result.{IfOk-weaker}
use Rattle.report.specs.SlipTally.{slip_tally_of}
use Rattle.report.proofs.SlipTallies.{slips_summary_is}
use Rattle.report.proofs.slip_tally.slips_summary.Goals as goal

pub returns : goal.returns
returns c =
    IfOk-weaker c.format.result _ _
    (λ s printed. printed ∙ slips_summary_is c.args.results c.args.found.now c.args.plan.now c.of-tally.result (c.of-tally.ensures ∙ ap (slip_tally_of c.args.found.now) c.asked_right.ensures)) c.format.ensures.ok

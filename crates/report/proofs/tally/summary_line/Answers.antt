use Rattle.std.proofs.Common.{ap, ◌∙◌}
use Rattle.std.specs.Option.{option_copied}
use Rattle.std.proofs.lemmas.Result.{IfOk-weaker}
use Rattle.report.specs.Tally.{tally_of}
use Rattle.report.proofs.Tallies.{summary_is}
use Rattle.report.proofs.tally.summary_line.Goals as goal

pub returns : goal.returns
returns c =
    IfOk-weaker c.format.result _ _
    (λ s printed. printed ∙ summary_is c.args.strikes.now (option_copied c.args.rights) c.args.plan.now c.of-tally.result (c.of-tally.ensures ∙ ap (tally_of c.args.strikes.now) c.right_count.ensures)) c.format.ensures.ok

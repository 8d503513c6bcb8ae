use Rattle.std.proofs.Common.{◌≡◌, ap, ◌∙◌, false}
use Rattle.std.proofs.lemmas.Result.{IfOk-weaker}
use Rattle.serde_json.specs.View.{view}
use Rattle.serde_json.specs.Written.{compact_text, has_float}
use Rattle.report.proofs.PlanNumbers.{plan_whole}
use Rattle.report.proofs.plan.plan_json.Goals as goal

pub returns : goal.returns
returns c =
    let same = c.in_ok-plan_value.ensures in
    let whole : has_float (view c.in_ok-plan_value.field-0) ≡ false = ap has_float same ∙ plan_whole c.args.plan.now in
    IfOk-weaker c.to_string.result _ _ (λ s h. h whole ∙ ap compact_text same) c.to_string.ensures.text

-- A test and its output, made ready to be struck.
use Rattle.std.specs.Prelude.{◌≡◌, refl}
use Rattle.std.specs.Coded.{Coded, code_by, coded×}
use Rattle.qed_model.specs.contracts.plan.Plan as plan_contract
use Rattle.campaign.specs.Draw.{HasWords, Plan}
use Rattle.campaign.specs.Kept.{Pair, pair_code}

-- the output's plan, and both runs
pub record Prepared : Type 0 where
  pub plan : Plan
  pub runs : Pair

abbrev pub prepared_code : Coded Prepared
prepared_code = code_by (Plan × Pair) (coded× (plan_contract.the_row).coded pair_code)
    (λ p. (p.plan, p.runs)) (λ p. record { plan = p.0; runs = p.1 }) (λ _. refl)

-- the runs are struck with the plan's bounds, and its data words can be struck
pub record IsPrepared (plan : Plan) (runs : Pair) : Type 0 where
  pub bounds : runs.bounds ≡ plan.bounds
  pub words : HasWords plan

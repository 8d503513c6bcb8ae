-- What a slip shows.
use Rattle.std.proofs.Common.{◌≡◌, ℕ, ◌<◌, Bool, List, get_or, Option, refl, sym, ap, ◌∙◌, subst}
use Rattle.std.specs.Prelude.{Some, None}
use Rattle.machine.specs.declared.outcome.Outcome.TheVariants.{Going, Ended, Fired, Trapped}
use Rattle.machine.specs.Progress.{Progress}
use Rattle.rv_step.specs.Slipped.{slipped, slipped_step}
use Rattle.rv_step.specs.declared.slip.Slip.{Slip}
use Rattle.qed_model.specs.Promise.Kept.{is_trapped}
use Rattle.qed_model.specs.Promise.OwnSteps.{has_ended}
use Rattle.campaign.specs.Found.{StopsWithin, TellsStop, State, run}
use Rattle.qed_model.specs.declared.aim.Draws.{Draws}
use Rattle.fault_inject.specs.declared.slips.SlipFound.{SlipFound}
use Rattle.fault_inject.proofs.Tracing.{each_at}
use Rattle.campaign.specs.declared.slips.DrawnSlip.{DrawnSlip}
use Rattle.campaign.specs.Draw.{Plan, each}
use Rattle.campaign.specs.Slips.{numbered_slip, IsSlip, ShowsSlip, StandsEnded, has_fired, stop_verdict}
use Rattle.campaign.specs.Verdict.{Outcome}

pub slipped_state : (way : Slip) (p q : Progress) → q ≡ slipped way p → q.state ≡ slipped_step way p.state
unfolding slipped
slipped_state way p q e = ap (λ r. r.state) e

-- without an answer the run goes on
pub none_goes : (t after : State) (b : ℕ) (r : Option ℕ) → ((k : ℕ) → r ≡ Some k → ⊥) → TellsStop t b after r → (run t b).outcome ≡ Going
none_goes t after b None n x = x
none_goes t after b (Some k) n x = absurd (n k refl)

-- the verdict of a run that stops
pub stop_shown : (s after : State) (way : Slip) (b k : ℕ) → s.outcome ≡ Going → StopsWithin (slipped_step way s) b after k → ShowsSlip s way b (stop_verdict after.outcome k)
stop_shown s after way b k going w = by_outcome after.outcome refl where
  by_outcome : (o : Outcome) → after.outcome ≡ o → ShowsSlip s way b (stop_verdict o k)
  by_outcome Fired e = (going, record { within = w.within; stops = w.stops; shows = ap (λ t. has_fired t.outcome) (sym w.there) ∙ ap has_fired e })
  by_outcome Ended e = (going, record { within = w.within; stops = w.stops; shows = ap (λ t. has_ended t.outcome) (sym w.there) ∙ ap has_ended e })
  by_outcome (Trapped cause pc) e = (going, record { within = w.within; stops = w.stops; shows = ap (λ t. is_trapped t.outcome) (sym w.there) ∙ ap is_trapped e })
  by_outcome Going e = absurd (w.stops.stopped (ap (λ t. t.outcome) (sym w.there) ∙ e))

pub stop_stands : (t after : State) (o : Outcome) (b k : ℕ) → StopsWithin t b after k → StandsEnded (run t) after (stop_verdict o k)
stop_stands t after Ended b k w = w.there
stop_stands t after Going b k w = tt
stop_stands t after Fired b k w = tt
stop_stands t after (Trapped cause pc) b k w = tt

-- ---- the slips of a seed
-- what is found of the slip of number k
abbrev pub IsDrawn : Plan → State → State → ℕ → Draws → Bool → ℕ → SlipFound → Type 0
IsDrawn plan input output reach d results k f = IsSlip plan input (run output (numbered_slip reach d k).step) results (numbered_slip reach d k) f

-- it is found of the slip with that number
pub is_drawn :
    (plan : Plan) (input output : State) (reach : ℕ) (d : Draws) (results : Bool) (slips : List DrawnSlip) (k : ℕ) (w : DrawnSlip) (f : SlipFound)
    → slips ≡ each d.count (numbered_slip reach d) → k < d.count → w ≡ get_or slips k w → IsSlip plan input (run output w.step) results w f
    → IsDrawn plan input output reach d results k f
is_drawn plan input output reach d results slips k w f e less at is =
    let same = at ∙ ap (λ xs. get_or xs k w) e ∙ each_at d.count (numbered_slip reach d) k w less in
    subst (λ v. IsSlip plan input (run output v.step) results v f) same is

-- Slips that are drawn at random, each by three random words, and what each shows.
use Rattle.std.specs.Prelude.{◌≡◌, ◌≢◌, ℕ, ◌+◌, ◌*◌, ◌%◌, ◌^◌, ◌≤◌, ◌==◌, ◌&&◌, nat_lt, max, Bool, true, false, if◌then◌else◌}
use Rattle.std.specs.Prelude.{List, map, length, slice_get, Option, Some, None, IfSome, unwrap_or}
use Rattle.rand_pcg.specs.Lcg.{Lcg}
use Rattle.rv_isa.specs.declared.class.Class.{Class}
use Rattle.rv_isa.specs.declared.class.Class.TheVariants as class
use Rattle.qed_model.specs.declared.aim.Aim.{Aim}
use Rattle.qed_model.specs.declared.aim.Draws.{Draws}
use Rattle.qed_model.specs.declared.bounds.Bounds.{Bounds}
use Rattle.machine.specs.declared.outcome.Outcome.{Outcome}
use Rattle.machine.specs.declared.outcome.Outcome.TheVariants as outcome
use Rattle.machine.specs.Step.{State, Ins, class_of, place, run}
use Rattle.tests.specs.Admission.Terms.{is_in_any}
use Rattle.qed_model.specs.Promise.Kept.{is_trapped}
use Rattle.qed_model.specs.Promise.OwnSteps.{has_ended}
use Rattle.rv_step.specs.Known.{known_at}
use Rattle.rv_step.specs.Slipped.{is_store, slipped_step, writes}
use Rattle.rv_step.specs.declared.slip.Slip.{Slip}
use Rattle.rv_step.specs.declared.slip.Slip.TheVariants.{Skip, Result, Branch, Store, Place}
use Rattle.rv_step.specs.declared.slip.SlipAt.{SlipAt}
use Rattle.fault_inject.specs.declared.slips.SlipFound.{SlipFound}
use Rattle.fault_inject.specs.declared.slips.SlipVerdict.{SlipVerdict}
use Rattle.fault_inject.specs.declared.slips.SlipVerdict.TheVariants as verdict
use Rattle.campaign.specs.declared.slips.DrawnSlip.{DrawnSlip}
use Rattle.campaign.specs.Draw.{Plan, after, drawn, next_state, range_of, seeded, window, word_address}
use Rattle.campaign.specs.Prepared.{Prepared}
use Rattle.campaign.specs.Right.{same_values}
use Rattle.campaign.specs.Verdict.{StopsAfter}

-- ---- what is drawn
-- the step, the way and the value that the next three words give
unfoldable pub drawn_slip : ℕ → Aim → Lcg → DrawnSlip
drawn_slip reach aim g = record { step = aim.from + drawn g % window aim reach; way = drawn (next_state g); value = drawn (next_state (next_state g)) }

-- slip number k of a seed, from 0
abbrev pub numbered_slip : ℕ → Draws → ℕ → DrawnSlip
numbered_slip reach d k = drawn_slip reach d.aim (after (3 * k) (seeded d.seed))

-- the address of a data word by any number, in the half of the right address
unfoldable pub other_place : Plan → ℕ → ℕ → ℕ
other_place plan right v =
    (word_address (map range_of plan.span) (v % max 1 plan.words) + (if is_in_any (map range_of plan.span) right then 0 else plan.distance)) % 2 ^ 64

-- whether the instruction writes a register other than x0
abbrev pub gives_result : Ins → Bool
gives_result i = writes (class_of i.kind) && nat_lt 0 i.rd

-- how an instruction of a class goes wrong by the words q and v. A branch is skipped or goes the other way. A store is
-- skipped, or has another number or address. Any other is skipped or gives another result
abbrev pub branch_way : ℕ → Slip
branch_way q = if q % 2 == 0 then Skip else Branch

unfoldable pub store_way : Plan → ℕ → ℕ → ℕ → Slip
store_way plan right q v = if q % 3 == 0 then Skip else if q % 3 == 1 then Store v else Place (other_place plan right v)

abbrev pub result_way : Ins → ℕ → ℕ → Slip
result_way i q v = if q % 2 == 0 then Skip else if gives_result i then Result v else Skip

abbrev pub way_of : Plan → State → Ins → ℕ → ℕ → Class → Slip
way_of plan s i q v class.Branch = branch_way q
way_of plan s i q v class.Store = store_way plan (place i s) q v
way_of plan s i q v _ = result_way i q v

-- the way of what stands at the pc; where no instruction stands, nothing is left to skip
unfoldable pub drawn_way : Plan → State → Option Ins → ℕ → ℕ → Slip
drawn_way plan s None q v = Skip
drawn_way plan s (Some i) q v = way_of plan s i q v (class_of i.kind)

-- the slip of the words, in the state at its step
abbrev pub slip_of : Plan → State → DrawnSlip → SlipAt
slip_of plan s d = record { step = d.step; slip = drawn_way plan s (known_at s s.pc) d.way d.value }

-- the bound of a slip of an instruction: of words for a store, if there is one, else of registers
unfoldable pub bound_of_slip : Bounds → Option Ins → ℕ
bound_of_slip bounds None = bounds.register
bound_of_slip bounds (Some i) = if is_store (class_of i.kind) then unwrap_or bounds.word bounds.register else bounds.register

-- ---- what it shows
abbrev pub has_fired : Outcome → Bool
has_fired outcome.Fired = true
has_fired _ = false

-- a run first stops after k steps, at most b, with such an outcome
pub record StopsAs (start : State) (b k : ℕ) (is : Outcome → Bool) : Type 0 where
  pub within : k ≤ b
  pub stops : StopsAfter (run start) k
  pub shows : is (run start k).outcome ≡ true

-- the verdict of a slip of the instruction of a state s, within b steps behind it
abbrev pub ShowsSlip : State → Slip → ℕ → SlipVerdict → Type 0
ShowsSlip s way b verdict.NotReached = s.outcome ≢ outcome.Going
ShowsSlip s way b (verdict.Fired k) = (s.outcome ≡ outcome.Going) × StopsAs (slipped_step way s) b k has_fired
ShowsSlip s way b (verdict.Trapped k) = (s.outcome ≡ outcome.Going) × StopsAs (slipped_step way s) b k is_trapped
ShowsSlip s way b (verdict.Ended k) = (s.outcome ≡ outcome.Going) × StopsAs (slipped_step way s) b k has_ended
ShowsSlip s way b verdict.Going = (s.outcome ≡ outcome.Going) × ((run (slipped_step way s) b).outcome ≡ outcome.Going)

-- the verdict of a run that stopped after k steps
abbrev pub stop_verdict : Outcome → ℕ → SlipVerdict
stop_verdict outcome.Fired k = verdict.Fired k
stop_verdict outcome.Ended k = verdict.Ended k
stop_verdict (outcome.Trapped cause pc) k = verdict.Trapped k
stop_verdict outcome.Going k = verdict.Going

-- if it ended, this is its last state
abbrev pub StandsEnded : (ℕ → State) → State → SlipVerdict → Type 0
StandsEnded states u (verdict.Ended k) = u ≡ states k
StandsEnded states u _ = Unit {0}

-- the input has ended after n steps, with the values of u in x1 to x13 and the data words
unfoldable pub ends_as : State → List (ℕ × ℕ) → ℕ → State → Bool
ends_as input spans n u = has_ended (run input n).outcome && same_values u (run input n) spans

-- whether a run with a slip at a step ended right, by its states behind the slip; false if it did not end
abbrev pub ended_right : State → List (ℕ × ℕ) → ℕ → (ℕ → State) → SlipVerdict → Bool
ended_right input spans step states (verdict.Ended k) = ends_as input spans (step + 1 + k) (states k)
ended_right input spans step states _ = false

-- ---- the slips of a campaign
-- what is found of a slip, of the state s of the output at its step
pub record IsSlip (plan : Plan) (input s : State) (results : Bool) (d : DrawnSlip) (found : SlipFound) : Type 0 where
  pub at : found.at ≡ slip_of plan s d
  pub shows : ShowsSlip s found.at.slip (bound_of_slip plan.bounds (known_at s s.pc)) found.verdict
  pub right : found.right ≡ (if results
      then Some (ended_right input (map range_of plan.span) d.step (run (slipped_step found.at.slip s)) found.verdict) else None)

-- as many as are drawn, each found of that number
pub record AreDrawnSlips (plan : Plan) (input output : State) (reach : ℕ) (d : Draws) (results : Bool) (found : List SlipFound) : Type 0 where
  pub count : length found ≡ d.count
  pub each : (k : ℕ) (f : SlipFound) → slice_get found k ≡ Some f
      → IsSlip plan input (run output (numbered_slip reach d k).step) results (numbered_slip reach d k) f

abbrev pub AreSlips : Prepared → Draws → Bool → List SlipFound → Type 0
AreSlips c d results found = AreDrawnSlips c.plan c.runs.input c.runs.output c.runs.reach d results found

-- ---- on the way
-- what is known of a slip, if anything is
abbrev pub IsKnownSlip : Plan → State → State → Bool → DrawnSlip → Option SlipFound → Type 0
IsKnownSlip plan input output results w known = IfSome known (IsSlip plan input (run output w.step) results w)

-- what is known of some of the slips drawn
abbrev pub AreKnownSlips : Plan → State → State → Bool → List DrawnSlip → List (Option SlipFound) → Type 0
AreKnownSlips plan input output results slips known = (k : ℕ) (w : DrawnSlip) (f : Option SlipFound)
    → slice_get slips k ≡ Some w → slice_get known k ≡ Some f → IsKnownSlip plan input output results w f

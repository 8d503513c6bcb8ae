-- What `campaign` answers.
use Rattle.std.specs.Prelude.{◌≡◌, ℕ, Bool, true, false, List, Option, None, Some, map}
use Rattle.campaign.specs.Course.{IsCourse}
use Rattle.campaign.specs.Prepared.{Prepared}
use Rattle.qed_model.specs.declared.aim.Draws.{Draws}
use Rattle.qed_model.specs.declared.change.Change.{Change}
use Rattle.qed_model.specs.declared.verdict.Struck.{Struck}
use Rattle.tests.specs.Admission.DataRanges.{range_of}
use Rattle.fault_inject.specs.declared.slips.SlipFound.{SlipFound}
use Rattle.qed_words.specs.Text.Campaign.{campaign_text}
use Rattle.qed_words.specs.Text.Slips.{slips_text}
use Rattle.campaign.specs.Draw.{drawn_strikes}
use Rattle.campaign.specs.Kept.{IsReach}
use Rattle.campaign.specs.Right.{rights}
use Rattle.campaign.specs.Slips.{AreSlips}
use Rattle.campaign.specs.Struck.{AreStruck}
use Rattle.qed_top.specs.Answer.{PrintsOnly}
use Rattle.qed_top.specs.Refused.{Makes, MakesDecides, Options}
use Rattle.qed_top.specs.declared.answer.Answer.{Answer}
use Rattle.qed_top.specs.declared.status.Status.{Status}
use Rattle.qed_top.specs.declared.status.Status.TheVariants.{Done, Trapped}

-- the strikes of a course that a seed draws
abbrev pub strikes_of : Prepared → Draws → List (List Change)
strikes_of course draws = drawn_strikes (map range_of course.plan.span) course.runs.reach draws

-- each drawn strike has its verdict, up to the first whose input traps, and the pc of that trap
pub record IsCarriedOut (course : Prepared) (draws : Draws) (struck : List Struck) (trapped : Option ℕ) : Type 0 where
  pub reach : IsReach course.runs.output course.runs.reach
  pub verdicts : AreStruck course.runs (strikes_of course draws) struck trapped

-- the status, by whether the input trapped
abbrev pub campaign_status : Option ℕ → Status
campaign_status None = Done
campaign_status (Some pc) = Trapped

-- whether each strike ended right, if `--results` asks for it
abbrev pub told_rights : Prepared → Bool → List Struck → Option (List Bool)
told_rights course false struck = None
told_rights course true struck = Some (rights course.runs (map range_of course.plan.span) struck)

-- the text about strikes
abbrev pub strikes_text_of : Prepared → Bool → List Struck → Option ℕ → List ℕ
strikes_text_of course results struck trapped = campaign_text struck (told_rights course results struck) course.plan trapped

-- a campaign was carried out, and its text is printed
pub record TellsCampaign (course : Prepared) (draws : Draws) (results : Bool) (answer : Answer) : Type 0 where
  pub struck : List Struck
  pub trapped : Option ℕ
  pub carried_out : IsCarriedOut course draws struck trapped
  pub plain : PrintsOnly (campaign_status trapped) (strikes_text_of course results struck trapped) answer

-- the test was transformed, and its output struck
pub record IsStruck (bytes : List ℕ) (o : Options) (draws : Draws) (results : Bool) (answer : Answer) : Type 0 where
  pub course : Prepared
  pub made : IsCourse bytes o course
  pub tells : TellsCampaign course draws results answer

-- the answer over the bytes of the file, which are within the limit
abbrev pub Campaigns : List ℕ → Options → Draws → Bool → Answer → Type 0
Campaigns bytes o draws results answer = Makes bytes o (IsStruck bytes o draws results answer) answer

-- the status, by the facts of the bytes; for a test that can be transformed it is the campaign's
abbrev pub CampaignDecides : List ℕ → Options → Draws → Status → Type 0
CampaignDecides bytes o draws status =
    MakesDecides bytes o
    ((course : Prepared) (struck : List Struck) (trapped : Option ℕ)
    → IsCourse bytes o course → IsCarriedOut course draws struck trapped → status ≡ campaign_status trapped) status

-- ---- `campaign --only slips`
-- the slips that a seed draws were made, and the text about them is printed
pub record TellsSlips (course : Prepared) (draws : Draws) (results : Bool) (answer : Answer) : Type 0 where
  pub found : List SlipFound
  pub slips : AreSlips course draws results found
  pub plain : PrintsOnly Done (slips_text results found course.plan) answer

-- the test was transformed, and its output slips
pub record HasSlipped (bytes : List ℕ) (o : Options) (draws : Draws) (results : Bool) (answer : Answer) : Type 0 where
  pub course : Prepared
  pub made : IsCourse bytes o course
  pub tells : TellsSlips course draws results answer

-- the answer over the bytes of the file, which are within the limit
abbrev pub SlipCampaigns : List ℕ → Options → Draws → Bool → Answer → Type 0
SlipCampaigns bytes o draws results answer = Makes bytes o (HasSlipped bytes o draws results answer) answer

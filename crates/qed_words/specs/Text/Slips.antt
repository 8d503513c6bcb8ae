-- What is printed about the slips of a campaign. Each line ends with a newline.
use Rattle.std.specs.Prelude.{ℕ, ◌+◌, max, Bool, true, false, cond, List, [], ◌∷◌, ◌++◌, length, codes, Option, Some, None}
use Rattle.std.specs.Fmt.{decimal}
use Rattle.qed_model.specs.declared.plan.Plan.{Plan}
use Rattle.rv_step.specs.declared.slip.Slip.{Slip}
use Rattle.rv_step.specs.declared.slip.Slip.TheVariants.{Skip, Result, Branch, Store, Place}
use Rattle.fault_inject.specs.declared.slips.SlipFound.{SlipFound}
use Rattle.fault_inject.specs.declared.slips.SlipVerdict.{SlipVerdict}
use Rattle.fault_inject.specs.declared.slips.SlipVerdict.TheVariants.{NotReached, Fired, Trapped, Ended, Going}
use Rattle.qed_words.specs.Text.Campaign.{ends_text}
use Rattle.qed_words.specs.Text.Plan.{bounds_text}
use Rattle.texts.specs.Printed.{hex_text}

-- ---- one slip
abbrev pub slip_text : Slip → List ℕ
slip_text Skip = codes "skip"
slip_text (Result x) = codes "result=" ++ hex_text x
slip_text Branch = codes "branch"
slip_text (Store x) = codes "store=" ++ hex_text x
slip_text (Place a) = codes "place=" ++ hex_text a

abbrev pub shown_text : SlipVerdict → List ℕ
shown_text NotReached = codes "not reached"
shown_text (Fired k) = codes "fired " ++ decimal k
shown_text (Trapped k) = codes "trapped " ++ decimal k
shown_text (Ended k) = codes "ended " ++ decimal k
shown_text Going = codes "going"

-- how the output ended, if that is asked for
abbrev pub right_text : SlipVerdict → Option Bool → List ℕ
right_text (Ended k) (Some right) = cond right (codes " right") (codes " wrong")
right_text _ _ = []

-- a slip, its number, and what it shows
abbrev pub slip_line : ℕ → SlipFound → List ℕ
slip_line i s =
    decimal i ++ (codes " step " ++ (decimal s.at.step ++ (codes " " ++ (slip_text s.at.slip ++ (codes " "
    ++ (shown_text s.verdict ++ (right_text s.verdict s.right ++ codes "\n")))))))

-- slips by their numbers, from i on
abbrev pub slip_lines : ℕ → List SlipFound → List ℕ
slip_lines i [] = []
slip_lines i (s ∷ ss) = slip_line i s ++ slip_lines (i + 1) ss

-- ---- all slips
abbrev pub is_fired_slip : SlipVerdict → Bool
is_fired_slip (Fired k) = true
is_fired_slip _ = false

abbrev pub is_trapped_slip : SlipVerdict → Bool
is_trapped_slip (Trapped k) = true
is_trapped_slip _ = false

abbrev pub is_ended_slip : SlipVerdict → Bool
is_ended_slip (Ended k) = true
is_ended_slip _ = false

abbrev pub is_going_slip : SlipVerdict → Bool
is_going_slip Going = true
is_going_slip _ = false

abbrev pub is_unreached_slip : SlipVerdict → Bool
is_unreached_slip NotReached = true
is_unreached_slip _ = false

-- how many slips show a verdict of a kind
abbrev pub how_many_slips : (SlipVerdict → Bool) → List SlipFound → ℕ
how_many_slips is [] = 0
how_many_slips is (s ∷ ss) = cond (is s.verdict) 1 0 + how_many_slips is ss

abbrev pub is_right : Option Bool → Bool
is_right None = false
is_right (Some right) = right

-- how many slips ended right
abbrev pub right_slips : List SlipFound → ℕ
right_slips [] = 0
right_slips (s ∷ ss) = cond (is_right s.right) 1 0 + right_slips ss

-- if that is asked for
abbrev pub asked_right : Bool → List SlipFound → Option ℕ
asked_right false ss = None
asked_right true ss = Some (right_slips ss)

abbrev pub fired_behind : SlipVerdict → ℕ
fired_behind (Fired k) = k
fired_behind _ = 0

-- the greatest number of steps until a check fired; 0 if none did
abbrev pub longest_slip : List SlipFound → ℕ
longest_slip [] = 0
longest_slip (s ∷ ss) = max (fired_behind s.verdict) (longest_slip ss)

-- the last line: how often each verdict came, the longest time until a check fired, and the bounds, in steps
abbrev pub slips_summary : Bool → List SlipFound → Plan → List ℕ
slips_summary results ss plan =
    codes "slips " ++ (decimal (length ss) ++ (codes ", fired " ++ (decimal (how_many_slips is_fired_slip ss)
    ++ (codes ", trapped " ++ (decimal (how_many_slips is_trapped_slip ss) ++ (codes ", ended "
    ++ (ends_text (how_many_slips is_ended_slip ss) (asked_right results ss)
    ++ (codes ", going " ++ (decimal (how_many_slips is_going_slip ss) ++ (codes ", not reached " ++ (decimal (how_many_slips is_unreached_slip ss)
    ++ (codes ", longest " ++ (decimal (longest_slip ss) ++ (codes ", " ++ (bounds_text plan.bounds.register plan.bounds.word ++ codes "\n")))))))))))))))

-- all slips, and the summary
abbrev pub slips_text : Bool → List SlipFound → Plan → List ℕ
slips_text results ss plan = slip_lines 0 ss ++ slips_summary results ss plan

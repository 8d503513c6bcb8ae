-- What is printed about strikes. Each line ends with a newline.
use Rattle.std.specs.Prelude.{ℕ, ◌+◌, ◌-◌, max, Bool, true, false, cond, List, [], ◌∷◌, ◌++◌, length, codes, Option, Some, None, slice_get}
use Rattle.std.specs.Option.{option_map}
use Rattle.std.specs.Fmt.{decimal}
use Rattle.machine.specs.declared.place.Place.{Place}
use Rattle.machine.specs.declared.place.Place.TheVariants.{Reg, Word}
use Rattle.qed_model.specs.declared.change.Change.{Change}
use Rattle.qed_model.specs.declared.plan.Plan.{Plan}
use Rattle.qed_model.specs.declared.verdict.Verdict.{Verdict}
use Rattle.qed_model.specs.declared.verdict.Verdict.TheVariants.{Closed, NotReached, Fired, Ended, Same}
use Rattle.qed_model.specs.declared.verdict.Struck.{Struck}
use Rattle.qed_words.specs.Text.Plan.{bounds_text}
use Rattle.texts.specs.Printed.{hex_text}

-- ---- one strike

abbrev pub change_place_text : Place → List ℕ
change_place_text (Reg r) = codes "x" ++ decimal r
change_place_text (Word a) = hex_text a

-- what is changed when, and its value then
abbrev pub change_text : Change → List ℕ
change_text c = codes " step " ++ (decimal c.step ++ (codes " " ++ (change_place_text c.place ++ (codes "=" ++ hex_text c.value))))

abbrev pub changes_text : List Change → List ℕ
changes_text [] = []
changes_text (c ∷ cs) = change_text c ++ changes_text cs

abbrev pub verdict_text : Verdict → List ℕ
verdict_text Closed = codes "closed"
verdict_text NotReached = codes "not reached"
verdict_text (Fired k) = codes "fired " ++ decimal k
verdict_text (Ended k) = codes "ended " ++ decimal k
verdict_text Same = codes "same"

-- whether strike i ended right, if that is asked for
abbrev pub right_at : Option (List Bool) → ℕ → Option Bool
right_at None i = None
right_at (Some rights) i = slice_get rights i

-- how a test ended, if that is asked for
abbrev pub end_text : Verdict → Option Bool → List ℕ
end_text (Ended k) (Some right) = cond right (codes " right") (codes " wrong")
end_text _ _ = []

-- a strike, its number, and its verdict
abbrev pub strike_line : ℕ → Struck → Option Bool → List ℕ
strike_line i s right = decimal i ++ (changes_text s.changes ++ (codes " " ++ (verdict_text s.verdict ++ (end_text s.verdict right ++ codes "\n"))))

-- strikes by their numbers, from i on
abbrev pub strike_lines : Option (List Bool) → ℕ → List Struck → List ℕ
strike_lines rights i [] = []
strike_lines rights i (s ∷ ss) = strike_line i s (right_at rights i) ++ strike_lines rights (i + 1) ss

-- ---- all strikes

abbrev pub is_fired_verdict : Verdict → Bool
is_fired_verdict (Fired k) = true
is_fired_verdict _ = false

abbrev pub is_ended : Verdict → Bool
is_ended (Ended k) = true
is_ended _ = false

abbrev pub is_same_verdict : Verdict → Bool
is_same_verdict Same = true
is_same_verdict _ = false

abbrev pub is_closed_verdict : Verdict → Bool
is_closed_verdict Closed = true
is_closed_verdict _ = false

abbrev pub is_not_reached : Verdict → Bool
is_not_reached NotReached = true
is_not_reached _ = false

-- how many strikes have a verdict of a kind
abbrev pub how_many : (Verdict → Bool) → List Struck → ℕ
how_many is [] = 0
how_many is (s ∷ ss) = cond (is s.verdict) 1 0 + how_many is ss

-- the steps until a check fired; 0 if none did
abbrev pub fired_steps : Verdict → ℕ
fired_steps (Fired k) = k
fired_steps _ = 0

-- the greatest number of steps until a check fired; 0 if none did
abbrev pub longest : List Struck → ℕ
longest [] = 0
longest (s ∷ ss) = max (fired_steps s.verdict) (longest ss)

-- how many ended right
abbrev pub how_many_right : List Bool → ℕ
how_many_right [] = 0
how_many_right (right ∷ rights) = cond right 1 0 + how_many_right rights

-- how many of n ends were right and wrong, if that is asked for
abbrev pub ends_text : ℕ → Option ℕ → List ℕ
ends_text n None = decimal n
ends_text n (Some right) = decimal n ++ (codes " (" ++ (decimal right ++ (codes " right, " ++ (decimal (n - right) ++ codes " wrong)"))))

-- how often each verdict came
abbrev pub verdicts_text : Option (List Bool) → List Struck → List ℕ
verdicts_text rights ss =
    codes "strikes " ++ (decimal (length ss) ++ (codes ", fired " ++ (decimal (how_many is_fired_verdict ss) ++ (codes ", ended "
    ++ (ends_text (how_many is_ended ss) (option_map how_many_right rights)
    ++ (codes ", same " ++ (decimal (how_many is_same_verdict ss)
    ++ (codes ", closed " ++ (decimal (how_many is_closed_verdict ss) ++ (codes ", not reached " ++ decimal (how_many is_not_reached ss)))))))))))

-- the last line: the verdicts, the longest time until a check fired, and the bounds, in steps
abbrev pub summary_line : Option (List Bool) → List Struck → Plan → List ℕ
summary_line rights ss plan =
    verdicts_text rights ss
    ++ (codes ", longest " ++ (decimal (longest ss) ++ (codes ", " ++ (bounds_text plan.bounds.register plan.bounds.word ++ codes "\n"))))

-- the input's own run trapped: no verdict is possible
abbrev pub trapped_line : ℕ → List ℕ
trapped_line pc = codes "input trapped at " ++ (hex_text pc ++ codes "\n")

-- all strikes, and the summary or the trap that ended them
abbrev pub campaign_text : List Struck → Option (List Bool) → Plan → Option ℕ → List ℕ
campaign_text ss rights plan None = strike_lines rights 0 ss ++ summary_line rights ss plan
campaign_text ss rights plan (Some pc) = strike_lines rights 0 ss ++ trapped_line pc

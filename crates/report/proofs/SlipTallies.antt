-- Tallies, slip by slip.
use Rattle.std.proofs.Common.{◌≡◌, ℕ, ◌+◌, ◌<◌, Bool, cond, max, List, [], ◌∷◌, ◌++◌, length, get_or, take, refl, ap, ◌∙◌, append_assoc, codes, arith}
use Rattle.std.proofs.lemmas.List.{take_more}
use Rattle.std.specs.Prelude.{Option, None}
use Rattle.std.specs.Fmt.{decimal}
use Rattle.qed_model.specs.declared.plan.Plan.{Plan}
use Rattle.fault_inject.specs.declared.slips.SlipFound.{SlipFound}
use Rattle.fault_inject.specs.declared.slips.SlipVerdict.{SlipVerdict}
use Rattle.fault_inject.specs.declared.slips.SlipVerdict.TheVariants.{NotReached, Fired, Trapped, Ended, Going}
use Rattle.rv_step.specs.declared.slip.Slip.TheVariants.{Skip}
use Rattle.qed_words.specs.Text.Slips.{how_many_slips, is_fired_slip, is_trapped_slip, is_ended_slip, is_going_slip, is_unreached_slip, longest_slip, fired_behind, asked_right, slips_summary}
use Rattle.qed_words.specs.Text.Plan.{bounds_text}
use Rattle.report.specs.declared.slip_tally.SlipTally.{SlipTally}
use Rattle.report.specs.SlipTally.{slips_counted, slip_tally_of, slip_tally_text, with_slip}

how_many_more : (is : SlipVerdict → Bool) (ss : List SlipFound) (s : SlipFound) → how_many_slips is (ss ++ s ∷ []) ≡ how_many_slips is ss + cond (is s.verdict) 1 0
how_many_more is [] s = omega arith
how_many_more is (x ∷ ss) s = omega (arith, how_many_more is ss s)

longest_more : (ss : List SlipFound) (s : SlipFound) → longest_slip (ss ++ s ∷ []) ≡ max (longest_slip ss) (fired_behind s.verdict)
longest_more [] s = omega arith
longest_more (x ∷ ss) s = omega (arith, longest_more ss s)

tally_more : (ss : List SlipFound) (s : SlipFound) (right : Option ℕ) → slip_tally_of (ss ++ s ∷ []) right ≡ with_slip (slip_tally_of ss right) s.verdict
tally_more ss s right = λ i. record {
  fired = how_many_more is_fired_slip ss s i;
  trapped = how_many_more is_trapped_slip ss s i;
  ended = record { count = how_many_more is_ended_slip ss s i; right = right };
  going = how_many_more is_going_slip ss s i;
  not_reached = how_many_more is_unreached_slip ss s i;
  longest = longest_more ss s i;
}

-- what a look-up behind the last slip finds
abbrev pub behind_all : SlipFound
behind_all = record { at = record { step = 0; slip = Skip }; verdict = NotReached; right = None }

-- one more slip
pub next_slip :
    (ss : List SlipFound) (right : Option ℕ) (k : ℕ) (s : SlipFound) → k < length ss → slip_tally_of (take (k + 1) ss) right ≡ with_slip (slip_tally_of (take k ss) right) (get_or ss k s).verdict
next_slip ss right k s less = ap (λ ts. slip_tally_of ts right) (take_more ss k s less) ∙ tally_more (take k ss) (get_or ss k s) right

one_verdict :
    (v : SlipVerdict) → cond (is_fired_slip v) 1 0 + cond (is_trapped_slip v) 1 0 + cond (is_ended_slip v) 1 0 + cond (is_going_slip v) 1 0 + cond (is_unreached_slip v) 1 0 ≡ 1
one_verdict NotReached = refl
one_verdict (Fired k) = refl
one_verdict (Trapped k) = refl
one_verdict (Ended k) = refl
one_verdict Going = refl

-- each slip is counted once
pub all_slips : (ss : List SlipFound) (right : Option ℕ) → slips_counted (slip_tally_of ss right) ≡ length ss
all_slips [] right = refl
all_slips (s ∷ ss) right = omega (arith, one_verdict s.verdict, all_slips ss right)

-- the last line, as it is put together
pub slips_summary_is :
    (results : Bool) (ss : List SlipFound) (plan : Plan) (t : SlipTally) → t ≡ slip_tally_of ss (asked_right results ss)
    → codes "slips " ++ (decimal (length ss) ++ (codes ", " ++ (slip_tally_text t ++ (codes ", " ++ (bounds_text plan.bounds.register plan.bounds.word ++ codes "\n"))))) ≡ slips_summary results ss plan
slips_summary_is results ss plan t e =
    ap (λ t. codes "slips " ++ (decimal (length ss) ++ (codes ", " ++ (slip_tally_text t ++ (codes ", " ++ (bounds_text plan.bounds.register plan.bounds.word ++ codes "\n")))))) e ∙ simp append_assoc

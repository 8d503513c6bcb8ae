-- Tallies, strike by strike.
use Rattle.std.proofs.Common.{◌≡◌, ℕ, ◌+◌, ◌<◌, Bool, cond, max, List, [], ◌∷◌, ◌++◌, length, get_or, take, refl, sym, ap, ◌∙◌, append_assoc, codes, arith}
use Rattle.std.proofs.lemmas.List.{take_more}
use Rattle.std.specs.Prelude.{Option}
use Rattle.std.specs.Option.{option_map}
use Rattle.std.specs.Fmt.{decimal}
use Rattle.qed_model.specs.declared.plan.Plan.{Plan}
use Rattle.qed_model.specs.declared.verdict.Verdict.{Verdict}
use Rattle.qed_model.specs.declared.verdict.Verdict.TheVariants.{Closed, NotReached, Fired, Ended, Same}
use Rattle.qed_model.specs.declared.verdict.Struck.{Struck}
use Rattle.qed_words.specs.Text.Campaign.{how_many, is_fired_verdict, is_ended, is_same_verdict, is_closed_verdict, is_not_reached, longest, fired_steps, how_many_right, summary_line}
use Rattle.qed_words.specs.Text.Plan.{bounds_text}
use Rattle.report.specs.declared.tally.Tally.{Tally}
use Rattle.report.specs.Tally.{counted, tally_of, tally_text, with_verdict}

how_many_more : (is : Verdict → Bool) (ss : List Struck) (s : Struck) → how_many is (ss ++ s ∷ []) ≡ how_many is ss + cond (is s.verdict) 1 0
how_many_more is [] s = omega arith
how_many_more is (x ∷ ss) s = omega (arith, how_many_more is ss s)

longest_more : (ss : List Struck) (s : Struck) → longest (ss ++ s ∷ []) ≡ max (longest ss) (fired_steps s.verdict)
longest_more [] s = omega arith
longest_more (x ∷ ss) s = omega (arith, longest_more ss s)

tally_more : (ss : List Struck) (s : Struck) (right : Option ℕ) → tally_of (ss ++ s ∷ []) right ≡ with_verdict (tally_of ss right) s.verdict
tally_more ss s right = λ i. record {
  fired = how_many_more is_fired_verdict ss s i;
  ended = record { count = how_many_more is_ended ss s i; right = right };
  same = how_many_more is_same_verdict ss s i;
  closed = how_many_more is_closed_verdict ss s i;
  not_reached = how_many_more is_not_reached ss s i;
  longest = longest_more ss s i;
}

-- one more strike
pub next_tally :
    (ss : List Struck) (right : Option ℕ) (k : ℕ) (s : Struck) → k < length ss → s ≡ get_or ss k s → tally_of (take (k + 1) ss) right ≡ with_verdict (tally_of (take k ss) right) s.verdict
next_tally ss right k s less is =
    ap (λ ts. tally_of ts right) (take_more ss k s less ∙ ap (λ x. take k ss ++ x ∷ []) (sym is)) ∙ tally_more (take k ss) s right

one_verdict : (v : Verdict) → cond (is_fired_verdict v) 1 0 + cond (is_ended v) 1 0 + cond (is_same_verdict v) 1 0 + cond (is_closed_verdict v) 1 0 + cond (is_not_reached v) 1 0 ≡ 1
one_verdict Closed = refl
one_verdict NotReached = refl
one_verdict (Fired k) = refl
one_verdict (Ended k) = refl
one_verdict Same = refl

-- each strike is counted once
pub all_counted : (ss : List Struck) (right : Option ℕ) → counted (tally_of ss right) ≡ length ss
all_counted [] right = refl
all_counted (s ∷ ss) right = omega (arith, one_verdict s.verdict, all_counted ss right)

-- the last line, as it is put together
pub summary_is :
    (ss : List Struck) (rights : Option (List Bool)) (plan : Plan) (t : Tally) → t ≡ tally_of ss (option_map how_many_right rights)
    → codes "strikes " ++ (decimal (length ss) ++ (codes ", " ++ (tally_text t ++ (codes ", " ++ (bounds_text plan.bounds.register plan.bounds.word ++ codes "\n"))))) ≡ summary_line rights ss plan
summary_is ss rights plan t e =
    ap (λ t. codes "strikes " ++ (decimal (length ss) ++ (codes ", " ++ (tally_text t ++ (codes ", " ++ (bounds_text plan.bounds.register plan.bounds.word ++ codes "\n")))))) e ∙ simp append_assoc

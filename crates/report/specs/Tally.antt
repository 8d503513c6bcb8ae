-- What the last line about strikes says of their verdicts.
use Rattle.std.specs.Prelude.{ℕ, ◌+◌, max, cond, List, ◌++◌, codes, Option}
use Rattle.std.specs.Fmt.{decimal}
use Rattle.qed_model.specs.declared.verdict.Verdict.{Verdict}
use Rattle.qed_model.specs.declared.verdict.Struck.{Struck}
use Rattle.qed_words.specs.Text.Campaign.{how_many, is_fired_verdict, is_ended, is_same_verdict, is_closed_verdict, is_not_reached, longest, fired_steps}
use Rattle.qed_words.specs.Text.Campaign.{ends_text}
use Rattle.report.specs.declared.tally.Tally.{Tally}

-- the verdicts of strikes, with how many ended right
abbrev pub tally_of : List Struck → Option ℕ → Tally
tally_of ss right = record {
  fired = how_many is_fired_verdict ss;
  ended = record { count = how_many is_ended ss; right = right };
  same = how_many is_same_verdict ss;
  closed = how_many is_closed_verdict ss;
  not_reached = how_many is_not_reached ss;
  longest = longest ss;
}

-- a tally with one more verdict
abbrev pub with_verdict : Tally → Verdict → Tally
with_verdict t v = record {
  fired = t.fired + cond (is_fired_verdict v) 1 0;
  ended = record { count = t.ended.count + cond (is_ended v) 1 0; right = t.ended.right };
  same = t.same + cond (is_same_verdict v) 1 0;
  closed = t.closed + cond (is_closed_verdict v) 1 0;
  not_reached = t.not_reached + cond (is_not_reached v) 1 0;
  longest = max t.longest (fired_steps v);
}

-- how many verdicts were counted
abbrev pub counted : Tally → ℕ
counted t = t.fired + t.ended.count + t.same + t.closed + t.not_reached

abbrev pub tally_text : Tally → List ℕ
tally_text t =
    codes "fired " ++ (decimal t.fired ++ (codes ", ended " ++ (ends_text t.ended.count t.ended.right
    ++ (codes ", same " ++ (decimal t.same ++ (codes ", closed " ++ (decimal t.closed
    ++ (codes ", not reached " ++ (decimal t.not_reached ++ (codes ", longest " ++ decimal t.longest))))))))))

-- What the last line about slips says of their verdicts.
use Rattle.std.specs.Prelude.{ℕ, ◌+◌, max, cond, List, ◌++◌, codes, Option}
use Rattle.std.specs.Fmt.{decimal}
use Rattle.fault_inject.specs.declared.slips.SlipFound.{SlipFound}
use Rattle.fault_inject.specs.declared.slips.SlipVerdict.{SlipVerdict}
use Rattle.qed_words.specs.Text.Campaign.{ends_text}
use Rattle.qed_words.specs.Text.Slips.{how_many_slips, is_fired_slip, is_trapped_slip, is_ended_slip, is_going_slip, is_unreached_slip}
use Rattle.qed_words.specs.Text.Slips.{longest_slip, fired_behind}
use Rattle.report.specs.declared.slip_tally.SlipTally.{SlipTally}

-- the verdicts of slips, with how many ended right
abbrev pub slip_tally_of : List SlipFound → Option ℕ → SlipTally
slip_tally_of ss right = record {
  fired = how_many_slips is_fired_slip ss;
  trapped = how_many_slips is_trapped_slip ss;
  ended = record { count = how_many_slips is_ended_slip ss; right = right };
  going = how_many_slips is_going_slip ss;
  not_reached = how_many_slips is_unreached_slip ss;
  longest = longest_slip ss;
}

-- a tally with one more verdict
abbrev pub with_slip : SlipTally → SlipVerdict → SlipTally
with_slip t v = record {
  fired = t.fired + cond (is_fired_slip v) 1 0;
  trapped = t.trapped + cond (is_trapped_slip v) 1 0;
  ended = record { count = t.ended.count + cond (is_ended_slip v) 1 0; right = t.ended.right };
  going = t.going + cond (is_going_slip v) 1 0;
  not_reached = t.not_reached + cond (is_unreached_slip v) 1 0;
  longest = max t.longest (fired_behind v);
}

-- how many verdicts were counted
abbrev pub slips_counted : SlipTally → ℕ
slips_counted t = t.fired + t.trapped + t.ended.count + t.going + t.not_reached

abbrev pub slip_tally_text : SlipTally → List ℕ
slip_tally_text t =
    codes "fired " ++ (decimal t.fired ++ (codes ", trapped " ++ (decimal t.trapped ++ (codes ", ended " ++ (ends_text t.ended.count t.ended.right
    ++ (codes ", going " ++ (decimal t.going ++ (codes ", not reached " ++ (decimal t.not_reached ++ (codes ", longest " ++ decimal t.longest))))))))))

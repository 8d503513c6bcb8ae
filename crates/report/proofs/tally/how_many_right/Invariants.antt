use Rattle.std.proofs.Common.{◌≡◌, ◌+◌, ◌≤◌, drop}
use Rattle.qed_words.specs.Text.Campaign.{how_many_right}
use Rattle.report.proofs.tally.how_many_right.Given as goal

-- the right ends so far and those of the rest are all
abbrev pub invariant-loop-right : goal.invariant-loop-right
invariant-loop-right l = record {
  counted : l.count + how_many_right (drop l.right-index l.rights) ≡ how_many_right l.rights;
  few : l.count ≤ l.right-index;
}

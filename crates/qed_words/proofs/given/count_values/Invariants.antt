use Rattle.std.proofs.Common.{◌≡◌, ◌≤◌, ◌+◌, map, drop, length}
use Rattle.qed_words.specs.Words.{values}
use Rattle.qed_words.specs.Seen.{seen}
use Rattle.qed_words.proofs.given.count_values.Given as goal

-- the values so far and those of the rest are all
abbrev pub invariant-loop-argument : goal.invariant-loop-argument
invariant-loop-argument l = record {
  rest : l.count + length (values l.key (map seen (drop l.argument-index l.arguments))) ≡ length (values l.key (map seen l.arguments));
  few : l.count ≤ l.argument-index;
}

use Rattle.std.proofs.Common.{◌≡◌, ◌≤◌, ◌+◌, map, drop, length}
use Rattle.qed_words.specs.Words.{files}
use Rattle.qed_words.specs.Seen.{seen}
use Rattle.qed_words.proofs.given.count_files.Given as goal

-- the files so far and those of the rest are all
abbrev pub invariant-loop-argument : goal.invariant-loop-argument
invariant-loop-argument l = record {
  rest : l.count + length (files (map seen (drop l.argument-index l.arguments))) ≡ length (files (map seen l.arguments));
  few : l.count ≤ l.argument-index;
}

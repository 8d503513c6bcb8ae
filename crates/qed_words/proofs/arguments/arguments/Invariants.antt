use Rattle.std.proofs.Common.{◌≡◌, ◌≤◌, ◌+◌, ◌-◌, ◌++◌, map, length, false}
use Rattle.qed_words.specs.Words.{texts, arguments}
use Rattle.qed_words.specs.Seen.{seen}
use Rattle.qed_words.proofs.arguments.arguments.Given as goal

-- the arguments so far and those of the rest are all
abbrev pub invariant-loop-rest : goal.invariant-loop-rest
invariant-loop-rest l = record {
  read : map seen l.read.items ++ arguments l.command l.is_value (1 + (length l.words - length l.rest)) (texts l.rest) ≡ arguments l.command false 1 (texts l.words);
  fewer : length l.rest ≤ length l.words;
}

abbrev pub decreases-loop-rest : goal.decreases-loop-rest
decreases-loop-rest l = length l.rest

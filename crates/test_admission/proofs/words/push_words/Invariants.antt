use Rattle.std.proofs.Common.{◌≡◌, ◌++◌, ◌-◌, ◌/◌}
use Rattle.std.specs.Prelude.{All}
use Rattle.test_admission.specs.Stretches.{part_of}
use Rattle.test_admission.specs.Words.{part_words, words_from, pairs_of, IsDecoded}
use Rattle.test_admission.proofs.words.push_words.Given as goal

-- the words so far and the rest of the stretch are all, and each is decoded
abbrev pub invariant-loop-number : goal.invariant-loop-number
invariant-loop-number l = record {
  words : pairs_of l.words.items ++ words_from (part_of l.stretch) l.number (l.stretch.size / 4 - l.number) ≡ pairs_of l.initial.words.items ++ part_words (part_of l.stretch);
  decoded : All IsDecoded l.initial.words.items → All IsDecoded l.words.items;
}

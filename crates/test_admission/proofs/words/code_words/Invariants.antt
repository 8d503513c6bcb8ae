use Rattle.std.proofs.Common.{◌≡◌, ◌++◌, drop, None}
use Rattle.std.specs.Prelude.{All}
use Rattle.test_admission.specs.declared.rules.CodeRule.TheVariants as rule
use Rattle.test_admission.specs.Stretches.{stretch_parts}
use Rattle.test_admission.specs.Faults.{first_among}
use Rattle.test_admission.specs.Words.{words_among, pairs_of, IsDecoded}
use Rattle.test_admission.proofs.words.code_words.Given as goal

-- the words so far and those of the rest are all, each is decoded, and so is each of the rest
abbrev pub invariant-loop-stretch : goal.invariant-loop-stretch
invariant-loop-stretch l = record {
  words : pairs_of l.words.items ++ words_among (stretch_parts (drop l.stretch-index l.code)) ≡ words_among (stretch_parts l.code);
  decoded : All IsDecoded l.words.items;
  known : first_among rule.Unknown (stretch_parts (drop l.stretch-index l.code)) ≡ None;
}

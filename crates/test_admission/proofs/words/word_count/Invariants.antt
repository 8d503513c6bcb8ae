use Rattle.std.proofs.Common.{◌≡◌, ◌+◌, drop}
use Rattle.test_admission.specs.Stretches.{stretch_parts}
use Rattle.test_admission.specs.Words.{word_total}
use Rattle.test_admission.proofs.words.word_count.Given as goal

-- the count so far and that of the rest are that of all
abbrev pub invariant-loop-stretch : goal.invariant-loop-stretch
invariant-loop-stretch l = l.count + word_total (stretch_parts (drop l.stretch-index l.code)) ≡ word_total (stretch_parts l.code)

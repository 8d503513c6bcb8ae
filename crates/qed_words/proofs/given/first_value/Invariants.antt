use Rattle.std.proofs.Common.{◌≡◌, map, drop}
use Rattle.qed_words.specs.Words.{value_of}
use Rattle.qed_words.specs.Seen.{seen}
use Rattle.qed_words.proofs.given.first_value.Given as goal

-- the rest decides
abbrev pub invariant-loop-argument : goal.invariant-loop-argument
invariant-loop-argument l = value_of l.key (map seen (drop l.argument-index l.arguments)) ≡ value_of l.key (map seen l.arguments)

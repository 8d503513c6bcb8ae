use Rattle.std.proofs.Common.{◌≡◌, ◌++◌, drop, map}
use Rattle.qed_words.specs.Words.{files}
use Rattle.qed_words.specs.Seen.{seen}
use Rattle.qed_words.proofs.words.names.Given as goal

-- the names so far and those of the rest are all
abbrev pub invariant-loop-argument : goal.invariant-loop-argument
invariant-loop-argument l = l.names.items ++ files (map seen (drop l.argument-index l.arguments)) ≡ files (map seen l.arguments)

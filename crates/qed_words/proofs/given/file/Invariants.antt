use Rattle.std.proofs.Common.{◌≡◌, map, drop}
use Rattle.qed_words.specs.Words.{file}
use Rattle.qed_words.specs.Seen.{seen}
use Rattle.qed_words.proofs.given.file.Given as goal

-- the rest decides
abbrev pub invariant-loop-argument : goal.invariant-loop-argument
invariant-loop-argument l = file (map seen (drop l.argument-index l.arguments)) l.left ≡ file (map seen l.arguments) l.fn.place

use Rattle.std.proofs.Common.{◌≡◌, [], map, take, drop}
use Rattle.qed_words.specs.Words.{first_wrong}
use Rattle.qed_words.specs.Seen.{seen}
use Rattle.qed_words.proofs.wrong.first_wrong.Given as goal

-- the rest decides
abbrev pub invariant-loop-place : goal.invariant-loop-place
invariant-loop-place l =
    first_wrong l.command (map seen (take l.place l.arguments)) (map seen (drop l.place l.arguments)) ≡ first_wrong l.command [] (map seen l.arguments)

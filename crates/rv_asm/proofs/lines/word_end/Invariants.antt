use Rattle.std.proofs.Common.{◌≡◌, ◌+◌, drop}
use Rattle.rv_asm.specs.Lines.{word_end}
use Rattle.rv_asm.proofs.lines.word_end.Given as goal

-- the word has not ended, and ends in the rest
abbrev pub invariant-loop-place : goal.invariant-loop-place
invariant-loop-place l = l.place + word_end (drop l.place l.text) ≡ word_end l.text

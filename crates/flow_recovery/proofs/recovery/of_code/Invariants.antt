use Rattle.std.proofs.Common.{◌≡◌, ◌++◌, drop}
use Rattle.flow_recovery.specs.Words.{of_code}
use Rattle.flow_recovery.proofs.recovery.of_code.Given as goal

-- the addresses so far, with those of the rest, are all
abbrev pub invariant-loop-word : goal.invariant-loop-word
invariant-loop-word l = l.kept.items ++ of_code l.left (drop l.word-index l.words) ≡ of_code l.named l.words

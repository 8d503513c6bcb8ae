use Rattle.std.proofs.Common.{◌≢◌, ◌<◌, ◌≤◌, ℕ, get_or}
use Rattle.elf_read.proofs.strings.next_zero.Given as goal

-- no zero byte so far
abbrev pub invariant-loop-at : goal.invariant-loop-at
invariant-loop-at l = (k : ℕ) → l.from ≤ k → k < l.at → get_or l.bytes k 0 ≢ 0

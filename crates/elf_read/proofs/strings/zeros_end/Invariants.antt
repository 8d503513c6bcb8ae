use Rattle.std.proofs.Common.{◌≢◌, ◌-◌, ◌<◌, ◌≤◌, ℕ, get_or, length}
use Rattle.elf_read.proofs.strings.zeros_end.Given as goal

-- no zero byte so far, from the last on
abbrev pub invariant-loop-behind : goal.invariant-loop-behind
invariant-loop-behind l = (k : ℕ) → length l.bytes - l.behind ≤ k → k < length l.bytes → get_or l.bytes k 0 ≢ 0

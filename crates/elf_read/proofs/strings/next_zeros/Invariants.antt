use Rattle.std.proofs.Common.{◌≡◌, ◌≢◌, ◌*◌, ◌<◌, ◌≤◌, ℕ, get_or, length}
use Rattle.elf_read.specs.Strings.{AreNextZeros}
use Rattle.elf_read.proofs.strings.next_zeros.Given as goal

-- no zero byte stands between this block and the last place that was found
abbrev pub invariant-loop-block : goal.invariant-loop-block
invariant-loop-block l = record {
  none : (k : ℕ) → 16 * l.block ≤ k → k < l.at → get_or l.bytes k 0 ≢ 0;
  within : l.at ≤ length l.bytes;
  each : AreNextZeros l.bytes l.zeros.items;
  count : length l.zeros.items ≡ l.block;
}

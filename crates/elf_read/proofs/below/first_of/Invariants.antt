use Rattle.std.proofs.Common.{◌<◌, ℕ, false}
use Rattle.elf_read.proofs.below.first_of.Given as goal

abbrev pub invariant-loop-i : goal.invariant-loop-i
invariant-loop-i g l = (k : ℕ) → k < l.i → goal.F-post g l.test k false

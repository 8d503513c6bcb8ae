use Rattle.std.proofs.Common.{◌≡◌, ◌++◌, length}
use Rattle.machine.specs.Numbers.{bytes_of}
use Rattle.output_file.proofs.bytes.bytes_of.Given as goal

-- the bytes so far and those of the rest are those of all
abbrev pub invariant-loop-left : goal.invariant-loop-left
invariant-loop-left l = l.bytes.items ++ bytes_of l.left ≡ bytes_of l.words

abbrev pub decreases-loop-left : goal.decreases-loop-left
decreases-loop-left l = length l.left

use Rattle.std.proofs.Common.{◌≡◌, ◌++◌, drop}
use Rattle.qed_top.proofs.world.listed.Given as goal

-- the numbers so far and those left are all
abbrev pub invariant-loop-hart : goal.invariant-loop-hart
invariant-loop-hart l = l.numbers.items ++ drop l.hart-index l.harts ≡ l.harts

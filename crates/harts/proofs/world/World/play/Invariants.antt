use Rattle.std.proofs.Common.{◌≡◌, ◌%◌, length}
use Rattle.harts.specs.HartSteps.{counted_turns, cycled}
use Rattle.harts.proofs.world.World.play.Given as goal

-- the turns so far were made, and this is the place of the next
abbrev pub invariant-loop : goal.invariant-loop
invariant-loop l = record {
  made : l.self ≡ counted_turns l.fn.self (cycled l.harts l.counter);
  next : l.place ≡ l.counter % length l.harts;
}

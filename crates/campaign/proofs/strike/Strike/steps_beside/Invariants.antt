use Rattle.std.proofs.Common.{◌*◌, ◌≤◌}
use Rattle.campaign.specs.Found.{IsOn, State}
use Rattle.campaign.proofs.strike.Strike.steps_beside.Given as goal

-- this many steps were made, at most up to the copy before
abbrev pub invariant-loop-number : goal.invariant-loop-number
invariant-loop-number l = record {
  on : (s : State) → IsOn s l.from l.initial.machine.state → IsOn s l.made l.machine.state;
  behind : l.here ≤ 4096 * l.number;
  within : l.made ≤ l.self.bound;
}

use Rattle.std.proofs.Common.{◌≡◌, ◌+◌, ◌*◌}
use Rattle.machine.specs.Below.{each}
use Rattle.machine.specs.Progress.{progress}
use Rattle.campaign.specs.Found.{IsOn}
use Rattle.campaign.proofs.snapshots.copies.Given as goal

-- the copies so far, and the machine, which has gone on, at the last of them
abbrev pub invariant-loop-number : goal.invariant-loop-number
invariant-loop-number l = record {
  copies : l.later.items ≡ each l.number (λ i. progress l.initial.machine (4096 * (i + 1)));
  there : l.machine ≡ progress l.initial.machine (4096 * l.number);
  on : IsOn l.initial.machine.state (4096 * l.number) l.machine.state;
}

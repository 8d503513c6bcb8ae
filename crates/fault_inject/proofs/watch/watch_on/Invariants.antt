use Rattle.std.proofs.Common.{◌≡◌, ◌+◌, ◌≤◌}
use Rattle.machine.specs.Progress.{progress}
use Rattle.machine.specs.Sets.{has_address}
use Rattle.fault_inject.specs.Astray.{first_jump}
use Rattle.fault_inject.proofs.Straying.{states}
use Rattle.fault_inject.proofs.watch.watch_on.Given as goal

-- the steps so far were made, no more are reported, and what was found is the first jump astray among them
abbrev pub invariant-loop-made : goal.invariant-loop-made
invariant-loop-made g l = record {
  made : l.machine ≡ progress l.initial.machine l.made;
  astray : l.found ≡ first_jump (has_address l.reached) (states l.initial.machine) l.made;
  told : (goal.Progress-dyn g l.progress.now).told l.progress.now.1 ≤ l.from + l.made;
  all : (goal.Progress-dyn g l.progress.now).all l.progress.now.1 ≡ (goal.Progress-dyn g l.initial.progress.now).all l.initial.progress.now.1;
}

use Rattle.std.proofs.Common.{◌≡◌, ◌≤◌}
use Rattle.machine.specs.Sets.{has_address}
use Rattle.fault_inject.specs.Astray.{first_astray}
use Rattle.fault_inject.proofs.Changing.{Reached}
use Rattle.fault_inject.proofs.watch.run_watched.Given as goal

-- the changes so far were made, by the step of the last, and reported; what was found is the first jump astray so far
abbrev pub invariant-loop-change : goal.invariant-loop-change
invariant-loop-change g l = record {
  made : Reached l.initial.machine l.changes l.change-index l.steps l.machine;
  within : l.steps ≤ l.n;
  told : (goal.Progress-dyn g l.progress.now).told l.progress.now.1 ≡ l.steps;
  all : (goal.Progress-dyn g l.progress.now).all l.progress.now.1 ≡ l.n;
  astray : l.found ≡ first_astray (has_address l.reached) l.initial.machine.state l.changes l.steps;
}

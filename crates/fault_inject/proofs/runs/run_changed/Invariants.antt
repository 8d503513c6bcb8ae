use Rattle.std.proofs.Common.{◌≡◌, ◌≤◌}
use Rattle.fault_inject.proofs.Changing.{Reached}
use Rattle.fault_inject.proofs.runs.run_changed.Given as goal

-- the changes so far were made, by the step of the last of them, and reported
abbrev pub invariant-loop-change : goal.invariant-loop-change
invariant-loop-change g l = record {
  reached : Reached l.initial.machine l.changes l.change-index l.steps l.machine;
  within : l.steps ≤ l.n;
  told : (goal.Progress-dyn g l.progress.now).told l.progress.now.1 ≡ l.steps;
  all : (goal.Progress-dyn g l.progress.now).all l.progress.now.1 ≡ l.n;
}

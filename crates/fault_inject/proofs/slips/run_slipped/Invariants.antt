use Rattle.std.proofs.Common.{◌≡◌, ◌≤◌}
use Rattle.fault_inject.specs.Slipped.{what_slipped}
use Rattle.fault_inject.proofs.Slipping.{Reached}
use Rattle.fault_inject.proofs.slips.run_slipped.Given as goal

-- the changes so far were made, by the step of the last, and reported; it is known what became of the slip so far
abbrev pub invariant-loop-change : goal.invariant-loop-change
invariant-loop-change g l = record {
  made : Reached l.initial.machine l.changes l.slip l.change-index l.steps l.machine;
  within : l.steps ≤ l.n;
  told : (goal.Progress-dyn g l.progress.now).told l.progress.now.1 ≡ l.steps;
  all : (goal.Progress-dyn g l.progress.now).all l.progress.now.1 ≡ l.n;
  what : l.found ≡ what_slipped l.initial.machine.state l.changes l.slip l.steps;
}

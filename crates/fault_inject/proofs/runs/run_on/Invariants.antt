use Rattle.std.proofs.Common.{◌≡◌, ◌+◌, ◌*◌}
use Rattle.machine.specs.Progress.{progress}
use Rattle.fault_inject.proofs.runs.run_on.Given as goal

-- the parts so far were made, and reported
abbrev pub invariant-loop-parts : goal.invariant-loop-parts
invariant-loop-parts g l = record {
  made : l.machine ≡ progress l.initial.machine (16777216 * l.parts);
  told : (goal.Progress-dyn g l.progress.now).told l.progress.now.1 ≡ l.from + 16777216 * l.parts;
  all : (goal.Progress-dyn g l.progress.now).all l.progress.now.1 ≡ (goal.Progress-dyn g l.initial.progress.now).all l.initial.progress.now.1;
}

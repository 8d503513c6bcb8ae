use Rattle.std.proofs.Common.{◌≡◌, ◌≤◌, length}
use Rattle.machine.specs.Step.{run}
use Rattle.campaign.specs.Struck.{AreKnown}
use Rattle.campaign.proofs.runs.Runs.verdicts.Given as goal

-- the verdicts so far, and the output where the last strike began
abbrev pub invariant-loop-i : goal.invariant-loop-i
invariant-loop-i g l = record {
  known : AreKnown l.self l.strikes l.found.items;
  count : length l.found.items ≡ length l.strikes;
  there : l.output.state ≡ run l.self.output l.made;
  within : l.end ≤ length l.strikes;
  told : (goal.Progress-dyn g l.progress.now).told l.progress.now.1 ≤ l.i;
  all : (goal.Progress-dyn g l.progress.now).all l.progress.now.1 ≡ length l.strikes;
}

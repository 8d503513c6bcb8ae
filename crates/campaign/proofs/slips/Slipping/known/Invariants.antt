use Rattle.std.proofs.Common.{◌≡◌, ◌≤◌, length}
use Rattle.machine.specs.Step.{run}
use Rattle.campaign.specs.Slips.{AreKnownSlips}
use Rattle.campaign.proofs.slips.Slipping.known.Given as goal

-- what is known so far, and the output where the last slip was made
abbrev pub invariant-loop-i : goal.invariant-loop-i
invariant-loop-i g l = record {
  known : AreKnownSlips l.self.plan.now l.self.input.now l.self.output.now.start l.self.results l.slips l.known.items;
  count : length l.known.items ≡ length l.slips;
  there : l.output.state ≡ run l.self.output.now.start l.made;
  told : (goal.Progress-dyn g l.progress.now).told l.progress.now.1 ≤ l.i;
  all : (goal.Progress-dyn g l.progress.now).all l.progress.now.1 ≡ length l.slips;
}

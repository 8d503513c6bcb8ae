use Rattle.std.proofs.Common.{◌≡◌, ℕ, length}
use Rattle.std.specs.Prelude.{slice_get, Some}
use Rattle.fault_inject.specs.declared.slips.SlipFound.{SlipFound}
use Rattle.campaign.proofs.Slipping.{IsDrawn}
use Rattle.campaign.proofs.slips.Slipping.slips.Given as goal

-- what is found of the slips so far
abbrev pub invariant-loop-i : goal.invariant-loop-i
invariant-loop-i g l = record {
  count : length l.found.items ≡ l.i;
  so_far : (k : ℕ) (f : SlipFound) → slice_get l.found.items k ≡ Some f → IsDrawn l.self.plan.now l.self.input.now l.self.output.now.start l.self.output.now.reach l.draws l.self.results k f;
}

use Rattle.std.proofs.Common.{◌≡◌, ℕ, ◌<◌, false}
use Rattle.test_admission.specs.Stretches.{part_of}
use Rattle.test_admission.specs.Faults.{faults_at}
use Rattle.test_admission.proofs.faults.first_in.Given as goal

-- none so far
abbrev pub invariant-loop-number : goal.invariant-loop-number
invariant-loop-number l = (j : ℕ) → j < l.number → faults_at l.rule (part_of l.stretch) j ≡ false

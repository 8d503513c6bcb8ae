use Rattle.std.proofs.Common.{◌≡◌, drop}
use Rattle.test_admission.specs.Stretches.{stretch_parts}
use Rattle.test_admission.specs.Faults.{first_among}
use Rattle.test_admission.proofs.faults.first_among.Given as goal

-- the rest decides
abbrev pub invariant-loop-stretch : goal.invariant-loop-stretch
invariant-loop-stretch l = first_among l.rule (stretch_parts (drop l.stretch-index l.code)) ≡ first_among l.rule (stretch_parts l.code)

use Rattle.std.proofs.Common.{◌≡◌, ◌++◌, drop}
use Rattle.std.specs.Prelude.{map}
use Rattle.tests.specs.Admission.DataRanges.{range_of}
use Rattle.tests.specs.Ranges.{spans}
use Rattle.test_admission.proofs.facts.ranges_of.Given as goal

-- the ranges so far and the rest are all
abbrev pub invariant-loop-part : goal.invariant-loop-part
invariant-loop-part l = map range_of l.list.items ++ spans (drop l.part-index l.parts) ≡ spans l.parts

use Rattle.std.proofs.Common.{◌≡◌, ◌++◌, drop}
use Rattle.tests.specs.Ranges.{span, spans}
use Rattle.test_admission.specs.Spans.{glue}
use Rattle.test_admission.proofs.spans.glued_from.Given as goal

-- the ranges so far, and the last one joined with the rest, are all
abbrev pub invariant-loop-next : goal.invariant-loop-next
invariant-loop-next l = spans l.ranges.items ++ glue (span l.last) (spans (drop l.next-index l.rest)) ≡ glue (span l.fn.first) (spans l.rest)

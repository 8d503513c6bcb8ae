use Rattle.std.proofs.Common.{take}
use Rattle.std.specs.List.{list_any}
use Rattle.flow_recovery.specs.Found.{CoversFound}
use Rattle.tests.specs.Admission.Reached.{sum_leads}
use Rattle.flow_recovery.proofs.constants.add_once.Given as goal

-- the sums with the words so far were added
abbrev pub invariant-loop-word : goal.invariant-loop-word
invariant-loop-word l = CoversFound l.code l.initial.found l.found (λ a. list_any (sum_leads l.code.test.now l.known.register l.known.value a) (take l.word-index l.known.near.now))

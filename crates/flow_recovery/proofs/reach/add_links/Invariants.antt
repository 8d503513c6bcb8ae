use Rattle.std.proofs.Common.{take}
use Rattle.std.specs.List.{list_any}
use Rattle.flow_recovery.specs.Sets.{Adds}
use Rattle.tests.specs.Admission.Reached.{links_to}
use Rattle.flow_recovery.proofs.reach.add_links.Given as goal

-- the links of the words so far were added
abbrev pub invariant-loop-word : goal.invariant-loop-word
invariant-loop-word l = Adds l.initial.list.items l.list.items (λ a. list_any (λ c. links_to c a) (take l.word-index l.words))

use Rattle.std.proofs.Common.{take}
use Rattle.std.specs.List.{list_any}
use Rattle.flow_recovery.specs.Sets.{Adds}
use Rattle.tests.specs.Admission.Reached.{is_in_data}
use Rattle.flow_recovery.proofs.stored.add_data.Given as goal

-- the addresses in the segments so far were added
abbrev pub invariant-loop-segment : goal.invariant-loop-segment
invariant-loop-segment l = Adds l.initial.list.items l.list.items (λ a. list_any (is_in_data l.base a) (take l.segment-index l.segments))

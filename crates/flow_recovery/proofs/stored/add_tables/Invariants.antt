use Rattle.std.proofs.Common.{take}
use Rattle.std.specs.List.{list_any}
use Rattle.flow_recovery.specs.Sets.{Gains}
use Rattle.tests.specs.Admission.Reached.{is_by_table}
use Rattle.flow_recovery.proofs.stored.add_tables.Given as goal

-- what the tables in the segments so far lead to was added
abbrev pub invariant-loop-segment : goal.invariant-loop-segment
invariant-loop-segment l = Gains l.initial.set l.set (λ a. list_any (is_by_table l.test l.base a) (take l.segment-index l.test.segments))

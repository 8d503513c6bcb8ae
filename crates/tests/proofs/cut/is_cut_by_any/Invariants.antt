use Rattle.std.proofs.Common.{◌≡◌, drop}
use Rattle.std.specs.List.{list_any}
use Rattle.machine.specs.Loading.{load_segments}
use Rattle.tests.specs.Admission.Terms.{is_cut_by}
use Rattle.tests.proofs.cut.is_cut_by_any.Given as goal

-- the rest decides
abbrev pub invariant-loop-segment : goal.invariant-loop-segment
invariant-loop-segment l = list_any (is_cut_by l.section) (load_segments (drop l.segment-index l.segments)) ≡ list_any (is_cut_by l.section) (load_segments l.segments)

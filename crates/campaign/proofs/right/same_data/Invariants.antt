use Rattle.std.proofs.Common.{◌≡◌, map, drop}
use Rattle.std.specs.List.{list_all}
use Rattle.tests.specs.Admission.DataRanges.{range_of}
use Rattle.campaign.specs.Right.{same_bytes}
use Rattle.campaign.proofs.right.same_data.Given as goal

-- if all ranges agree, so do those of the rest
abbrev pub invariant-loop-range : goal.invariant-loop-range
invariant-loop-range l =
    list_all (same_bytes l.a.state.memory l.b.state.memory) (map range_of (drop l.range-index l.ranges))
    ≡ list_all (same_bytes l.a.state.memory l.b.state.memory) (map range_of l.ranges)

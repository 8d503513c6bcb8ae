use Rattle.std.proofs.Common.{◌≡◌, drop}
use Rattle.machine.specs.Loading.{load_segments}
use Rattle.tests.specs.Ranges.{span}
use Rattle.listing.specs.Homes.{is_held}
use Rattle.listing.proofs.home.first_home.Given as goal

-- the rest decides
abbrev pub invariant-loop-segment : goal.invariant-loop-segment
invariant-loop-segment l = is_held (span l.range) (load_segments (drop l.segment-index l.segments)) ≡ is_held (span l.range) (load_segments l.segments)

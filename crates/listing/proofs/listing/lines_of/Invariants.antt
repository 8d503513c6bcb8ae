use Rattle.std.proofs.Common.{◌≡◌, ◌++◌, drop}
use Rattle.machine.specs.Loading.{load_segments}
use Rattle.tests.specs.Ranges.{spans}
use Rattle.listing.specs.Homes.{image_word}
use Rattle.listing.specs.Listing.{lines}
use Rattle.listing.specs.Addresses.{addresses}
use Rattle.listing.proofs.listing.lines_of.Given as goal

-- the lines so far and those of the rest are all
abbrev pub invariant-loop-range : goal.invariant-loop-range
invariant-loop-range l = l.text.items ++ lines (image_word (load_segments l.segments)) (addresses l.done (spans (drop l.range-index l.ranges))) ≡ lines (image_word (load_segments l.segments)) (addresses 0 (spans l.ranges))

use Rattle.std.proofs.Common.{◌≡◌, ◌+◌, ◌-◌, ◌*◌, ◌++◌}
use Rattle.machine.specs.Loading.{load_segment}
use Rattle.listing.specs.Homes.{segment_word}
use Rattle.listing.specs.Listing.{lines}
use Rattle.listing.specs.Addresses.{addresses_from}
use Rattle.listing.proofs.listing.push_words.Given as goal

-- the lines so far and those of the rest are all
abbrev pub invariant-loop-number : goal.invariant-loop-number
invariant-loop-number l = l.text.items ++ lines (segment_word (load_segment l.segment)) (addresses_from (l.start + 4 * l.number) (l.count - l.number)) ≡ l.initial.text.items ++ lines (segment_word (load_segment l.segment)) (addresses_from l.start l.count)

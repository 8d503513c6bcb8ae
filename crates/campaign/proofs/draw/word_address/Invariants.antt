use Rattle.std.proofs.Common.{◌≡◌, map, drop}
use Rattle.tests.specs.Admission.DataRanges.{range_of, word_address}
use Rattle.campaign.proofs.draw.word_address.Given as goal

-- the word is behind the ranges so far
abbrev pub invariant-loop-range : goal.invariant-loop-range
invariant-loop-range l = word_address (map range_of (drop l.range-index l.ranges)) l.left ≡ word_address (map range_of l.ranges) l.number

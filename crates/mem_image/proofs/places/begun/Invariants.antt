use Rattle.std.proofs.Common.{◌-◌, ◌≡◌, ℕ, ◌<◌, ◌≤◌, length, Some, slice_get}
use Rattle.machine.specs.Program.{LoadSegment}
use Rattle.mem_image.proofs.places.begun.Given as goal

abbrev pub invariant-loop-low : goal.invariant-loop-low
invariant-loop-low l = ((l.low ≤ l.high) × (l.high ≤ length l.pages)) × (((j : ℕ) (s : LoadSegment) → j < l.low → slice_get l.pages j ≡ Some s → s.address ≤ l.address) × ((j : ℕ) (s : LoadSegment) → l.high ≤ j → slice_get l.pages j ≡ Some s → l.address < s.address))

abbrev pub decreases-loop-low : goal.decreases-loop-low
decreases-loop-low l = l.high - l.low

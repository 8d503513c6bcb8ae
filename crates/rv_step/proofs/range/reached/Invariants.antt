use Rattle.std.proofs.Common.{◌≡◌, ℕ, ◌<◌, ◌≤◌, length, take, get_or}
use Rattle.machine.specs.Step.{in_range}
use Rattle.tests.specs.declared.range.Span.{Span}
use Rattle.tests.specs.Ranges.{spans}
use Rattle.rv_step.specs.Reached.{AreRising, BeginBy}
use Rattle.rv_step.proofs.range.reached.Given as goal

-- those so far begin where the rest begin or before, and have the words of the ranges so far
abbrev pub invariant-loop-range : goal.invariant-loop-range
invariant-loop-range l =
    AreRising l.reached.items × (((j : ℕ) (d : Span) → l.range-index ≤ j → j < length l.sorted → BeginBy (get_or l.sorted j d).start l.reached.items) × ((a : ℕ) → in_range a l.reached.items ≡ in_range a (spans (take l.range-index l.sorted))))

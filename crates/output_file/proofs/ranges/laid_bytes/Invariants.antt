use Rattle.std.proofs.Common.{◌≡◌, ◌++◌, drop, map, length}
use Rattle.std.specs.Prelude.{filter}
use Rattle.output_file.specs.Laid.{laid}
use Rattle.output_file.specs.Runs.{has_bytes, placed_bytes}
use Rattle.output_file.proofs.ranges.laid_bytes.Given as goal

-- the bytes so far and those of the rest are those of all
abbrev pub invariant-loop-segment : goal.invariant-loop-segment
invariant-loop-segment l =
    l.bytes.items ++ laid l.start (length l.bytes.items) (map placed_bytes (filter has_bytes (map (λ s. s.now) (drop l.segment-index l.held))))
    ≡ laid l.start 0 (map placed_bytes (filter has_bytes (map (λ s. s.now) l.held)))

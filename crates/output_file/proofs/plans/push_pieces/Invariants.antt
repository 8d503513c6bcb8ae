use Rattle.std.proofs.Common.{◌≡◌, ◌≤◌, ◌++◌, ◌^◌, drop}
use Rattle.output_file.specs.Plans.{rows_of, end_of}
use Rattle.output_file.proofs.plans.push_pieces.Given as goal

-- if the pieces end at 2^63 or below, the rows so far and those of the rest are those of all
abbrev pub invariant-loop-length : goal.invariant-loop-length
invariant-loop-length l =
    end_of l.block.start l.block.lengths ≤ 2 ^ 63
    → (end_of l.first (drop l.length-index l.length-items) ≤ 2 ^ 63) × (l.rows.items ++ rows_of l.block.start l.first (drop l.length-index l.length-items) ≡ l.initial.rows.items ++ rows_of l.block.start l.block.start l.block.lengths)

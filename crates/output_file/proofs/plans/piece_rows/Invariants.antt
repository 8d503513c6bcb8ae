use Rattle.std.proofs.Common.{◌≡◌, ◌++◌, drop, map}
use Rattle.std.specs.Prelude.{All}
use Rattle.qed_model.specs.Weave.OutputFile.{piece_rows}
use Rattle.block_split.specs.Listed.{block_of}
use Rattle.output_file.specs.Plans.{IsWhole}
use Rattle.output_file.proofs.plans.piece_rows.Given as goal

-- the rows so far and those of the rest are those of all
abbrev pub invariant-loop-block : goal.invariant-loop-block
invariant-loop-block l = All IsWhole l.blocks → l.rows.items ++ piece_rows (map block_of (drop l.block-index l.blocks)) ≡ piece_rows (map block_of l.blocks)

use Rattle.std.proofs.Common.{◌≡◌, drop, map}
use Rattle.qed_model.specs.Weave.OutputFile.{has_table}
use Rattle.block_split.specs.Listed.{block_of}
use Rattle.output_file.proofs.table.has_table.Given as goal

-- the rest decides
abbrev pub invariant-loop-block : goal.invariant-loop-block
invariant-loop-block l = has_table (map block_of (drop l.block-index l.blocks)) ≡ has_table (map block_of l.blocks)

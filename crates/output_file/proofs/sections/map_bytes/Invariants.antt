use Rattle.std.proofs.Common.{◌≡◌, ◌++◌, drop}
use Rattle.qed_model.specs.Weave.OutputParts.{map_bytes}
use Rattle.output_file.proofs.sections.map_bytes.Given as goal

-- the bytes so far and those of the rest are those of all
abbrev pub invariant-loop-row : goal.invariant-loop-row
invariant-loop-row l = l.bytes.items ++ map_bytes (drop l.row-index l.entries) ≡ map_bytes l.entries

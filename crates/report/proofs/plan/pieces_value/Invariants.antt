use Rattle.std.proofs.Common.{◌≡◌, map, take}
use Rattle.serde_json.specs.View.{view}
use Rattle.report.specs.Plan.{piece_data}
use Rattle.report.proofs.plan.pieces_value.Given as goal

-- the rows so far
abbrev pub invariant-loop-row : goal.invariant-loop-row
invariant-loop-row l = map view l.pieces.items ≡ map piece_data (take l.row-index l.rows)

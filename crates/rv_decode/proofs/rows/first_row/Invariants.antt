-- The rows before this one do not fit the word.
use Rattle.std.proofs.Common.{◌≡◌, drop}
use Rattle.rv_decode.specs.Rows.{first_fit}
use Rattle.rv_decode.proofs.rows.first_row.Given as goal

abbrev pub invariant-loop-row : goal.invariant-loop-row
invariant-loop-row l = first_fit (drop l.row-index l.rows) l.word ≡ first_fit l.rows l.word

-- The rows of the table at the word's place say what the word is; the inverse is a law of the definitions.
use Rattle.std.proofs.Common.{◌∙◌, arith}
use Rattle.rv_decode.specs.Rows.{row_places}
use Rattle.rv_decode.proofs.Fitting.{no_row, some_row}
use Rattle.rv_decode.proofs.Inverse.{decoded_encoded}
use Rattle.rv_decode.proofs.decode.Goals as goal

pub returns-in_err-row-clause-instruction : goal.returns-in_err-row-clause-instruction
unfolding row_places
returns-in_err-row-clause-instruction c = c.from_residual.ensures ∙ no_row c.args.word c.rows_at.result.now c.first_row.result c.rows_at.ensures c.first_row.ensures c.in_err-row.was

pub returns-in_err-row-clause-inverse : goal.returns-in_err-row-clause-inverse
unfolding row_places
returns-in_err-row-clause-inverse c =
    let e = c.from_residual.ensures ∙ no_row c.args.word c.rows_at.result.now c.first_row.result c.rows_at.ensures c.first_row.ensures c.in_err-row.was in
    decoded_encoded c.args.word c.from_residual.result (omega arith) e

pub returns-clause-instruction : goal.returns-clause-instruction
unfolding row_places
returns-clause-instruction c = some_row c.args.word c.rows_at.result.now c.first_row.result c.in_ok-row.row c.ins.result c.rows_at.ensures c.first_row.ensures c.in_ok-row.was c.ins.ensures

pub returns-clause-inverse : goal.returns-clause-inverse
unfolding row_places
returns-clause-inverse c =
    let e = some_row c.args.word c.rows_at.result.now c.first_row.result c.in_ok-row.row c.ins.result c.rows_at.ensures c.first_row.ensures c.in_ok-row.was c.ins.ensures in
    decoded_encoded c.args.word _ (omega arith) e

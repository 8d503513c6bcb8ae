use Rattle.std.proofs.Common.{◌≤◌, ◌∙◌, ap, sym, length, arith}
use Rattle.std.specs.Prelude.{map}
use Rattle.std.proofs.lemmas.Bool.{eqb-false}
use Rattle.output_file.specs.Laid.{laid}
use Rattle.output_file.specs.Entries.{entry_word}
use Rattle.output_file.proofs.Tables.{laid_is_table}
use Rattle.output_file.proofs.table.table_bytes.Goals as goal

pub returns : goal.returns
returns c = λ high are.
    let ne = eqb-false (length c.args.entries.now) 0 (sym c.if-is_empty.ensures) in
    let some : 1 ≤ length c.args.entries.now = omega (arith, ne) in
    c.in_ok-bytes-2.ensures ∙ ap (λ a. laid a 0 (map (entry_word c.args.distance) c.args.entries.now)) c.first_input.ensures ∙ laid_is_table c.args.distance high c.args.entries.now are some

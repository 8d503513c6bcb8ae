use Rattle.std.proofs.Common.{◌≡◌, ◌+◌, ◌*◌, ◌∙◌, arith}
use Rattle.qed_model.specs.Weave.OutputFile.{first_input}
use Rattle.output_file.proofs.Tables.{first_low, table_made}
use Rattle.output_file.proofs.table.table_segment.Goals as goal

pub returns : goal.returns
returns c = λ high are room.
    let low = first_low high c.args.entries.now are in
    let f = c.first_input.ensures in
    let once : c.moved.result ≡ c.first_input.result + c.args.distance = c.moved.ensures (omega (arith, low, f, room)) in
    let twice : c.moved-address.result ≡ c.moved.result + c.args.distance = c.moved-address.ensures (omega (arith, low, f, room, once)) in
    let address : c.moved-address.result ≡ first_input c.args.entries.now + 2 * c.args.distance = omega (arith, f, once, twice) in
    c.whole_segment.ensures ∙ table_made c.args.distance c.moved-address.result c.of.result c.args.entries.now address (c.of.ensures ∙ c.in_ok-bytes.ensures high are)

use Rattle.std.proofs.Common.{◌≡◌, [], ◌+◌, ◌*◌, ◌∙◌, ap, arith}
use Rattle.machine.specs.Numbers.{bytes_of}
use Rattle.qed_model.specs.Weave.OutputFile.{halves}
use Rattle.output_file.proofs.Entered.{image_at, ends_at, top, table_room, file_made}
use Rattle.output_file.proofs.output.bare_file.Goals as goal

pub returns : goal.returns
returns c = λ o e.
    let f = c.args.file.now in
    let t = c.args.test.now in
    let rows = c.args.code.now.entries.now in
    let segments = c.as_slice-image.result.now in
    let high = top f o t rows e in
    let at : c.code_address-address.result ≡ t.base + 3 * t.distance = c.code_address-address.ensures (omega (arith, high)) in
    let both = c.in_ok-segments.ensures (image_at f o t rows e segments c.as_slice-span.result.now c.as_slice-image.ensures c.as_slice-span.ensures) (ends_at f o t rows e segments c.as_slice-image.ensures) ∙ ap (halves t.distance) c.as_slice-image.ensures in
    let table = c.in_ok-table.ensures (t.base + t.distance) e.entries (table_room f o t rows e) in
    let all = c.of.ensures ∙ c.in_ok-push_parts.ensures in
    let sections = c.of-2.ensures ∙ c.in_ok-sections.ensures in
    file_made f o t rows e c.args.code.now.table (bytes_of c.args.code.now.words.now) c.code_address-address.result at c.in_ok-segments.segments.items c.of.result c.in_ok-table.table c.in_ok-segment.segment c.of-2.result c.of-3.result [] both table c.in_ok-segment.ensures all sections (c.of-3.ensures ∙ c.new.ensures.items)

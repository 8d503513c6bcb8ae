use Rattle.std.proofs.Common.{◌≡◌, length, map, sym, ap, ◌∙◌}
use Rattle.std.proofs.Math.ListN.{length-map}
use Rattle.tests.specs.Admission.DataRanges.{range_of, data_ranges, word_count}
use Rattle.tests.specs.Admission.Places.{image_of}
use Rattle.output_file.proofs.Counting.{test_spaced}
use Rattle.transform.proofs.TestFacts.{same_shape}
use Rattle.transform.proofs.code.shape_of.Goals as goal

pub returns : goal.returns
returns c =
    let f = c.args.cut.now.file in
    let rs = c.as_slice-span.result.now in
    let span : map range_of rs ≡ data_ranges (image_of f) = ap (λ l. map range_of l) c.as_slice-span.ensures ∙ c.requires.told.span in
    same_shape f c.args.options.now c.args.far c.word_count.result (length rs)
    (c.word_count.ensures (test_spaced f rs span) ∙ ap word_count span)
    (sym (length-map rs range_of) ∙ ap length span)

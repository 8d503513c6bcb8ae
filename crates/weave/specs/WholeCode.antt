-- The new code of a test.
use Rattle.std.specs.Prelude.{◌≡◌, Bool, List, ◌++◌, map}
use Rattle.tests.specs.declared.range.Range.{Range}
use Rattle.tests.specs.Admission.DataRanges.{range_of, data_ranges}
use Rattle.tests.specs.declared.options.Options.{Options}
use Rattle.tests.specs.Admission.Places.{ElfFile, image_of, half_of}
use Rattle.qed_model.specs.Weave.Sequences.{Block, stub}
use Rattle.qed_model.specs.Weave.Woven.{items_in}
use Rattle.plc_rounds.specs.Spans.{spans_of}
use Rattle.weave.specs.Form.{form_with, items_to_stub}

-- with the data ranges, the distance and the entry of a file, and the stub behind it, the new code is the defined one
abbrev pub ItemsAreWhole : Type 0
ItemsAreWhole =
    (f : ElfFile) (o : Options) (far : Bool) (span : List Range) (blocks : List Block) → map range_of span ≡ data_ranges (image_of f)
    → items_to_stub (half_of o.half (image_of f)) f.entry (form_with (spans_of span) o far) blocks ++ stub ≡ items_in f o far blocks

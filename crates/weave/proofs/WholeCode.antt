-- The new code of a test.
use Rattle.std.proofs.Common.{◌≡◌, List, [], ◌∷◌, ◌++◌, map, refl, ap, ◌∙◌, append_assoc}
use Rattle.tests.specs.declared.range.Range.{Range}
use Rattle.tests.specs.Admission.DataRanges.{range_of}
use Rattle.tests.specs.Admission.Places.{image_of, half_of}
use Rattle.qed_model.specs.Weave.Sequences.{prologue, stub}
use Rattle.qed_model.specs.Weave.Code.{entries_of, sequences}
use Rattle.qed_model.specs.Weave.Forms.{form_of}
use Rattle.plc_rounds.specs.Spans.{spans_of}
use Rattle.weave.specs.Form.{form_with, items_to_stub}
use Rattle.weave.specs.WholeCode.{ItemsAreWhole}

pub spans_are : (rs : List Range) → spans_of rs ≡ map range_of rs
spans_are [] = refl
spans_are (r ∷ rs) = ap (λ l. (r.start, r.end) ∷ l) (spans_are rs)

pub items_are_whole : ItemsAreWhole
items_are_whole f o far span blocks e =
    let d = half_of o.half (image_of f) in
    let form = form_of f o far in
    ap (λ s. items_to_stub d f.entry (form_with s o far) blocks ++ stub) (spans_are span ∙ e)
    ∙ append_assoc (prologue d form.spans f.entry) (entries_of (sequences form) blocks) stub

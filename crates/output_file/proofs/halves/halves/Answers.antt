use Rattle.std.proofs.Common.{◌++◌, ◌∙◌, ap, subst, sym, map}
use Rattle.qed_model.specs.Weave.OutputFile.{shifted}
use Rattle.output_file.specs.Images.{HasRoom}
use Rattle.output_file.proofs.HalfLaws.{half_room}
use Rattle.output_file.proofs.halves.halves.Goals as goal

pub returns : goal.returns
returns c = λ h low.
    let first = c.in_ok-both.ensures h in
    let same = c.deref.ensures.value ∙ first in
    let room : HasRoom c.args.distance c.deref.result.now = subst (HasRoom c.args.distance) (sym same) (half_room c.args.segments.now c.args.ranges.now h c.args.distance low) in
    let second = c.in_ok-second.ensures room ∙ ap (map (shifted c.args.distance)) same in
    c.in_ok-append.ensures.items ∙ (λ i. first i ++ second i)

use Rattle.std.proofs.Common.{◌≡◌, ap, ◌∙◌, sym, subst}
use Rattle.machine.specs.Apart.{AreApart}
use Rattle.machine.specs.Loading.{load_segments}
use Rattle.mem_image.specs.Overlap.{segments_of}
use Rattle.rv_step.proofs.system.Machine.start.Goals as goal

pub of-requires-clause-apart : goal.of-requires-clause-apart
of-requires-clause-apart c =
    let same : segments_of c.deref.result.now ≡ load_segments c.args.file.now.segments = ap segments_of c.deref.ensures.value ∙ c.in_ok-specs.ensures ∙ ap load_segments c.as_slice.ensures in
    subst AreApart (sym same) c.requires.apart

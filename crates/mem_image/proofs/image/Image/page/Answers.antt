use Rattle.std.proofs.Common.{sym, ap, ◌∙◌, subst}
use Rattle.std.specs.FinMap.{get}
use Rattle.mem_image.specs.Overlap.{AreImage}
use Rattle.mem_image.specs.Segments.{IsFirst}
use Rattle.mem_image.proofs.SegmentLaws.{get-memory_of, first_is, cell_among-first}
use Rattle.mem_image.proofs.image.Image.page.Goals as goal

pub returns-in_err-at-clause-none : goal.returns-in_err-at-clause-none
returns-in_err-at-clause-none c =
    let sound : AreImage c.self.inside.pages = subst AreImage c.as_slice.ensures.value c.as_slice.ensures.sound in
    rw c.from_residual.ensures (ap (λ m. get m c.args.address) (sym c.self.view_is) ∙ get-memory_of c.self.inside.pages c.args.address sound.fit ∙ (rw c.as_slice.ensures.value at c.in_err-at.ensures.none))

pub returns-clause-some : goal.returns-clause-some
returns-clause-some c =
    let sound : AreImage c.self.inside.pages = subst AreImage c.as_slice.ensures.value c.as_slice.ensures.sound in
    let first : IsFirst c.self.inside.pages c.args.address c.in_ok-at.at = rw c.as_slice.ensures.value at c.in_ok-at.ensures.some in
    let here = first_is c.self.inside.pages c.args.address c.in_ok-at.at c.index-as_slice-at.result first (rw c.as_slice-2.ensures.value at c.index-as_slice-at.is) in
    record {
      cell = ap (λ m. get m c.args.address) (sym c.self.view_is) ∙ get-memory_of c.self.inside.pages c.args.address sound.fit ∙ cell_among-first c.self.inside.pages c.args.address c.in_ok-at.at c.index-as_slice-at.result here.0 here.1 first.before;
      inside = here.1;
    }

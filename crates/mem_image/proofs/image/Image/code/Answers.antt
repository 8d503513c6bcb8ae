use Rattle.std.proofs.Common.{◌≡◌, List, Some, false, sym, ap, ◌∙◌, subst}
use Rattle.std.specs.Prelude.{slice_get}
use Rattle.machine.specs.Program.{LoadSegment}
use Rattle.mem_image.specs.Fixed.{is_code_flags, has_code}
use Rattle.mem_image.specs.Overlap.{AreImage}
use Rattle.mem_image.specs.Segments.{IsFirst}
use Rattle.mem_image.proofs.FixedLaws.{first_no_code, if_none}
use Rattle.mem_image.proofs.image.Image.code.Goals as goal

pub returns-clause-none : goal.returns-clause-none
returns-clause-none c =
    let sound : AreImage c.self.inside.pages = subst AreImage c.as_slice.ensures.value c.as_slice.ensures.sound in
    let first : IsFirst c.self.inside.pages c.args.address c.in-Some.at = rw c.as_slice.ensures.value at c.in-Some.ensures.some in
    if_none c.in_ok-found.found _ _
    (λ h.
    ap (λ m. has_code m c.args.address) (sym c.self.view_is)
    ∙ first_no_code c.self.inside.pages c.args.address c.in-Some.at sound first (subst (λ (ss : List LoadSegment). (s : LoadSegment) → slice_get ss c.in-Some.at ≡ Some s → is_code_flags s.flags ≡ false) c.as_slice-2.ensures.value h))
    c.in_ok-found.ensures.none

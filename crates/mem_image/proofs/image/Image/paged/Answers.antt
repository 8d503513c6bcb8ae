use Rattle.std.proofs.Common.{◌≡◌, ℕ, subst, ap, ◌∙◌, sym}
use Rattle.std.specs.Prelude.{IfSome}
use Rattle.machine.proofs.Lemmas.{same_memory}
use Rattle.machine.specs.Program.{memory_of}
use Rattle.machine.specs.Cells.{cell_among}
use Rattle.mem_image.specs.Overlap.{segments_of, AreImage}
use Rattle.mem_image.proofs.SegmentLaws.{get-memory_of}
use Rattle.mem_image.proofs.image.Image.paged.Goals as goal

pub returns-clause-made : goal.returns-clause-made
returns-clause-made c =
    let sound : AreImage c.in-Some.pages.items = subst (λ o. IfSome o (λ pages. AreImage pages.items)) c.in-Some.is c.in_ok-pages.ensures.sound in
    let same : (q : ℕ) → cell_among c.in-Some.pages.items q ≡ cell_among (segments_of c.args.specs.now) q = subst (λ o. IfSome o (λ pages. (q : ℕ) → cell_among pages.items q ≡ cell_among (segments_of c.args.specs.now) q)) c.in-Some.is c.in_ok-pages.ensures.same in
    ap memory_of c.of.ensures ∙ same_memory _ _ (λ q. get-memory_of c.in-Some.pages.items q sound.fit ∙ same q ∙ sym (get-memory_of (segments_of c.args.specs.now) q c.requires))

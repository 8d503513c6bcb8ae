use Rattle.std.proofs.Common.{◌∙◌, ap, rules, sym, subst}
use Rattle.std.specs.Prelude.{All}
use Rattle.std.proofs.lemmas.List.Sorted.{IsNonDecreasingBy-from_sort_by_key}
use Rattle.machine.specs.Loading.{load_segments}
use Rattle.test_admission.specs.Stretches.{stretch_parts, ReadsImage, cut, AreCodeOf}
use Rattle.test_admission.proofs.Cutting.{all_held, code_of}
use Rattle.test_admission.proofs.stretches.code_stretches.Goals as goal

pub returns : goal.returns
returns c =
    let same = all_held c.args.file.now c.requires.read c.requires.shaped c.args.ranges.now c.requires.ranges _ c.as_slice.ensures _ c.in_ok-parts.ensures.same in
    let reads = subst (λ ss. All (ReadsImage (load_segments ss)) (stretch_parts c.in_ok-parts.parts.items)) c.as_slice.ensures c.in_ok-parts.ensures.read in
    let up = IsNonDecreasingBy-from_sort_by_key (λ s. s.start) _ c.sort_unstable_by_key.ensures.sorted (λ a r q k. search rules) in
    subst (AreCodeOf c.args.file.now) (sym (c.in_ok-pieces.ensures ∙ ap (λ ss. cut 0 (stretch_parts ss)) c.deref.ensures.value))
    (code_of c.args.file.now c.requires.read c.requires.shaped c.in_ok-parts.parts.items _ same c.sort_unstable_by_key.ensures.permutation reads up)

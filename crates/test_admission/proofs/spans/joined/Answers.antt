use Rattle.std.proofs.Common.{◌∙◌, ap, rules, sym, subst}
use Rattle.std.proofs.lemmas.List.Sorted.{IsNonDecreasingBy-from_sort_by_key}
use Rattle.tests.proofs.Lemmas.{Spaced, are_spaced}
use Rattle.tests.specs.Ranges.{span, spans}
use Rattle.test_admission.specs.Spans.{glued}
use Rattle.test_admission.proofs.Joining.{glued_joined, glued_spaced}
use Rattle.test_admission.proofs.spans.joined.Goals as goal

pub returns-clause-ranges : goal.returns-clause-ranges
returns-clause-ranges c =
    let up = IsNonDecreasingBy-from_sort_by_key (λ s. s.start) _ c.sort_unstable_by_key.ensures.sorted (λ a r q k. search rules) in
    c.in_ok-ranges.ensures ∙ ap (λ ss. glued (spans ss)) c.deref.ensures.value ∙ glued_joined c.args.parts.items _ c.requires c.sort_unstable_by_key.ensures.permutation up

pub returns-clause-spaced : goal.returns-clause-spaced
returns-clause-spaced c =
    let up = IsNonDecreasingBy-from_sort_by_key (λ s. s.start) _ c.sort_unstable_by_key.ensures.sorted (λ a r q k. search rules) in
    are_spaced span 0 c.in_ok-ranges.ranges.items (subst (Spaced 0) (sym (c.in_ok-ranges.ensures ∙ ap (λ ss. glued (spans ss)) c.deref.ensures.value)) (glued_spaced c.args.parts.items _ c.requires c.sort_unstable_by_key.ensures.permutation up))

use Rattle.std.proofs.Common.{◌∙◌, ap, rules, sym, subst}
use Rattle.std.specs.Prelude.{All}
use Rattle.std.proofs.lemmas.List.Sorted.{IsNonDecreasingBy-from_sort_by_key}
use Rattle.machine.specs.Apart.{AreApart}
use Rattle.machine.specs.Loading.{load_segments}
use Rattle.tests.specs.Ranges.{span, spans}
use Rattle.listing.specs.Homes.{IsHeldRange, image_word}
use Rattle.listing.specs.Listing.{lines}
use Rattle.listing.specs.Addresses.{addresses}
use Rattle.listing.proofs.Ranges.{all_held}
use Rattle.listing.proofs.Whole.{is_listing}
use Rattle.listing.proofs.listing.list_text.Goals as goal

pub lines_of-requires-clause-apart : goal.lines_of-requires-clause-apart
lines_of-requires-clause-apart c = subst (λ ss. AreApart (load_segments ss)) (sym c.as_slice.ensures) c.requires.apart

pub lines_of-requires-clause-held : goal.lines_of-requires-clause-held
lines_of-requires-clause-held c =
    subst (λ rs. All (λ r. IsHeldRange (load_segments c.as_slice.result.now) (span r)) rs) (sym c.deref.ensures.value)
    (subst (λ ss. All (λ r. IsHeldRange (load_segments ss) (span r)) c.sort_unstable_by_key.new.self.items) (sym c.as_slice.ensures)
    (all_held c.args.file.now c.in_ok-ranges.ranges.items c.sort_unstable_by_key.new.self.items c.in_ok-ranges.ensures c.sort_unstable_by_key.ensures.permutation))

pub returns : goal.returns
returns c =
    let up = IsNonDecreasingBy-from_sort_by_key (λ r. r.start) _ c.sort_unstable_by_key.ensures.sorted (λ a r q k. search rules) in
    is_listing c.args.file.now c.in_ok-ranges.ranges.items c.sort_unstable_by_key.new.self.items c.in_ok-ranges.ensures c.sort_unstable_by_key.ensures.permutation up c.of.result
    (c.of.ensures
    ∙ c.in_ok-text.ensures
    ∙ ap (λ ss. lines (image_word (load_segments ss)) (addresses 0 (spans c.deref.result.now))) c.as_slice.ensures
    ∙ ap (λ rs. lines (image_word (load_segments c.args.file.now.segments)) (addresses 0 (spans rs))) c.deref.ensures.value)

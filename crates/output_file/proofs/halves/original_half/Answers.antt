use Rattle.std.proofs.Common.{◌++◌, ◌∙◌, subst, rules, map}
use Rattle.std.specs.List.Sorted.{IsPermutation}
use Rattle.std.proofs.lemmas.List.Sorted.{IsNonDecreasingBy-from_sort_by_key}
use Rattle.tests.specs.Admission.DataRanges.{range_of}
use Rattle.output_file.specs.Runs.{run_segment}
use Rattle.output_file.proofs.Images.{ranges_spaced}
use Rattle.output_file.proofs.Orders.{non_decreasing-map}
use Rattle.output_file.proofs.HalfLaws.{half_is}
use Rattle.output_file.proofs.halves.original_half.Goals as goal

pub returns : goal.returns
returns c = λ h.
    let up = non_decreasing-map (λ s. s.now) c.in_ok-sorted.sorted.items c.in_ok-sorted.ensures.ascend in
    let sorted = IsNonDecreasingBy-from_sort_by_key (λ s. s.address) _ c.sort_unstable_by_key.ensures.sorted (λ a r q k. search rules) in
    let others = c.in_ok-half.ensures (ranges_spaced c.args.segments.now c.args.ranges.now h) in
    let made = c.in_ok-push_ranges.ensures ∙ (λ i. others i ++ map (run_segment (map (λ s. s.now) (c.deref.ensures.value i))) (map range_of c.args.ranges.now)) in
    half_is c.args.segments.now c.args.ranges.now h (map (λ s. s.now) c.in_ok-sorted.sorted.items) c.sort_unstable_by_key.new.self.items c.in_ok-sorted.ensures.same up
    (subst (λ xs. IsPermutation xs c.sort_unstable_by_key.new.self.items) made c.sort_unstable_by_key.ensures.permutation) sorted

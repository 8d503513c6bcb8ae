use Rattle.std.proofs.Common.{rules, subst, map}
use Rattle.std.specs.List.Sorted.{IsPermutation}
use Rattle.std.proofs.lemmas.List.Sorted.{IsPermutation-map, IsNonDecreasingBy-from_sort_by_key}
use Rattle.output_file.proofs.ranges.by_address.Goals as goal

pub returns-clause-same : goal.returns-clause-same
returns-clause-same c = subst (λ xs. IsPermutation xs (map (λ s. s.now) c.sort_unstable_by_key.new.self.items)) c.in_ok-sorted.ensures (IsPermutation-map (λ s. s.now) _ _ c.sort_unstable_by_key.ensures.permutation)

pub returns-clause-ascend : goal.returns-clause-ascend
returns-clause-ascend c = IsNonDecreasingBy-from_sort_by_key (λ s. s.now.address) _ c.sort_unstable_by_key.ensures.sorted (λ a r q k. search rules)

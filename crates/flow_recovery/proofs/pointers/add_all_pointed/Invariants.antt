use Rattle.std.proofs.Common.{◌≡◌, take}
use Rattle.std.specs.List.{list_any}
use Rattle.flow_recovery.specs.Found.{CoversFound, sums_lead_on}
use Rattle.flow_recovery.proofs.pointers.add_all_pointed.Given as goal

-- the sums of the values so far were added
abbrev pub invariant-loop-value : goal.invariant-loop-value
invariant-loop-value l = record {
  same : l.found.pointers ≡ l.initial.found.pointers;
  covers : CoversFound l.code l.initial.found l.found (λ a. list_any (sums_lead_on l.code.test.now l.offsets a) (take l.value-index l.values));
}

use Rattle.std.proofs.Common.{◌≡◌, take}
use Rattle.std.specs.List.{list_any}
use Rattle.flow_recovery.specs.Found.{CoversFound, sum_leads_on}
use Rattle.flow_recovery.proofs.pointers.add_pointed.Given as goal

-- the sums so far were added
abbrev pub invariant-loop-offset : goal.invariant-loop-offset
invariant-loop-offset l = record {
  same : l.found.pointers ≡ l.initial.found.pointers;
  covers : CoversFound l.code l.initial.found l.found (λ a. list_any (sum_leads_on l.code.test.now a l.value) (take l.offset-index l.offsets));
}

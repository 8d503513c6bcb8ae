use Rattle.std.proofs.Common.{◌∙◌}
use Rattle.flow_recovery.specs.Found.{sums_lead_on}
use Rattle.flow_recovery.proofs.FoundLaws.{covers_next}
use Rattle.flow_recovery.proofs.pointers.add_all_pointed.Goals as goal

pub loop-value-preserved : goal.loop-value-preserved
loop-value-preserved c = record {
  same = c.in_ok-add_pointed.ensures.same ∙ c.loop-value.invariant.same;
  covers = covers_next c.args.code.now (λ v a. sums_lead_on c.args.code.now.test.now c.args.offsets.now a v) c.args.values.now _ _ _ _ _
      c.loop-value-test.true c.loop-value.invariant.covers c.in_ok-add_pointed.ensures.covers;
}

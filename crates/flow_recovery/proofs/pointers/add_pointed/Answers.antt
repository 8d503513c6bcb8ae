use Rattle.std.proofs.Common.{◌∙◌}
use Rattle.tests.specs.Admission.Reached.{leads}
use Rattle.flow_recovery.specs.Found.{sum_leads_on}
use Rattle.flow_recovery.proofs.FoundLaws.{covers_next, covers_all}
use Rattle.flow_recovery.proofs.pointers.add_pointed.Goals as goal

pub loop-offset-preserved : goal.loop-offset-preserved
loop-offset-preserved c = record {
  same = c.in_ok-add_constant-2.ensures.same ∙ c.loop-offset.invariant.same;
  covers = covers_next c.args.code.now (λ m a. sum_leads_on c.args.code.now.test.now a c.args.value m) c.args.offsets.now _ _ _ _ _
      c.loop-offset-test.true c.loop-offset.invariant.covers c.in_ok-add_constant-2.ensures.covers;
}

pub returns-clause-covers : goal.returns-clause-covers
returns-clause-covers c =
    covers_all c.args.code.now (λ m a. sum_leads_on c.args.code.now.test.now a c.args.value m) (leads c.args.code.now.test.now c.args.value) c.args.offsets.now _ _ _ _
    c.loop-offset-test.false c.in_ok-add_constant.ensures.covers c.loop-offset.invariant.covers

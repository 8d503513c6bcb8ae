use Rattle.std.proofs.Common.{length, refl, ◌∙◌, subst, arith, rules}
use Rattle.std.specs.Prelude.{Some}
use Rattle.std.proofs.lemmas.List.{length-set}
use Rattle.std.proofs.lemmas.Option.{slice_get_read}
use Rattle.std.specs.Slice.{IsItemAt}
use Rattle.campaign.specs.Slips.{IsKnownSlip, IsSlip}
use Rattle.campaign.proofs.Making.{none_known, known_more}
use Rattle.campaign.proofs.slips.Slipping.known.Goals as goal

pub loop-i-init : goal.loop-i-init
loop-i-init g c = record {
  known = none_known (IsKnownSlip c.args.self.now.plan.now c.args.self.now.input.now c.args.self.now.output.now.start c.args.self.now.results) c.args.slips.now (length c.args.slips.now) c.in_ok-known.known.items (λ w. tt)
      (c.in_ok-known.ensures.items_if_clones_equal (λ y h. search rules));
  count = search rules;
  there = c.in_ok-output.ensures;
  told = let told = c.begin.ensures.0 in omega (arith, told);
  all = c.begin.ensures.1;
}

pub loop-i-preserved : goal.loop-i-preserved
loop-i-preserved g c =
    let k = c.index.result.now.1 in
    let w = c.in-Some.slip.now in
    let item : IsItemAt c.args.slips.now k (Some c.in-Some.slip) = rw c.in-Some.is at c.get.ensures.lookup in
    let count = c.loop-i.invariant.count in
    let below = item.3.0 in
    let here = slice_get_read c.args.slips.now (length c.args.slips.now) k w refl below item.1 in
    record {
      known = known_more (IsKnownSlip c.args.self.now.plan.now c.args.self.now.input.now c.args.self.now.output.now.start c.args.self.now.results) c.args.slips.now c.loop-i.known.items _ k w (Some c.in_ok-found.found) (omega (arith, below, count)) here refl
          (subst (λ s. IsSlip c.args.self.now.plan.now c.args.self.now.input.now s c.args.self.now.results w c.in_ok-found.found) c.in_ok-go_to.ensures c.in_ok-found.ensures) c.loop-i.invariant.known;
      count = length-set c.loop-i.known.items k (Some c.in_ok-found.found) ∙ count;
      there = c.in_ok-go_to.ensures;
      told = let told = c.tell.ensures.0 in omega (arith, told);
      all = c.tell.ensures.1 ∙ c.loop-i.invariant.all;
    }

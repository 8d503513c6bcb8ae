use Rattle.std.proofs.Common.{length, refl, ap, ◌∙◌, subst, arith, rules}
use Rattle.std.proofs.lemmas.List.{length-set}
use Rattle.std.proofs.lemmas.Option.{slice_get_read}
use Rattle.campaign.specs.Later.{run}
use Rattle.campaign.specs.Struck.{IsKnownVerdict}
use Rattle.campaign.proofs.Making.{none_known, known_more}
use Rattle.campaign.proofs.runs.Runs.verdicts.Goals as goal

pub loop-i-init : goal.loop-i-init
loop-i-init g c = record {
  known = none_known (IsKnownVerdict c.args.self.now) c.args.strikes.now (length c.args.strikes.now) c.in_ok-found.found.items (λ cs. tt) (c.in_ok-found.ensures.items_if_clones_equal (λ y h. search rules));
  count = search rules;
  there = c.in_ok-output.ensures ∙ ap (λ p. run p.output 0) c.self.view_is;
  within = omega arith;
  told = let told = c.begin.ensures.0 in omega (arith, told);
  all = c.begin.ensures.1;
}

pub loop-i-preserved : goal.loop-i-preserved
loop-i-preserved g c =
    let k = c.index.result.now.1 in
    let cs = c.index-strikes-number.result in
    let count = c.loop-i.invariant.count in
    let within = c.loop-i.invariant.within in
    let below = c.if-number-end.false in
    let behind = c.end_behind-end.ensures in
    let here = slice_get_read c.args.strikes.now (length c.args.strikes.now) k cs refl (omega (arith, below, within)) c.index-strikes-number.is in
    record {
      known = known_more (IsKnownVerdict c.args.self.now) c.args.strikes.now c.loop-i.found.items _ k cs c.in_ok-verdict.verdict (omega (arith, below, within, count)) here refl
          (subst (λ xs. IsKnownVerdict c.args.self.now xs c.in_ok-verdict.verdict) c.as_slice-changes.ensures c.in_ok-verdict.ensures) c.loop-i.invariant.known;
      count = length-set c.loop-i.found.items k c.in_ok-verdict.verdict ∙ count;
      there = c.in_ok-go_to.ensures ∙ ap (λ p. run p.output c.first_step-first.result) c.self.view_is;
      within = omega (arith, behind, within);
      told = let told = c.tell.ensures.0 in omega (arith, told);
      all = c.tell.ensures.1 ∙ c.loop-i.invariant.all;
    }

use Rattle.std.proofs.Common.{◌≡◌, ◌+◌, ◌*◌, map, refl, ap, ◌∙◌, arith}
use Rattle.campaign.proofs.Drawing.{after-more, each_none, one_change}
use Rattle.campaign.specs.Draw.{drawn_change, range_of, after, in_order}
use Rattle.campaign.proofs.draw.drawn_strike.Goals as goal

pub loop-init : goal.loop-init
loop-init c = record { made = c.new-made.ensures.items ∙ ap in_order (each_none (λ k. drawn_change (map range_of c.args.plan.now.span) c.args.reach c.args.draws.now.aim (after (3 * k) c.args.rng.now))); rng = refl }

pub loop-preserved : goal.loop-preserved
loop-preserved c =
    let before = c.loop.invariant.rng in
    let spans = map range_of c.args.plan.now.span in
    let sum : 3 * c.loop.counter + 3 ≡ 3 * (c.loop.counter + 1) = omega arith in
    record {
      made = one_change spans c.args.reach c.args.draws.now.aim c.loop.counter c.args.rng.now c.loop.made.items c.add_change.new.changes.items c.drawn_change-change.result c.loop.invariant.made
          (c.drawn_change-change.ensures.change ∙ ap (drawn_change spans c.args.reach c.args.draws.now.aim) before) c.in_ok-add_change.ensures.added;
      rng = c.drawn_change-change.ensures.rng ∙ ap (after 3) before ∙ after-more 3 (3 * c.loop.counter) c.args.rng.now ∙ ap (λ n. after n c.args.rng.now) sum;
    }

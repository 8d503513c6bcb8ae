use Rattle.std.proofs.Common.{◌≡◌, ◌+◌, ◌*◌, ap, ◌∙◌, arith}
use Rattle.campaign.proofs.Drawing.{after-more, each_none, push_each}
use Rattle.campaign.specs.Draw.{after, seeded}
use Rattle.campaign.specs.Slips.{drawn_slip, numbered_slip}
use Rattle.campaign.proofs.slips.drawn_slips.Goals as goal

pub loop-init : goal.loop-init
loop-init c = record { made = c.new-slips.ensures.items ∙ each_none (numbered_slip c.args.reach c.args.draws.now); rng = c.seeded-rng.ensures }

pub loop-preserved : goal.loop-preserved
loop-preserved c =
    let before = c.loop.invariant.rng in
    let sum : 3 * c.loop.counter + 3 ≡ 3 * (c.loop.counter + 1) = omega arith in
    record {
      made = push_each c.loop.counter (numbered_slip c.args.reach c.args.draws.now) c.loop.slips.items c.push.new.self.items c.drawn_slip-slip.result c.in_ok-push.ensures.items c.loop.invariant.made
          (c.drawn_slip-slip.ensures.slip ∙ ap (drawn_slip c.args.reach c.args.draws.now.aim) before);
      rng = c.drawn_slip-slip.ensures.rng ∙ ap (after 3) before ∙ after-more 3 (3 * c.loop.counter) (seeded c.args.draws.now.seed) ∙ ap (λ n. after n (seeded c.args.draws.now.seed)) sum;
    }

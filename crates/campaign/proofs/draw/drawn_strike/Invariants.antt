use Rattle.std.proofs.Common.{◌≡◌, ◌*◌, map}
use Rattle.campaign.specs.Draw.{drawn_change, range_of, after, in_order, each}
use Rattle.campaign.proofs.draw.drawn_strike.Given as goal

-- the changes so far, in order
abbrev pub invariant-loop : goal.invariant-loop
invariant-loop l = record {
  made : l.made.items ≡ in_order (each l.counter (λ k. drawn_change (map range_of l.plan.span) l.reach l.draws.aim (after (3 * k) l.initial.rng)));
  rng : l.rng ≡ after (3 * l.counter) l.initial.rng;
}

use Rattle.std.proofs.Common.{◌≡◌, ◌*◌, map}
use Rattle.campaign.specs.Draw.{drawn_strike, range_of, seeded, after, each}
use Rattle.campaign.proofs.draw.drawn_strikes.Given as goal

-- the strikes so far
abbrev pub invariant-loop : goal.invariant-loop
invariant-loop l = record {
  made : l.strikes.items ≡ each l.counter (λ i. drawn_strike (map range_of l.plan.span) l.reach l.draws.aim l.draws.changes (after (3 * l.draws.changes * i) (seeded l.draws.seed)));
  rng : l.rng ≡ after (3 * l.draws.changes * l.counter) (seeded l.draws.seed);
}

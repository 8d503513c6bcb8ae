use Rattle.std.proofs.Common.{◌≡◌, ◌*◌}
use Rattle.campaign.specs.Draw.{after, each, seeded}
use Rattle.campaign.specs.Slips.{numbered_slip}
use Rattle.campaign.proofs.slips.drawn_slips.Given as goal

-- the slips so far
abbrev pub invariant-loop : goal.invariant-loop
invariant-loop l = record {
  made : l.slips.items ≡ each l.counter (numbered_slip l.reach l.draws);
  rng : l.rng ≡ after (3 * l.counter) (seeded l.draws.seed);
}

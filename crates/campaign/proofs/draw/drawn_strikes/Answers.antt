use Rattle.std.proofs.Common.{◌≡◌, ◌*◌, map, ap, ◌∙◌, subst, sym, arith}
use Rattle.std.specs.Prelude.{All}
use Rattle.campaign.proofs.Drawing.{drawn_all_fit, each_none, more_words, none_drawn, place_of_some, push_each}
use Rattle.campaign.specs.Draw.{drawn_strike, strike_count, drawn_strikes, range_of, word_count, seeded, after, each}
use Rattle.campaign.specs.Struck.{IsStrike}
use Rattle.campaign.proofs.draw.drawn_strikes.Goals as goal

pub loop-init : goal.loop-init
loop-init c = record {
  made = c.new-strikes.ensures.items ∙ each_none (λ i. drawn_strike (map range_of c.args.plan.now.span) c.args.reach c.args.draws.now.aim c.args.draws.now.changes (after (3 * c.args.draws.now.changes * i) (seeded c.args.draws.now.seed)));
  rng = c.seeded-rng.ensures ∙ none_drawn c.args.draws.now.changes (seeded c.args.draws.now.seed);
}

pub loop-preserved : goal.loop-preserved
loop-preserved c =
    let before = c.loop.invariant.rng in
    let spans = map range_of c.args.plan.now.span in
    record {
      made = push_each c.loop.counter (λ i. drawn_strike spans c.args.reach c.args.draws.now.aim c.args.draws.now.changes (after (3 * c.args.draws.now.changes * i) (seeded c.args.draws.now.seed))) c.loop.strikes.items c.push.new.self.items c.in_ok-strike.strike c.in_ok-push.ensures.items c.loop.invariant.made
          (c.in_ok-strike.ensures.strike ∙ ap (drawn_strike spans c.args.reach c.args.draws.now.aim c.args.draws.now.changes) before);
      rng = c.in_ok-strike.ensures.rng ∙ ap (after (3 * c.args.draws.now.changes)) before ∙ more_words c.args.draws.now.changes c.loop.counter (seeded c.args.draws.now.seed);
    }

pub drawn_strike-requires-clause-place : goal.drawn_strike-requires-clause-place
drawn_strike-requires-clause-place c =
    place_of_some c.args.draws.now c.args.plan.now.words c.loop.counter (omega arith)

pub returns-clause-drawn : goal.returns-clause-drawn
unfolding drawn_strikes
returns-clause-drawn c =
    let spans = map range_of c.args.plan.now.span in
    let count : strike_count c.args.draws.now c.args.plan.now.words ≡ strike_count c.args.draws.now (word_count spans) = ap (strike_count c.args.draws.now) c.requires.count in
    let all : c.loop.counter ≡ strike_count c.args.draws.now (word_count spans) = omega (arith, count) in
    c.loop.invariant.made
    ∙ ap (λ n. each n (λ i. drawn_strike spans c.args.reach c.args.draws.now.aim c.args.draws.now.changes (after (3 * c.args.draws.now.changes * i) (seeded c.args.draws.now.seed)))) all

pub returns-clause-fit : goal.returns-clause-fit
returns-clause-fit c = subst (All (IsStrike c.args.plan.now.bounds)) (sym (returns-clause-drawn c)) (drawn_all_fit c.args.plan.now c.args.reach c.args.draws.now c.requires)

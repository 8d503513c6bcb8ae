use Rattle.std.proofs.Common.{rules, ◌≡◌, ◌+◌, ◌-◌, ◌*◌, refl, arith}
use Rattle.std.specs.Prelude.{◌≢◌}
use Rattle.machine.specs.declared.outcome.Outcome.TheVariants.{Going}
use Rattle.campaign.proofs.Leaping.{on_more, on_stops}
use Rattle.campaign.proofs.strike.Strike.steps_beside.Goals as goal

pub loop-number-init : goal.loop-number-init
loop-number-init c = record { on = λ s on. on; behind = omega arith; within = c.requires }

pub returns-then-self-made : goal.returns-then-self-made
returns-then-self-made c = λ s on. c.in_ok-steps.ensures s (c.loop-number.invariant.on s on)

pub returns-then-ne : goal.returns-then-ne
returns-then-ne c = λ s on.
    let within = c.loop-number.invariant.within in
    let fits = c.if-self-made.false in
    let stopped : c.run_made.new.self.state.outcome ≢ Going = search rules in
    on_stops s c.loop-number.made (4096 * c.loop-number.number - c.loop-number.here) c.in_ok-more.more c.args.self.now.bound c.loop-number.machine c.run_made.new.self
    (c.loop-number.invariant.on s on) c.in_ok-more.ensures.run c.in_ok-more.ensures.made (omega (arith, within, fits)) stopped

pub returns-then-stands_at : goal.returns-then-stands_at
returns-then-stands_at c = λ s on.
    let next = 4096 * c.loop-number.number - c.loop-number.here in
    let going : c.run_made.new.self.state.outcome ≡ Going = search rules in
    c.in_ok-steps-2.ensures s (on_more s c.loop-number.made next (c.loop-number.made + next) c.loop-number.machine c.run_made.new.self (c.loop-number.invariant.on s on) c.in_ok-more.ensures.run refl going)

pub loop-number-preserved : goal.loop-number-preserved
loop-number-preserved c =
    let next = 4096 * c.loop-number.number - c.loop-number.here in
    let within = c.loop-number.invariant.within in
    let fits = c.if-self-made.false in
    let going : c.run_made.new.self.state.outcome ≡ Going = search rules in
    record {
      on = λ s on. on_more s c.loop-number.made next (c.loop-number.made + next) c.loop-number.machine c.run_made.new.self (c.loop-number.invariant.on s on) c.in_ok-more.ensures.run refl going;
      behind = omega arith;
      within = omega (arith, within, fits);
    }

pub returns : goal.returns
returns c = λ s on. c.in_ok-steps-3.ensures s (c.loop-number.invariant.on s on)

use Rattle.std.proofs.Common.{rules, ◌≡◌, ◌-◌, sym, ap, ◌∙◌, arith}
use Rattle.std.specs.Prelude.{◌≢◌}
use Rattle.machine.specs.declared.outcome.Outcome.TheVariants.{Going}
use Rattle.campaign.proofs.Leaping.{on_stops}
use Rattle.campaign.proofs.Stopping.{ran_on}
use Rattle.campaign.proofs.stop.steps_to_stop.Goals as goal

pub returns-then-eq : goal.returns-then-eq
returns-then-eq c = λ s on.
    let going : c.run_made.new.self.state.outcome ≡ Going = search rules in
    let fits = c.requires in
    ap (λ t. t.outcome) (sym (ran_on s c.args.machine.now c.run_made.new.self c.args.made (c.args.most - c.args.made) c.args.most on.there c.in_ok-more.ensures.run (omega (arith, fits)))) ∙ going

pub returns : goal.returns
returns c = λ s on.
    let stopped : c.run_made.new.self.state.outcome ≢ Going = search rules in
    let fits = c.requires in
    on_stops s c.args.made (c.args.most - c.args.made) c.in_ok-more.more c.args.most c.args.machine.now c.run_made.new.self on c.in_ok-more.ensures.run c.in_ok-more.ensures.made (omega (arith, fits)) stopped

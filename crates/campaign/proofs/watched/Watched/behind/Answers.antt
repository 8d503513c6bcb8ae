use Rattle.std.proofs.Common.{◌+◌, ◌-◌, refl, ap, ◌∙◌, arith}
use Rattle.machine.specs.Step.{run}
use Rattle.campaign.proofs.Stopping.{ran_on}
use Rattle.campaign.proofs.watched.Watched.behind.Goals as goal

pub returns-clause-there : goal.returns-clause-there
returns-clause-there c =
    let large = c.if-last-self.false in
    let steps = c.self.inside.steps in
    let watched = ap (λ p. p.state) c.in_ok-machine-2.ensures ∙ c.self.invariant.there ∙ ap (λ s. run s steps) c.self.view_is in
    let first = ran_on c.args.self.now c.in_ok-machine-2.machine c.run.new.self steps (c.args.last - steps) c.args.last watched c.in_ok-run.ensures.run (omega (arith, large)) in
    let second = ran_on c.args.self.now c.run.new.self c.run-2.new.self c.args.last 1 (c.args.last + 1) first c.in_ok-run-2.ensures.run refl in
    ran_on c.args.self.now c.run-2.new.self c.run-3.new.self (c.args.last + 1) c.args.more (c.args.last + 1 + c.args.more) second c.in_ok-run-3.ensures.run refl

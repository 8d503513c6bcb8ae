use Rattle.std.proofs.Common.{◌≡◌, ◌+◌, ◌-◌, ◌<◌, ◌≤◌, refl, ap, ◌∙◌, sym, arith}
use Rattle.machine.specs.Step.{run}
use Rattle.campaign.proofs.Stopping.{ran_on}
use Rattle.campaign.proofs.watched.Watched.later.Goals as goal

pub returns-then-from-clause-going : goal.returns-then-from-clause-going
returns-then-from-clause-going c =
    let small : c.args.last + c.args.more < c.self.inside.steps = omega (arith, c.if-from.true, c.from.ensures, c.from-2.ensures, c.from-3.ensures) in
    ap (λ s. (run s (c.args.last + c.args.more)).outcome) (sym c.self.view_is) ∙ c.self.invariant.before (c.args.last + c.args.more) small

pub returns-clause-there : goal.returns-clause-there
returns-clause-there c =
    let large : c.self.inside.steps ≤ c.args.last + c.args.more = omega (arith, c.if-from.false, c.from.ensures, c.from-2.ensures, c.from-3.ensures) in
    let steps = c.self.inside.steps + c.saturating_sub.result in
    let sum : steps + (c.args.more - c.saturating_sub-2.result) ≡ c.args.last + c.args.more = omega (arith, large, c.saturating_sub.ensures, c.saturating_sub-2.ensures) in
    let watched = ap (λ p. p.state) c.in_ok-machine.ensures ∙ c.self.invariant.there ∙ ap (λ s. run s c.self.inside.steps) c.self.view_is in
    let behind = ran_on c.args.self.now c.in_ok-machine.machine c.run.new.self c.self.inside.steps c.saturating_sub.result steps watched c.in_ok-run.ensures.run refl in
    ran_on c.args.self.now c.run.new.self c.run-2.new.self steps (c.args.more - c.saturating_sub-2.result) (c.args.last + c.args.more) behind c.in_ok-run-2.ensures.run sum

use Rattle.std.proofs.Common.{length, ap, ◌∙◌}
use Rattle.harts.specs.HartSteps.{counted_turn}
use Rattle.harts.proofs.Worlds.{turn_counted, outcome_after}
use Rattle.harts.proofs.Steps.{length_turned}
use Rattle.harts.proofs.Playing.{hart_read}
use Rattle.harts.proofs.world.World.turn.Goals as goal

pub returns-clause-turned : goal.returns-clause-turned
returns-clause-turned c =
    let hs = c.self.inside.harts.items in
    let m = c.self.inside.image in
    turn_counted hs m c.step.new.image c.args.hart c.index_mut.result.now c.step.new.self
    (hart_read hs m c.args.self.now c.args.hart c.index_mut.result.now c.self.view_is c.requires c.index_mut.ensures.value)
    c.in_ok-outcome.ensures.step
    ∙ ap (counted_turn c.args.hart) c.self.view_is

pub returns-clause-outcome : goal.returns-clause-outcome
returns-clause-outcome c =
    let hs = c.self.inside.harts.items in
    let m = c.self.inside.image in
    outcome_after hs m c.step.new.image c.args.hart c.index_mut.result.now c.step.new.self
    (hart_read hs m c.args.self.now c.args.hart c.index_mut.result.now c.self.view_is c.requires c.index_mut.ensures.value)
    c.in_ok-outcome.outcome c.in_ok-outcome.ensures.outcome

pub returns-clause-count : goal.returns-clause-count
returns-clause-count c = ap (λ w. length w.world.harts) (returns-clause-turned c) ∙ length_turned c.args.hart c.args.self.now.world

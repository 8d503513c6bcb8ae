use Rattle.std.proofs.Common.{ap, ◌∙◌, sym}
use Rattle.machine.specs.Step.{run}
use Rattle.machine.proofs.Lemmas.{run-more}
use Rattle.campaign.proofs.Looking.{looked_first, looked_next, next_later}
use Rattle.campaign.proofs.strike.Strike.has_closed.Goals as goal

pub loop-change-init : goal.loop-change-init
loop-change-init c = looked_first c.args.machine.now.state c.args.self.now.changes.now c.requires.ordered

pub bring-requires-clause-there : goal.bring-requires-clause-there
bring-requires-clause-there c =
    c.loop-change.invariant.there ∙ ap (λ s. run s c.loop-change.steps) c.requires.there ∙ sym (run-more c.args.self.now.way.now.start c.args.self.now.start c.loop-change.steps)

pub bring-requires-clause-order : goal.bring-requires-clause-order
bring-requires-clause-order c =
    next_later c.args.machine.now.state c.args.self.now.changes.now c.loop-change.change-index c.loop-change.steps c.loop-change.is_closed c.loop-change.machine.state c.change-item.result
    c.loop-change.invariant c.loop-change-test.true c.change-item.is

pub loop-change-preserved : goal.loop-change-preserved
loop-change-preserved c =
    looked_next c.args.machine.now.state c.args.self.now.changes.now c.loop-change.change-index c.loop-change.steps c.loop-change.is_closed c.loop-change.machine.state c.change-item.result c.closed-is_closed.result c.bring.new.machine.state
    c.loop-change.invariant c.loop-change-test.true c.change-item.is c.in_ok-bring.ensures c.closed-is_closed.ensures.exact

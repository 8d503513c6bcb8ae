use Rattle.campaign.proofs.Showing.{stop_shows}
use Rattle.campaign.proofs.strike.Strike.later_verdict.Goals as goal

pub returns : goal.returns
returns c =
    let stops = rw c.in-Some.is at c.in_ok-steps.ensures in
    stop_shows c.args.machine.now.state c.steps_behind.new.machine.state c.args.self.now.bound c.in-Some.steps c.outcome.result c.stopped_verdict.result stops c.outcome.ensures c.stopped_verdict.ensures

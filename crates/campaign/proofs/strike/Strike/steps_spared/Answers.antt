use Rattle.std.proofs.Common.{ap, ◌∙◌, arith}
use Rattle.machine.specs.declared.place.Place.TheVariants.{Word}
use Rattle.machine.specs.Struck.{struck}
use Rattle.campaign.proofs.Leaping.{on_none}
use Rattle.campaign.proofs.Untouched.{spared_on}
use Rattle.campaign.proofs.strike.Strike.steps_spared.Goals as goal

pub returns-then-made-lt-SPACING : goal.returns-then-made-lt-SPACING
returns-then-made-lt-SPACING c = c.in_ok-steps.ensures c.args.machine.now.state (on_none c.args.machine.now.state)

pub returns : goal.returns
returns c =
    let start = c.args.self.now.way.now.start in
    let there = ap (λ r. r.state) c.in_ok-strike.ensures.struck ∙ ap (struck (Word c.args.address) c.args.value) c.in_ok-machine.ensures in
    c.in_ok-steps-2.ensures c.args.machine.now.state
    (spared_on c.args.address c.args.value c.args.self.now.start c.spared-made.result start c.args.machine.now.state c.strike.new.self.state (omega arith) (c.spared-made.ensures.spared start c.requires.trace) c.requires.there there)

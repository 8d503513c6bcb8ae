use Rattle.std.proofs.Common.{◌≡◌, ◌+◌, ap, ◌∙◌, sym, arith}
use Rattle.machine.specs.declared.place.Place.TheVariants.{Word}
use Rattle.machine.specs.Struck.{struck}
use Rattle.machine.specs.Step.{run}
use Rattle.campaign.specs.Found.{TellsStop}
use Rattle.campaign.proofs.Leaping.{on_none, one_on}
use Rattle.campaign.proofs.slips.Slipping.steps_behind.Goals as goal

pub steps_spared-requires-clause-there : goal.steps_spared-requires-clause-there
steps_spared-requires-clause-there c =
    let less = c.if-step-lt18446744073709551615.true in
    let word : c.args.machine.now.state ≡ struck (Word c.in-Some.address) c.in-Some.number (run c.args.output.now.state 1) = rw c.in-Some.is at c.in_ok-address.ensures in
    let start = c.behind-behind.ensures.start (omega (arith, less)) in
    let one = one_on c.args.self.now.output.now.start c.args.output.now.state c.args.step c.requires.there ∙ ap (run c.args.self.now.output.now.start) (sym start)
    ∙ ap (λ w. run w.start c.behind-behind.result.start) (sym c.behind-behind.ensures.way) in
    word ∙ ap (struck (Word c.in-Some.address) c.in-Some.number) one

pub returns : goal.returns
returns c = rw c.behind-behind.ensures.bound at c.in_ok-steps-2.ensures c.args.machine.now.state (on_none c.args.machine.now.state)

use Rattle.std.proofs.Common.{◌≡◌, ◌*◌, ◌/◌, ap, ◌∙◌, arith}
use Rattle.machine.specs.Step.{run}
use Rattle.campaign.proofs.Leaping.{leap_goes, leap_on}
use Rattle.campaign.proofs.strike.Strike.leap_to_stop.Goals as goal

pub returns-then-self-made : goal.returns-then-self-made
returns-then-self-made c = λ s on.
    let short = c.if-self-made.true in
    leap_goes s c.args.machine.now.state c.args.self.now.way.now.start c.args.made (4096 * c.args.number) c.args.self.now.bound c.reach-reach.result c.reach-reach.ensures.reach on c.requires.beside c.requires.part (omega (arith, short))

pub returns : goal.returns
returns c = λ s on.
    let last = 4096 * (c.reach-reach.result / 4096) in
    let there : c.unwrap.result.now.state ≡ run c.args.self.now.way.now.start last = rw c.unwrap.ensures at c.at.ensures.there in
    let number = c.requires.number in
    let is = c.reach-reach.ensures.value in
    c.in_ok-steps.ensures s
    (leap_on s c.args.machine.now.state c.in_ok-machine.field-0.state c.args.self.now.way.now.start c.args.made (4096 * c.args.number) last c.reach-reach.result c.reach-reach.ensures.reach on c.requires.beside
    (omega (arith, number, is)) (omega arith) (ap (λ p. p.state) c.in_ok-machine.ensures ∙ there))

use Rattle.std.proofs.Common.{◌≡◌, ◌+◌, ◌-◌, ap, ◌∙◌, sym, arith}
use Rattle.machine.specs.Step.{run}
use Rattle.machine.proofs.Lemmas.{run-more}
use Rattle.campaign.proofs.Stopping.{progress_state}
use Rattle.campaign.proofs.strike.Strike.bring.Goals as goal

pub returns-then-self-to : goal.returns-then-self-to
returns-then-self-to c =
    let order = c.requires.order in
    let steps : c.args.self.now.start + c.args.to ≡ c.args.self.now.start + c.args.from + (c.args.to - c.args.from) = omega (arith, order) in
    c.in_ok-machine.ensures ∙ ap (run c.args.self.now.way.now.start) steps ∙ run-more c.args.self.now.way.now.start (c.args.self.now.start + c.args.from) (c.args.to - c.args.from) ∙ ap (λ s. run s (c.args.to - c.args.from)) (sym c.requires.there)

pub returns : goal.returns
returns c = ap (λ p. p.state) c.in_ok-run.ensures.run ∙ progress_state c.args.machine.now (c.args.to - c.args.from)

use Rattle.std.proofs.Common.{ap, ◌∙◌}
use Rattle.machine.specs.declared.place.Place.TheVariants.{Word}
use Rattle.machine.specs.Struck.{struck}
use Rattle.machine.specs.Step.{run}
use Rattle.campaign.proofs.Stopping.{progress_state}
use Rattle.campaign.proofs.slips.Slipping.other_word.Goals as goal

pub returns-then-is_beside : goal.returns-then-is_beside
returns-then-is_beside c =
    let word = Word c.in-Some.address in
    let right = ap (λ p. p.state) c.in_ok-run.ensures.run ∙ progress_state c.in_ok-right.right 1 ∙ ap (λ p. run p.state 1) c.in_ok-right.ensures in
    c.is_beside.ensures c.if-is_beside.true ∙ ap (λ p. p.state) c.in_ok-strike.ensures.struck ∙ ap (struck word c.number_at-number.result) right

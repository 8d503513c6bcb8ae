use Rattle.std.proofs.Common.{◌≡◌, ap, ◌∙◌, sym, take, length, arith}
use Rattle.std.proofs.lemmas.List.{length-take}
use Rattle.report.specs.Tally.{counted, with_verdict}
use Rattle.report.proofs.Tallies.{all_counted, next_tally}
use Rattle.report.proofs.tally.Tally.of.Goals as goal

pub add-requires : goal.add-requires
add-requires c =
    let k = c.loop-strike.strike-index in
    let ss = c.args.strikes.now in
    let all : counted c.loop-strike.tally ≡ length (take k ss) = ap counted c.loop-strike.invariant ∙ all_counted (take k ss) c.args.right in
    omega (arith, length-take k ss)

pub loop-strike-preserved : goal.loop-strike-preserved
loop-strike-preserved c =
    c.add.ensures
    ∙ ap (λ t. with_verdict t c.strike-item.result.verdict) c.loop-strike.invariant
    ∙ sym (next_tally c.args.strikes.now c.args.right c.loop-strike.strike-index c.strike-item.result c.loop-strike-test.true c.strike-item.is)

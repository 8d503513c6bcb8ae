use Rattle.std.proofs.Common.{◌≡◌, ap, ◌∙◌, sym, take, length, get_or, arith}
use Rattle.std.proofs.lemmas.List.{length-take}
use Rattle.report.specs.SlipTally.{slips_counted, with_slip}
use Rattle.report.proofs.SlipTallies.{all_slips, behind_all, next_slip}
use Rattle.report.proofs.slip_tally.SlipTally.of.Goals as goal

pub add-requires : goal.add-requires
add-requires c =
    let k = c.loop-slip.slip-index in
    let ss = c.args.found.now in
    let all : slips_counted c.loop-slip.tally ≡ length (take k ss) = ap slips_counted c.loop-slip.invariant ∙ all_slips (take k ss) c.args.right in
    omega (arith, length-take k ss)

pub loop-slip-preserved : goal.loop-slip-preserved
loop-slip-preserved c =
    c.add.ensures
    ∙ ap (λ t. with_slip t (get_or c.args.found.now c.loop-slip.slip-index behind_all).verdict) c.loop-slip.invariant
    ∙ sym (next_slip c.args.found.now c.args.right c.loop-slip.slip-index behind_all c.loop-slip-test.true)

use Rattle.std.proofs.Common.{◌+◌, ◌-◌, ap, ◌∙◌, sym, arith}
use Rattle.std.specs.Prelude.{Some}
use Rattle.rv_step.specs.Slipped.{slipped}
use Rattle.machine.specs.Progress.{progress}
use Rattle.fault_inject.specs.Slipped.{slipped_at}
use Rattle.fault_inject.proofs.Slipping.{part_plain, part_before, part_with, what_before, what_behind, what_there}
use Rattle.fault_inject.proofs.slips.slip_on.Goals as goal
use Rattle.fault_inject.proofs.slips.slip_on.Goals.{then-at-from-via-then-at-from, then-at-from-via-else-at-from+then-to-at}

pub returns-then-at-from-clause-run : goal.returns-then-at-from-clause-run
returns-then-at-from-clause-run g c =
    let at = c.args.slip.now in
    let p = c.args.machine.now in
    let order = c.requires.order in
    c.in_ok-run_on.ensures.run ∙ sym (elim c.then-at-from.branch [
      | then-at-from-via-then-at-from w ↦ (let early = w.if-at-from.true in part_plain at p c.args.from (c.args.to - c.args.from) (λ k lt e. absurd (omega (arith, early, e))))
      | then-at-from-via-else-at-from+then-to-at w ↦ (let late = w.if-to-at.true in part_before at p c.args.from (c.args.to - c.args.from) (omega (arith, late, order)))
    ])

pub returns-then-at-from-clause-slipped : goal.returns-then-at-from-clause-slipped
returns-then-at-from-clause-slipped g c =
    let at = c.args.slip.now in
    let p = c.args.machine.now in
    sym (elim c.then-at-from.branch [
      | then-at-from-via-then-at-from w ↦ what_before at p c.args.from c.args.to w.if-at-from.true
      | then-at-from-via-else-at-from+then-to-at w ↦ what_behind at p c.args.from c.args.to w.if-at-from.false w.if-to-at.true
    ])

pub returns-clause-run : goal.returns-clause-run
returns-clause-run g c =
    let at = c.args.slip.now in
    let there = c.in_ok-what.ensures.run ∙ ap (slipped at.slip) c.in_ok-run_on-2.ensures.run in
    c.in_ok-run_on-3.ensures.run ∙ ap (λ p. progress p (c.args.to - (at.step + 1))) there ∙ sym (part_with at c.args.machine.now c.args.from c.args.to c.if-at-from.false c.if-to-at.false)

pub returns-clause-slipped : goal.returns-clause-slipped
returns-clause-slipped g c =
    let at = c.args.slip.now in
    let p = c.args.machine.now in
    let first = c.if-at-from.false in
    let here = c.in_ok-run_on-2.ensures.run ∙ sym (part_before at p c.args.from (at.step - c.args.from) (omega (arith, first))) in
    ap Some (c.in_ok-what.ensures.slipped ∙ ap (λ q. slipped_at at q.state) here) ∙ sym (what_there at p c.args.from c.args.to first c.if-to-at.false)

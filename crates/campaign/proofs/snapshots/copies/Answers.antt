use Rattle.std.proofs.Common.{◌≡◌, ◌⊎◌, inl, inr, ◌+◌, ◌*◌, ◌<◌, ◌∙◌, arith}
use Rattle.std.proofs.lemmas.Bool.{cases_lt}
use Rattle.machine.specs.Progress.{progress}
use Rattle.machine.proofs.Lemmas.{each_none, push_each}
use Rattle.rv_step.proofs.Running.{none_made}
use Rattle.fault_inject.proofs.Changing.{further}
use Rattle.campaign.proofs.Copying.{reach_made, are_copies}
use Rattle.campaign.proofs.Leaping.{on_none, on_made}
use Rattle.campaign.proofs.snapshots.copies.Goals as goal

pub loop-number-init : goal.loop-number-init
loop-number-init c = record {
  copies = c.new-later.ensures.items ∙ each_none (λ i. progress c.args.machine.now (4096 * (i + 1)));
  there = none_made c.args.machine.now;
  on = on_none c.args.machine.now.state;
}

pub returns-then-made-lt-SPACING : goal.returns-then-made-lt-SPACING
returns-then-made-lt-SPACING c =
    let small = c.if-made-lt-SPACING.true in
    are_copies c.args.machine.now c.loop-number.later.items c.loop-number.number c.in_ok-made.made (4096 * c.loop-number.number + c.in_ok-made.made) c.loop-number.invariant.copies (omega arith) small
    (reach_made c.args.machine.now.state (4096 * c.loop-number.number) 4096 c.in_ok-made.made (4096 * c.loop-number.number + c.in_ok-made.made) c.loop-number.machine c.run_made.new.self
    c.loop-number.invariant.on c.in_ok-made.ensures.run c.in_ok-made.ensures.made (omega arith) (omega (arith, small)) (inl small))

pub loop-number-preserved : goal.loop-number-preserved
loop-number-preserved c =
    let next = further c.args.machine.now c.loop-number.machine c.run_made.new.self (4096 * c.loop-number.number) 4096 (4096 * (c.loop-number.number + 1)) c.loop-number.invariant.there c.in_ok-made.ensures.run (omega arith) in
    let all = c.in_ok-made.ensures.made.within in
    record {
      copies = push_each c.loop-number.number (λ i. progress c.args.machine.now (4096 * (i + 1))) c.loop-number.later.items c.push.new.self.items c.in_ok-copied.copied c.in_ok-push.ensures.items c.loop-number.invariant.copies (c.in_ok-copied.ensures ∙ next);
      there = next;
      on = on_made c.args.machine.now.state (4096 * c.loop-number.number) 4096 c.in_ok-made.made (4096 * (c.loop-number.number + 1)) c.loop-number.machine c.run_made.new.self
          c.loop-number.invariant.on c.in_ok-made.ensures.run c.in_ok-made.ensures.made (omega (arith, all, c.if-made-lt-SPACING.false));
    }

pub returns : goal.returns
returns c =
    let within = c.in_ok-made-2.ensures.made.within in
    let last : c.loop-number.number ≡ 244 = omega arith in
    are_copies c.args.machine.now c.loop-number.later.items c.loop-number.number c.in_ok-made-2.made (999424 + c.in_ok-made-2.made) c.loop-number.invariant.copies (omega (arith, last)) (omega (arith, within))
    (reach_made c.args.machine.now.state (4096 * c.loop-number.number) 576 c.in_ok-made-2.made (999424 + c.in_ok-made-2.made) c.loop-number.machine c.run_made-2.new.self
    c.loop-number.invariant.on c.in_ok-made-2.ensures.run c.in_ok-made-2.ensures.made (omega (arith, last)) (omega (arith, within))
    (elim (cases_lt c.in_ok-made-2.made 576) as (λ _. (c.in_ok-made-2.made < 576) ⊎ (999424 + c.in_ok-made-2.made ≡ 1000000)) [ inl less ↦ inl less | inr more ↦ inr (omega (arith, within, more)) ]))

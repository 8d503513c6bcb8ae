use Rattle.std.proofs.Common.{◌+◌, drop, ap, ◌∙◌, arith}
use Rattle.qed_model.specs.Promise.Changed.{changed}
use Rattle.fault_inject.proofs.Changing.{AllFrom, from_less, left_before, left_none}
use Rattle.fault_inject.proofs.Slipping.{started, next_later, reached_next, ends, what_none, what_on}
use Rattle.fault_inject.proofs.slips.run_slipped.Goals as goal
use Rattle.fault_inject.proofs.slips.run_slipped.Goals.{else-loop-change-test, then-loop-change-test+then-change-n}

pub loop-change-init : goal.loop-change-init
loop-change-init g c = record {
  made = started c.args.machine.now c.args.changes.now c.args.slip.now;
  within = omega arith;
  told = c.begin.ensures.0;
  all = c.begin.ensures.1;
  what = what_none c.args.machine.now.state c.args.changes.now c.args.slip.now;
}

pub slip_on-requires-clause-order : goal.slip_on-requires-clause-order
slip_on-requires-clause-order g c =
    next_later c.args.machine.now c.args.changes.now c.args.slip.now c.loop-change.change-index c.loop-change.steps c.loop-change.machine c.change-item.result c.loop-change-test.true c.change-item.is c.loop-change.invariant.made

pub slip_on-requires-2-clause-order : goal.slip_on-requires-2-clause-order
slip_on-requires-2-clause-order g c = c.loop-change.invariant.within

pub loop-change-preserved : goal.loop-change-preserved
loop-change-preserved g c =
    let m = c.args.machine.now in
    let cs = c.args.changes.now in
    let at = c.args.slip.now in
    let change = c.change-item.result in
    let h = c.loop-change.invariant in
    let later = next_later m cs at c.loop-change.change-index c.loop-change.steps c.loop-change.machine change c.loop-change-test.true c.change-item.is h.made in
    let left = left_before cs c.loop-change.change-index change.step change c.requires c.loop-change-test.true c.change-item.is (omega arith) in
    let state = c.in_ok-make_change.ensures.state ∙ ap (λ p. changed change p.state) c.in_ok-more.ensures.run in
    let steps = c.in_ok-make_change.ensures.steps ∙ ap (λ p. p.steps) c.in_ok-more.ensures.run in
    record {
      made = reached_next m cs at c.loop-change.change-index c.loop-change.steps c.loop-change.machine c.make_change.new.machine change c.requires c.loop-change-test.true c.change-item.is h.made state steps;
      within = c.if-change-n.false;
      told = c.in_ok-more.ensures.told;
      all = c.in_ok-more.ensures.all ∙ h.all;
      what = c.unwrap_or-found.ensures ∙ what_on m cs at c.loop-change.change-index c.loop-change.steps change.step c.loop-change.machine c.loop-change.found c.in_ok-more.more h.made later left h.what c.in_ok-more.ensures.slipped;
    }

pub returns : goal.returns
returns g c =
    let m = c.args.machine.now in
    let cs = c.args.changes.now in
    let at = c.args.slip.now in
    let k = c.loop-change.change-index in
    let h = c.loop-change.invariant in
    let left : AllFrom (c.args.n + 1) (drop k cs) = elim c.loop-change-test.branch [
      | else-loop-change-test w ↦ left_none cs k (c.args.n + 1) w.loop-change-test.false
      | then-loop-change-test+then-change-n w ↦ left_before cs k (c.args.n + 1) w.change-item.result c.requires w.loop-change-test.true w.change-item.is (let late = w.if-change-n.true in omega (arith, late))
    ] in
    let there = c.in_ok-more-2.ensures.run ∙ ends m cs at k c.loop-change.steps c.args.n c.loop-change.machine h.made h.within left in
    record {
      state = ap (λ p. p.state) there;
      steps = ap (λ p. p.steps) there;
      told = (c.in_ok-more-2.ensures.told, c.in_ok-more-2.ensures.all ∙ h.all);
      slipped = c.unwrap_or.ensures ∙ what_on m cs at k c.loop-change.steps c.args.n c.loop-change.machine c.loop-change.found c.in_ok-more-2.more h.made h.within (from_less (c.args.n + 1) c.args.n (drop k cs) (omega arith) left) h.what c.in_ok-more-2.ensures.slipped;
    }
